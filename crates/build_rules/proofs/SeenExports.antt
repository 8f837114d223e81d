-- What a module exports, its weight and how it is written out, is the same by what it sees of its imports' entities.
use Rattle.std.specs.Prelude.{ℕ, ◌≡◌, ◌+◌, nat_lt, Bool, true, false, if◌then◌else◌, List, [], ◌∷◌, map, Option, Some, None, refl}
use Rattle.std.specs.Option.{option_map}
use Rattle.std.proofs.Common.{ap, ◌∙◌}
use Rattle.ob_text.specs.declared.code.Code.TheVariants as codes_of
use Rattle.oberon_tree.specs.Trees.{ModuleTree}
use Rattle.oberon_types.specs.declared.origin.Origin.{Origin}
use Rattle.oberon_types.specs.Types.{TyTree, unknown_ty, integer_ty, byte_ty, char_ty, boolean_ty, set_ty, string_ty, array_ty, open_ty, record_ty, RecordTree, record_of, BaseTree, no_base, base_of, FieldsTree, no_fields, more_fields, same_name}
use Rattle.oberon_types.specs.Sizes.{sees, weight}
use Rattle.oberon_types.specs.Entities.{ParamTree, EntityTree, constant_entity, type_entity, variable_entity, procedure_entity, Export, ViewTree, broken_view, exports_view}
use Rattle.oberon_rules.specs.Judged.{all_said, has_error, declared_view}
use Rattle.oberon_rules.specs.Module.{module_says, whole_scope}
use Rattle.oberon_rules.specs.Order.{name_before}
use Rattle.oberon_rules.specs.Scopes.{Meaning, unknown_meaning, constant_meaning, type_meaning, variable_meaning, procedure_meaning, word_meaning, import_meaning, Entry, Scopes, row}
use Rattle.oberon_rules.specs.Views.{kept, kept_record, kept_base, kept_fields, written, map_param, map_entity, map_export, map_view, put_in, entity_of, put_entity, exported_in, weight_of_params, weight_of_result, weight_of_entity, interface_weight, is_interface_too_large}
use Rattle.oberon_rules.proofs.AgreeModule.{map_views, module_says_seen, whole_scope_seen}
use Rattle.oberon_rules.proofs.AgreeNames.{choose, map_meaning, map_entry}
use Rattle.oberon_rules.proofs.Seen.{seen}

-- ---- what is seen, written out, is what is written out

abbrev in_views : Origin → Bool → Bool
in_views o exported = exported

hidden_twice : (me : List ℕ) (o : Origin) (name : List ℕ) (exported : Bool) (t u : TyTree) (fs : FieldsTree) → kept in_views u ≡ kept in_views t → kept_fields in_views o (kept_fields (sees me) o fs) ≡ kept_fields in_views o fs
    → kept_fields in_views o (if sees me o exported then more_fields name exported u (kept_fields (sees me) o fs) else kept_fields (sees me) o fs) ≡ kept_fields in_views o (more_fields name exported t fs)
hidden_twice me o name true t u fs p q = ap (λ y. more_fields name true y (kept_fields in_views o (kept_fields (sees me) o fs))) p ∙ ap (λ y. more_fields name true (kept in_views t) y) q
hidden_twice me o name false t u fs p q = by (same_name o.«module» me)
  where
    by : (b : Bool) → kept_fields in_views o (if b then more_fields name false u (kept_fields (sees me) o fs) else kept_fields (sees me) o fs) ≡ kept_fields in_views o fs
    by true = q
    by false = q

module _ (me : List ℕ) where
  mutual
    written_seen : (t : TyTree) → written (seen me t) ≡ written t
    written_seen unknown_ty = refl
    written_seen integer_ty = refl
    written_seen byte_ty = refl
    written_seen char_ty = refl
    written_seen boolean_ty = refl
    written_seen set_ty = refl
    written_seen (string_ty n) = refl
    written_seen (array_ty n t) = ap (λ y. array_ty n y) (written_seen t)
    written_seen (open_ty t) = ap (λ y. open_ty y) (written_seen t)
    written_seen (record_ty r) = ap (λ y. record_ty y) (record_twice r)

    record_twice : (r : RecordTree) → kept_record in_views (kept_record (sees me) r) ≡ kept_record in_views r
    record_twice (record_of o b fs n) =
        ap (λ y. record_of o y (kept_fields in_views o (kept_fields (sees me) o fs)) n) (base_twice b)
        ∙ ap (λ y. record_of o (kept_base in_views b) y n) (fields_twice o fs)

    base_twice : (b : BaseTree) → kept_base in_views (kept_base (sees me) b) ≡ kept_base in_views b
    base_twice no_base = refl
    base_twice (base_of r) = ap (λ y. base_of y) (record_twice r)

    fields_twice : (o : Origin) (fs : FieldsTree) → kept_fields in_views o (kept_fields (sees me) o fs) ≡ kept_fields in_views o fs
    fields_twice o no_fields = refl
    fields_twice o (more_fields name exported t fs) = hidden_twice me o name exported t (seen me t) fs (written_seen t) (fields_twice o fs)

  -- ---- entities and exports

  params_twice : (ps : List ParamTree) → map (map_param written) (map (map_param (seen me)) ps) ≡ map (map_param written) ps
  params_twice [] = refl
  params_twice (p ∷ ps) =
      ap (λ (t : TyTree). record { by_var = p.by_var; ty = t } ∷ map (map_param written) (map (map_param (seen me)) ps)) (written_seen p.ty)
      ∙ ap (λ (qs : List ParamTree). map_param written p ∷ qs) (params_twice ps)

  result_twice : (r : Option TyTree) → option_map written (option_map (seen me) r) ≡ option_map written r
  result_twice None = refl
  result_twice (Some t) = ap (λ (u : TyTree). Some u) (written_seen t)

  entity_twice : (e : EntityTree) → map_entity written (map_entity (seen me) e) ≡ map_entity written e
  entity_twice (constant_entity v) = refl
  entity_twice (type_entity t) = ap (λ (u : TyTree). type_entity u) (written_seen t)
  entity_twice (variable_entity t) = ap (λ (u : TyTree). variable_entity u) (written_seen t)
  entity_twice (procedure_entity p) =
      ap (λ (ps : List ParamTree). procedure_entity (record { params = ps; result_type = option_map written (option_map (seen me) p.result_type) })) (params_twice p.params)
      ∙ ap (λ (r : Option TyTree). procedure_entity (record { params = map (map_param written) p.params; result_type = r })) (result_twice p.result_type)

  exports_twice : (es : List Export) → map (map_export written) (map (map_export (seen me)) es) ≡ map (map_export written) es
  exports_twice [] = refl
  exports_twice (e ∷ es) =
      ap (λ (x : EntityTree). record { name = e.name; entity = x } ∷ map (map_export written) (map (map_export (seen me)) es)) (entity_twice e.entity)
      ∙ ap (λ (xs : List Export). map_export written e ∷ xs) (exports_twice es)

  -- ---- weights

  params_weigh : (ps : List ParamTree) → weight_of_params (map (map_param (seen me)) ps) ≡ weight_of_params ps
  params_weigh [] = refl
  params_weigh (p ∷ ps) =
      ap (λ (t : TyTree). weight [] t + weight_of_params (map (map_param (seen me)) ps)) (written_seen p.ty)
      ∙ ap (λ n. weight [] (written p.ty) + n) (params_weigh ps)

  result_weighs : (r : Option TyTree) → weight_of_result (option_map (seen me) r) ≡ weight_of_result r
  result_weighs None = refl
  result_weighs (Some t) = ap (λ (u : TyTree). weight [] u) (written_seen t)

  entity_weighs : (e : EntityTree) → weight_of_entity (map_entity (seen me) e) ≡ weight_of_entity e
  entity_weighs (constant_entity v) = refl
  entity_weighs (type_entity t) = ap (λ (u : TyTree). 1 + weight [] u) (written_seen t)
  entity_weighs (variable_entity t) = ap (λ (u : TyTree). 1 + weight [] u) (written_seen t)
  entity_weighs (procedure_entity p) =
      ap (λ n. 1 + n + weight_of_result (option_map (seen me) p.result_type)) (params_weigh p.params)
      ∙ ap (λ n. 1 + weight_of_params p.params + n) (result_weighs p.result_type)

  interface_weighs : (es : List Export) → interface_weight (map (map_export (seen me)) es) ≡ interface_weight es
  interface_weighs [] = refl
  interface_weighs (e ∷ es) =
      ap (λ n. n + interface_weight (map (map_export (seen me)) es)) (entity_weighs e.entity)
      ∙ ap (λ n. weight_of_entity e.entity + n) (interface_weighs es)

-- ---- exports of a scope

put_map : (h : TyTree → TyTree) (e : Export) (es : List Export) → put_in (map_export h e) (map (map_export h) es) ≡ map (map_export h) (put_in e es)
put_map h e [] = refl
put_map h e (x ∷ xs) =
    ap (λ (ys : List Export). if name_before e.name x.name then map_export h e ∷ map_export h x ∷ map (map_export h) xs else map_export h x ∷ ys) (put_map h e xs)
    ∙ choose (map (map_export h)) (name_before e.name x.name) (e ∷ x ∷ xs) (x ∷ put_in e xs)

put_entity_map : (h : TyTree → TyTree) (x : List ℕ) (e : Option EntityTree) (es : List Export) → put_entity x (option_map (map_entity h) e) (map (map_export h) es) ≡ map (map_export h) (put_entity x e es)
put_entity_map h x None es = refl
put_entity_map h x (Some e) es = put_map h (record { name = x; entity = e }) es

entity_map : (h : TyTree → TyTree) (m : Meaning) → entity_of (map_meaning h m) ≡ option_map (map_entity h) (entity_of m)
entity_map h unknown_meaning = refl
entity_map h (constant_meaning v) = refl
entity_map h (type_meaning t) = refl
entity_map h (variable_meaning t a) = refl
entity_map h (procedure_meaning p) = refl
entity_map h (word_meaning x) = refl
entity_map h (import_meaning v) = refl

exported_map : (h : TyTree → TyTree) (es : List Entry) → exported_in (map (map_entry h) es) ≡ map (map_export h) (exported_in es)
exported_map h [] = refl
exported_map h (e ∷ es) =
    ap (λ (xs : List Export). if e.exported then put_entity e.name (entity_of (map_meaning h e.meaning)) xs else xs) (exported_map h es)
    ∙ ap (λ (x : Option EntityTree). if e.exported then put_entity e.name x (map (map_export h) (exported_in es)) else map (map_export h) (exported_in es)) (entity_map h e.meaning)
    ∙ ap (λ (xs : List Export). if e.exported then xs else map (map_export h) (exported_in es)) (put_entity_map h e.name (entity_of e.meaning) (exported_in es))
    ∙ choose (map (map_export h)) e.exported (put_entity e.name (entity_of e.meaning) (exported_in es)) (exported_in es)

-- ---- the module

module _ (me : List ℕ) (own : same_name me me ≡ true) (views : List ℕ → ViewTree) (m : ModuleTree) where
  exports_seen : exported_in (whole_scope me (map_views (seen me) views) m).globals ≡ map (map_export (seen me)) (exported_in (whole_scope me views m).globals)
  exports_seen = ap (λ (s : Scopes). exported_in s.globals) (whole_scope_seen me own views m) ∙ exported_map (seen me) (whole_scope me views m).globals

  large_seen : is_interface_too_large (exported_in (whole_scope me (map_views (seen me) views) m).globals) ≡ is_interface_too_large (exported_in (whole_scope me views m).globals)
  large_seen =
      ap (λ (es : List Export). is_interface_too_large es) exports_seen
      ∙ ap (λ n. nat_lt 65536 n) (interface_weighs me (exported_in (whole_scope me views m).globals))

  pub all_said_seen : all_said me (map_views (seen me) views) m ≡ all_said me views m
  all_said_seen =
      ap (λ b. row b m.name.span codes_of.InterfaceTooLarge (module_says me (map_views (seen me) views) m)) large_seen
      ∙ ap (λ said. row (is_interface_too_large (exported_in (whole_scope me views m).globals)) m.name.span codes_of.InterfaceTooLarge said) (module_says_seen me own views m)

  pub declared_seen : map_view written (declared_view me (map_views (seen me) views) m) ≡ map_view written (declared_view me views m)
  declared_seen =
      ap (λ said. map_view written (if has_error said then broken_view else exports_view (exported_in (whole_scope me (map_views (seen me) views) m).globals))) all_said_seen
      ∙ ap (λ (es : List Export). map_view written (if has_error (all_said me views m) then broken_view else exports_view es)) exports_seen
      ∙ by (has_error (all_said me views m)) (exported_in (whole_scope me views m).globals)
    where
      by : (b : Bool) (es : List Export) → map_view written (if b then broken_view else exports_view (map (map_export (seen me)) es)) ≡ map_view written (if b then broken_view else exports_view es)
      by true es = refl
      by false es = ap (λ (xs : List Export). exports_view xs) (exports_twice me es)
