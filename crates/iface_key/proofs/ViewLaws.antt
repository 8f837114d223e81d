-- What is exported, as it is read.
use Rattle.std.specs.Prelude.{ℕ, ◌<◌, ◌≡◌, ◌≢◌, ◌==◌, ◌++◌, Bool, true, false, cond, List, [], ◌∷◌, Option, Some, None, MatchOption, map, is_some, suc, refl}
use Rattle.std.proofs.Common.{ap, sym, ◌∙◌, subst, arith}
use Rattle.std.specs.Cmp.Lexicographic.{pointwise, same_text, other_text}
use Rattle.std.specs.List.{All, AllByRecursion, IsDistinct}
use Rattle.std.specs.Map.{lookup}
use Rattle.oberon_types.specs.declared.entity.Entity.{Entity}
use Rattle.oberon_types.specs.declared.entity.View.{View}
use Rattle.oberon_types.specs.Entities.{ParamTree, EntityTree, constant_entity, type_entity, variable_entity, procedure_entity, Export, ViewTree, missing_view, broken_view, cyclic_view, exports_view}
use Rattle.oberon_types.specs.Memory.{plain_export, plain_view}
use Rattle.iface_key.specs.Keys.{bool_then, text_then, list_then, option_then, value_then, type_then, param_then, signature_then, entity_then, export_then, view_then, KeyOf}
use Rattle.iface_key.specs.Views.{IsType, IsParam, AreParams, IsResult, IsSignature, IsEntity, IsExport, export_names, AreExports, IsView}
use Rattle.iface_key.specs.Read.{BeginsWithNone, Any}
use Rattle.iface_key.specs.ReadViews.{IsNextParam, IsNextExport}
use Rattle.iface_key.proofs.OneWay.{bool_one, text_one, list_one, param_one, export_one, view_one}
use Rattle.iface_key.proofs.Listed.{Listing, rest_of, so_far}
use Rattle.iface_key.proofs.PartLaws.{option_listing, no_option_item}

pub item_in : {A : Type 0} (P : A → Type 0) (xs zs : List A) (z : A) → All P (xs ++ z ∷ zs) → P z
item_in P [] zs z all = all 0 z (omega arith)
item_in P (x ∷ xs) zs z all = item_in P xs zs z (λ k d h. all (suc k) d (omega (arith, h)))

pub param_listing : Listing (option_then param_then) (list_then param_then)
param_listing = option_listing param_then param_one

pub export_listing : Listing (option_then export_then) (list_then export_then)
export_listing = option_listing export_then export_one

pub next_is_param : (xs zs : List ParamTree) (z : ParamTree) → AreParams (xs ++ z ∷ zs) → IsNextParam (Some z)
next_is_param xs zs z all = item_in IsParam xs zs z all

pub next_is_export : (xs zs : List Export) (z : Export) → AreExports (xs ++ z ∷ zs) → IsNextExport (Some z)
next_is_export xs zs z are = item_in IsExport xs zs z are.1

-- ---- procedures

pub no_param_mark : (text : List ℕ) → BeginsWithNone bool_then Any text → BeginsWithNone param_then IsParam text
no_param_mark text none p rest is e = none p.by_var _ tt e

pub no_param_type : (text behind : List ℕ) (b : Bool) → text ≡ bool_then b behind → BeginsWithNone type_then IsType behind → BeginsWithNone param_then IsParam text
no_param_type text behind b read none p rest is e = none p.ty rest is ((bool_one b p.by_var _ _ (sym read ∙ e)).1)

pub no_signature_params : (text : List ℕ) → BeginsWithNone (list_then param_then) AreParams text → BeginsWithNone signature_then IsSignature text
no_signature_params text none s rest is e = none s.params _ is.0 e

pub no_signature_result : (text behind : List ℕ) (ps : List ParamTree) → text ≡ list_then param_then ps behind → BeginsWithNone (option_then type_then) IsResult behind → BeginsWithNone signature_then IsSignature text
no_signature_result text behind ps read none s rest is e =
    none s.result_type rest is.1 ((list_one param_then param_one ps s.params _ _ (sym read ∙ e)).1)

-- ---- entities

pub no_entity : (text : List ℕ) → text ≡ [] → BeginsWithNone entity_then IsEntity text
no_entity text empty (constant_entity v) rest is e = cc
no_entity text empty (type_entity t) rest is e = cc
no_entity text empty (variable_entity t) rest is e = cc
no_entity text empty (procedure_entity s) rest is e = cc

module _ (text behind : List ℕ) (t : ℕ) (read : text ≡ t ∷ behind) where
  pub no_constant : t ≡ 0 → BeginsWithNone value_then Any behind → BeginsWithNone entity_then IsEntity text
  no_constant tag none (constant_entity v) rest is e = none v rest tt cc
  no_constant tag none (type_entity x) rest is e = cc
  no_constant tag none (variable_entity x) rest is e = cc
  no_constant tag none (procedure_entity s) rest is e = cc

  pub no_type_name : t ≡ 1 → BeginsWithNone type_then IsType behind → BeginsWithNone entity_then IsEntity text
  no_type_name tag none (constant_entity v) rest is e = cc
  no_type_name tag none (type_entity x) rest is e = none x rest is cc
  no_type_name tag none (variable_entity x) rest is e = cc
  no_type_name tag none (procedure_entity s) rest is e = cc

  pub no_variable : t ≡ 2 → BeginsWithNone type_then IsType behind → BeginsWithNone entity_then IsEntity text
  no_variable tag none (constant_entity v) rest is e = cc
  no_variable tag none (type_entity x) rest is e = cc
  no_variable tag none (variable_entity x) rest is e = none x rest is cc
  no_variable tag none (procedure_entity s) rest is e = cc

  pub no_procedure : t ≡ 3 → BeginsWithNone signature_then IsSignature behind → BeginsWithNone entity_then IsEntity text
  no_procedure tag none (constant_entity v) rest is e = cc
  no_procedure tag none (type_entity x) rest is e = cc
  no_procedure tag none (variable_entity x) rest is e = cc
  no_procedure tag none (procedure_entity s) rest is e = none s rest is cc

  pub no_entity_tag : 3 < t → BeginsWithNone entity_then IsEntity text
  no_entity_tag above (constant_entity v) rest is e = let k : t ≡ 0 = cc in omega arith
  no_entity_tag above (type_entity x) rest is e = let k : t ≡ 1 = cc in omega arith
  no_entity_tag above (variable_entity x) rest is e = let k : t ≡ 2 = cc in omega arith
  no_entity_tag above (procedure_entity s) rest is e = let k : t ≡ 3 = cc in omega arith

  pub no_exports : t ≡ 3 → BeginsWithNone (list_then export_then) AreExports behind → BeginsWithNone view_then IsView text
  no_exports tag none missing_view rest is e = cc
  no_exports tag none broken_view rest is e = cc
  no_exports tag none cyclic_view rest is e = cc
  no_exports tag none (exports_view es) rest is e = none es rest is cc

  pub no_view_tag : 3 < t → BeginsWithNone view_then IsView text
  no_view_tag above missing_view rest is e = let k : t ≡ 0 = cc in omega arith
  no_view_tag above broken_view rest is e = let k : t ≡ 1 = cc in omega arith
  no_view_tag above cyclic_view rest is e = let k : t ≡ 2 = cc in omega arith
  no_view_tag above (exports_view es) rest is e = let k : t ≡ 3 = cc in omega arith

pub no_view : (text : List ℕ) → text ≡ [] → BeginsWithNone view_then IsView text
no_view text empty missing_view rest is e = cc
no_view text empty broken_view rest is e = cc
no_view text empty cyclic_view rest is e = cc
no_view text empty (exports_view es) rest is e = cc

-- ---- exports

module _ (text behind : List ℕ) (b : Bool) (read : text ≡ bool_then b behind) (is_true : b ≡ true) where
  here : BeginsWithNone export_then IsExport behind → BeginsWithNone (option_then export_then) IsNextExport text
  here none = no_option_item export_then IsNextExport IsExport text behind b (λ x is. is) read is_true none

  pub no_export_name : BeginsWithNone text_then Any behind → BeginsWithNone (option_then export_then) IsNextExport text
  no_export_name none = here (λ x rest is e. none x.name _ tt e)

  pub no_export_entity : (t1 : List ℕ) (name : List ℕ) → behind ≡ text_then name t1 → BeginsWithNone entity_then IsEntity t1 → BeginsWithNone (option_then export_then) IsNextExport text
  no_export_entity t1 name read1 none = here (λ x rest is e. none x.entity rest is ((text_one name x.name _ _ (sym read1 ∙ e)).1))

  pub export_read : (t1 t2 : List ℕ) (name : List ℕ) (entity : EntityTree) → behind ≡ text_then name t1 → t1 ≡ entity_then entity t2 → text ≡ 1 ∷ text_then name (entity_then entity t2)
  export_read t1 t2 name entity read1 read2 = read ∙ ap (λ x. bool_then x behind) is_true ∙ ap (λ x. 1 ∷ x) (read1 ∙ ap (text_then name) read2)

none_before : (names zs : List (List ℕ)) (k x : List ℕ) → AllByRecursion (λ y. pointwise ◌==◌ x y ≡ false) (names ++ k ∷ zs) → pointwise ◌==◌ x k ≡ false
none_before [] zs k x all = all.0
none_before (n ∷ names) zs k x all = none_before names zs k x all.1

at_first : (b : Bool) (k x : List ℕ) (v w : Entity) (later : Option Entity) → pointwise ◌==◌ k x ≡ b → pointwise ◌==◌ x k ≡ false → cond b (Some w) later ≡ Some v → (later ≡ Some v → ⊥) → ⊥
at_first true k x v w later same apart found others = other_text x k (sym apart) (sym (same_text k x (sym same)))
at_first false k x v w later same apart found others = others found

twice : (es : List (List ℕ × Entity)) (k : List ℕ) (v : Entity) (zs : List (List ℕ)) → lookup (pointwise ◌==◌ k) es ≡ Some v → IsDistinct (pointwise ◌==◌) (export_names (map plain_export es) ++ k ∷ zs) → ⊥
unfolding IsDistinct
twice [] k v zs found apart = cc
twice (x ∷ es) k v zs found apart =
    at_first (pointwise ◌==◌ k x.0) k x.0 v x.1 (lookup (pointwise ◌==◌ k) es) refl (none_before (export_names (map plain_export es)) zs k x.0 apart.0) found (λ later. twice es k v zs later apart.1)

names_more : (xs zs : List Export) (z : Export) → export_names (xs ++ z ∷ zs) ≡ export_names xs ++ z.name ∷ export_names zs
names_more [] zs z = refl
names_more (x ∷ xs) zs z = ap (λ ns. x.name ∷ ns) (names_more xs zs z)

module _ (left behind : List ℕ) (es : List (List ℕ × Entity)) (k : List ℕ) (v w : Entity) (next : left ≡ option_then export_then (Some (plain_export (k, w))) behind) (found : lookup (pointwise ◌==◌ k) es ≡ Some v) where
  not_again : (ys zs : List Export) (s : List ℕ) → ys ≡ map plain_export es ++ zs → left ≡ list_then export_then zs s → IsDistinct (pointwise ◌==◌) (export_names ys) → ⊥
  not_again ys [] s are e apart = cc
  not_again ys (z ∷ zs) s are e apart =
      let one = export_one (plain_export (k, w)) z _ _ (tail_of (sym next ∙ e)) in
      let Apart : List (List ℕ) → Type 0 = λ ns. IsDistinct (pointwise ◌==◌) ns in
      let names : export_names ys ≡ export_names (map plain_export es) ++ k ∷ export_names zs = ap export_names are ∙ names_more (map plain_export es) zs z ∙ ap (λ n. export_names (map plain_export es) ++ n ∷ export_names zs) (sym (ap (λ (x : Export). x.name) one.0)) in
      twice es k v (export_names zs) found (subst Apart names apart)
    where
      tail_of : {n m : ℕ} {r q : List ℕ} → n ∷ r ≡ m ∷ q → r ≡ q
      tail_of h = cc

  pub no_twice : (text : List ℕ) → text ≡ so_far (option_then export_then) (map plain_export es) left → BeginsWithNone (list_then export_then) AreExports text
  no_twice text read ys s is e =
      let h = rest_of (option_then export_then) (list_then export_then) export_listing (map plain_export es) ys left s (sym read ∙ e) in
      not_again ys h.0 s h.1 h.2 is.0

-- ---- whole keys

pub more_behind : (key behind : List ℕ) (v : ViewTree) → key ≡ view_then v behind → behind ≢ [] → (w : ViewTree) → IsView w → KeyOf w key → ⊥
more_behind key behind v read more w is of = more ((view_one v w _ _ (sym read ∙ of)).1)

pub whole_key : (key behind : List ℕ) (v : ViewTree) → key ≡ view_then v behind → behind ≡ [] → KeyOf v key
whole_key key behind v read empty = read ∙ ap (view_then v) empty

pub opened : (key behind : List ℕ) (view : View) (r : Option View) → key ≡ view_then (plain_view view) behind → MatchOption r (behind ≢ []) (λ v. (v ≡ view) × (behind ≡ [])) → MatchOption r ((v : ViewTree) → IsView v → ¬ KeyOf v key) (λ v. KeyOf (plain_view v) key)
opened key behind view None read m = more_behind key behind (plain_view view) read m
opened key behind view (Some v) read m =
    let Of : View → Type 0 = λ w. KeyOf (plain_view w) key in
    subst Of (sym m.0) (whole_key key behind (plain_view view) read m.1)

-- ---- what was there

pub some_of : (o : Option Entity) → is_some o ≡ true → (v : Entity) × (o ≡ Some v)
some_of None e = absurd cc
some_of (Some v) e = (v, refl)

pub none_of : (o : Option Entity) → is_some o ≡ false → o ≡ None
none_of None e = refl
none_of (Some v) e = absurd cc
