-- What a module shows: its exports in the order of their names, with their types written out, and how much that weighs.
-- And what the module Out shows, which has no text.
use Rattle.std.specs.Prelude.{ℕ, ◌+◌, Bool, false, nat_lt, if◌then◌else◌, codes, List, [], ◌∷◌, map, length, Option, Some, None}
use Rattle.std.specs.Option.{option_map}
use Rattle.oberon_types.specs.declared.value.Value.{Value}
use Rattle.oberon_types.specs.declared.value.Value.TheVariants as values
use Rattle.oberon_types.specs.declared.origin.Origin.{Origin}
use Rattle.oberon_types.specs.Types.{TyTree, unknown_ty, integer_ty, byte_ty, char_ty, boolean_ty, set_ty, string_ty, array_ty, open_ty, record_ty, RecordTree, record_of, BaseTree, no_base, base_of, FieldsTree, no_fields, more_fields}
use Rattle.oberon_types.specs.Sizes.{weight}
use Rattle.oberon_types.specs.Entities.{ParamTree, SignatureTree, EntityTree, constant_entity, type_entity, variable_entity, procedure_entity, Export, ViewTree, missing_view, broken_view, cyclic_view, exports_view}
use Rattle.oberon_rules.specs.Order.{name_before}
use Rattle.oberon_rules.specs.Scopes.{Meaning, constant_meaning, type_meaning, variable_meaning, procedure_meaning, Entry}

-- ---- types with those fields alone that a test lets through, by the record's origin and the export mark

abbrev mutual
  pub kept : (Origin → Bool → Bool) → TyTree → TyTree
  kept p unknown_ty = unknown_ty
  kept p integer_ty = integer_ty
  kept p byte_ty = byte_ty
  kept p char_ty = char_ty
  kept p boolean_ty = boolean_ty
  kept p set_ty = set_ty
  kept p (string_ty n) = string_ty n
  kept p (array_ty n t) = array_ty n (kept p t)
  kept p (open_ty t) = open_ty (kept p t)
  kept p (record_ty r) = record_ty (kept_record p r)

  pub kept_record : (Origin → Bool → Bool) → RecordTree → RecordTree
  kept_record p (record_of o b fs n) = record_of o (kept_base p b) (kept_fields p o fs) n

  pub kept_base : (Origin → Bool → Bool) → BaseTree → BaseTree
  kept_base p no_base = no_base
  kept_base p (base_of r) = base_of (kept_record p r)

  pub kept_fields : (Origin → Bool → Bool) → Origin → FieldsTree → FieldsTree
  kept_fields p o no_fields = no_fields
  kept_fields p o (more_fields name exported t fs) = if p o exported then more_fields name exported (kept p t) (kept_fields p o fs) else kept_fields p o fs

-- as views have it: exported fields alone; the size is that of all fields
abbrev pub written : TyTree → TyTree
written = kept (λ o exported. exported)

-- ---- with each type mapped

abbrev pub map_param : (TyTree → TyTree) → ParamTree → ParamTree
map_param h p = record { by_var = p.by_var; ty = h p.ty }

abbrev pub map_signature : (TyTree → TyTree) → SignatureTree → SignatureTree
map_signature h p = record { params = map (map_param h) p.params; result_type = option_map h p.result_type }

abbrev pub map_entity : (TyTree → TyTree) → EntityTree → EntityTree
map_entity h (constant_entity v) = constant_entity v
map_entity h (type_entity t) = type_entity (h t)
map_entity h (variable_entity t) = variable_entity (h t)
map_entity h (procedure_entity p) = procedure_entity (map_signature h p)

abbrev pub map_export : (TyTree → TyTree) → Export → Export
map_export h e = record { name = e.name; entity = map_entity h e.entity }

abbrev pub map_view : (TyTree → TyTree) → ViewTree → ViewTree
map_view h missing_view = missing_view
map_view h broken_view = broken_view
map_view h cyclic_view = cyclic_view
map_view h (exports_view es) = exports_view (map (map_export h) es)

-- ---- what is exported, in the order of names

abbrev pub put_in : Export → List Export → List Export
put_in e [] = e ∷ []
put_in e (x ∷ xs) = if name_before e.name x.name then e ∷ x ∷ xs else x ∷ put_in e xs

-- what is unknown, a predeclared word and an import are in no view
abbrev pub entity_of : Meaning → Option EntityTree
entity_of (constant_meaning v) = Some (constant_entity v)
entity_of (type_meaning t) = Some (type_entity t)
entity_of (variable_meaning t a) = Some (variable_entity t)
entity_of (procedure_meaning p) = Some (procedure_entity p)
entity_of _ = None

abbrev pub put_entity : List ℕ → Option EntityTree → List Export → List Export
put_entity x None es = es
put_entity x (Some e) es = put_in (record { name = x; entity = e }) es

abbrev pub exported_in : List Entry → List Export
exported_in [] = []
exported_in (e ∷ es) = if e.exported then put_entity e.name (entity_of e.meaning) (exported_in es) else exported_in es

-- ---- the weight of an interface: 1 for each export, the weights of its types as written, and the bytes of strings

abbrev pub weight_of_value : Value → ℕ
weight_of_value (values.Str x) = length x
weight_of_value _ = 0

abbrev pub weight_of_params : List ParamTree → ℕ
weight_of_params [] = 0
weight_of_params (p ∷ ps) = weight [] (written p.ty) + weight_of_params ps

abbrev pub weight_of_result : Option TyTree → ℕ
weight_of_result None = 0
weight_of_result (Some t) = weight [] (written t)

abbrev pub weight_of_entity : EntityTree → ℕ
weight_of_entity (constant_entity v) = 1 + weight_of_value v
weight_of_entity (type_entity t) = 1 + weight [] (written t)
weight_of_entity (variable_entity t) = 1 + weight [] (written t)
weight_of_entity (procedure_entity p) = 1 + weight_of_params p.params + weight_of_result p.result_type

abbrev pub interface_weight : List Export → ℕ
interface_weight [] = 0
interface_weight (e ∷ es) = weight_of_entity e.entity + interface_weight es

abbrev pub is_interface_too_large : List Export → Bool
is_interface_too_large es = nat_lt 65536 (interface_weight es)

-- ---- the module Out: Int(x, n: INTEGER), Char(c: CHAR), String(s: ARRAY OF CHAR) and Ln

abbrev value_param : TyTree → ParamTree
value_param t = record { by_var = false; ty = t }

abbrev shown_procedure : List ℕ → List ParamTree → Export
shown_procedure x ps = record { name = x; entity = procedure_entity (record { params = ps; result_type = None }) }

unfoldable pub out_view : ViewTree
out_view = exports_view (
    shown_procedure (codes "Char") (value_param char_ty ∷ [])
    ∷ shown_procedure (codes "Int") (value_param integer_ty ∷ value_param integer_ty ∷ [])
    ∷ shown_procedure (codes "Ln") []
    ∷ shown_procedure (codes "String") (value_param (open_ty char_ty) ∷ [])
    ∷ [])
