-- The canonical form of what a module shows: the key of a view. Each definition `x_then` says how an x stands in
-- front of the rest of a key, so that the form is read from the front and needs no mark where an x ends.
--   a number   four digits to the base 256, the least first; the fourth takes all that is left, and is a byte for
--              each number below 4,294,967,296
--   an integer the number 2n for n, and 2n + 1 for -(n + 1)
--   a text     its bytes, a byte 0 or 1 behind a 1, and a 0 at the end
--   a list     each item behind a 1, and a 0 at the end; what may be lacking likewise
--   a choice   the number of the case as one byte, and then the parts in their order
use Rattle.std.specs.Prelude.{ℕ, ◌+◌, ◌*◌, ◌/◌, ◌%◌, nat_lt, if◌then◌else◌, Bool, true, false, List, [], ◌∷◌, Option, Some, None, ℤ, pos, negsuc, ◌≡◌}
use Rattle.oberon_types.specs.declared.origin.Origin.{Origin}
use Rattle.oberon_types.specs.declared.origin.Step.{Step}
use Rattle.oberon_types.specs.declared.origin.Step.TheVariants as steps
use Rattle.oberon_types.specs.declared.value.Value.{Value}
use Rattle.oberon_types.specs.declared.value.Value.TheVariants as values
use Rattle.oberon_types.specs.Types.{TyTree, unknown_ty, integer_ty, byte_ty, char_ty, boolean_ty, set_ty, string_ty, array_ty, open_ty, record_ty, RecordTree, record_of, BaseTree, no_base, base_of, FieldsTree, no_fields, more_fields}
use Rattle.oberon_types.specs.Entities.{ParamTree, SignatureTree, EntityTree, constant_entity, type_entity, variable_entity, procedure_entity, Export, ViewTree, missing_view, broken_view, cyclic_view, exports_view}

-- ---- numbers, texts and lists

unfoldable pub number_then : ℕ → List ℕ → List ℕ
number_then n rest = n % 256 ∷ n / 256 % 256 ∷ n / 256 / 256 % 256 ∷ n / 256 / 256 / 256 ∷ rest

abbrev pub bool_then : Bool → List ℕ → List ℕ
bool_then false rest = 0 ∷ rest
bool_then true rest = 1 ∷ rest

abbrev pub integer_then : ℤ → List ℕ → List ℕ
integer_then (pos n) rest = number_then (2 * n) rest
integer_then (negsuc n) rest = number_then (2 * n + 1) rest

abbrev pub text_then : List ℕ → List ℕ → List ℕ
text_then [] rest = 0 ∷ rest
text_then (b ∷ bs) rest = if nat_lt b 2 then 1 ∷ b ∷ text_then bs rest else b ∷ text_then bs rest

abbrev pub list_then : {A : Type 0} → (A → List ℕ → List ℕ) → List A → List ℕ → List ℕ
list_then item_then [] rest = 0 ∷ rest
list_then item_then (x ∷ xs) rest = 1 ∷ item_then x (list_then item_then xs rest)

abbrev pub option_then : {A : Type 0} → (A → List ℕ → List ℕ) → Option A → List ℕ → List ℕ
option_then item_then None rest = 0 ∷ rest
option_then item_then (Some x) rest = 1 ∷ item_then x rest

-- ---- constants

abbrev pub value_then : Value → List ℕ → List ℕ
value_then (values.Integer x) rest = 0 ∷ integer_then x rest
value_then (values.Char code) rest = 1 ∷ code ∷ rest
value_then (values.Boolean truth) rest = 2 ∷ bool_then truth rest
value_then (values.Set bits) rest = 3 ∷ number_then bits rest
value_then (values.Str text) rest = 4 ∷ text_then text rest

-- ---- types

abbrev pub step_then : Step → List ℕ → List ℕ
step_then steps.Element rest = 0 ∷ rest
step_then (steps.Field name) rest = 1 ∷ text_then name rest

abbrev pub origin_then : Origin → List ℕ → List ℕ
origin_then o rest = text_then o.«module» (option_then text_then o.procedure (text_then o.name (list_then step_then o.path rest)))

abbrev mutual
  pub type_then : TyTree → List ℕ → List ℕ
  type_then unknown_ty rest = 0 ∷ rest
  type_then integer_ty rest = 1 ∷ rest
  type_then byte_ty rest = 2 ∷ rest
  type_then char_ty rest = 3 ∷ rest
  type_then boolean_ty rest = 4 ∷ rest
  type_then set_ty rest = 5 ∷ rest
  type_then (string_ty count) rest = 6 ∷ number_then count rest
  type_then (array_ty count t) rest = 7 ∷ number_then count (type_then t rest)
  type_then (open_ty t) rest = 8 ∷ type_then t rest
  type_then (record_ty r) rest = 9 ∷ record_then r rest

  pub record_then : RecordTree → List ℕ → List ℕ
  record_then (record_of o b fs size) rest = origin_then o (base_then b (fields_then fs (number_then size rest)))

  pub base_then : BaseTree → List ℕ → List ℕ
  base_then no_base rest = 0 ∷ rest
  base_then (base_of r) rest = 1 ∷ record_then r rest

  pub fields_then : FieldsTree → List ℕ → List ℕ
  fields_then no_fields rest = 0 ∷ rest
  fields_then (more_fields name exported t fs) rest = 1 ∷ text_then name (bool_then exported (type_then t (fields_then fs rest)))

-- ---- what is exported

abbrev pub param_then : ParamTree → List ℕ → List ℕ
param_then p rest = bool_then p.by_var (type_then p.ty rest)

abbrev pub signature_then : SignatureTree → List ℕ → List ℕ
signature_then s rest = list_then param_then s.params (option_then type_then s.result_type rest)

abbrev pub entity_then : EntityTree → List ℕ → List ℕ
entity_then (constant_entity v) rest = 0 ∷ value_then v rest
entity_then (type_entity t) rest = 1 ∷ type_then t rest
entity_then (variable_entity t) rest = 2 ∷ type_then t rest
entity_then (procedure_entity s) rest = 3 ∷ signature_then s rest

abbrev pub export_then : Export → List ℕ → List ℕ
export_then e rest = text_then e.name (entity_then e.entity rest)

abbrev pub view_then : ViewTree → List ℕ → List ℕ
view_then missing_view rest = 0 ∷ rest
view_then broken_view rest = 1 ∷ rest
view_then cyclic_view rest = 2 ∷ rest
view_then (exports_view es) rest = 3 ∷ list_then export_then es rest

-- ---- the key of a view, which nothing stands behind

abbrev pub key_of_view : ViewTree → List ℕ
key_of_view v = view_then v []

abbrev pub KeyOf : ViewTree → List ℕ → Type 0
KeyOf v key = key ≡ key_of_view v
