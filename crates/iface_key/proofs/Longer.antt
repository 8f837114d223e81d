-- What stands in front of a rest makes it no shorter, so that reading comes to an end.
use Rattle.std.specs.Prelude.{ℕ, ◌<◌, ◌≤◌, ◌≡◌, nat_lt, if◌then◌else◌, Bool, true, false, List, [], ◌∷◌, length, Option, Some, None, pos, negsuc}
use Rattle.std.proofs.Common.{ap, arith}
use Rattle.oberon_types.specs.declared.origin.Step.TheVariants as steps
use Rattle.oberon_types.specs.declared.value.Value.TheVariants as values
use Rattle.oberon_types.specs.Types.{string_ty, array_ty, open_ty, record_ty, record_of, no_base, base_of, no_fields, more_fields}
use Rattle.oberon_types.specs.Entities.{constant_entity, type_entity, variable_entity, procedure_entity}
use Rattle.iface_key.specs.Keys.{number_then, bool_then, integer_then, text_then, list_then, option_then, value_then, step_then, origin_then, type_then, record_then, base_then, fields_then, param_then, entity_then, export_then}
use Rattle.iface_key.specs.ReadTypes.{field_then}

abbrev pub Longer : {A : Type 0} → (A → List ℕ → List ℕ) → Type 0
Longer {A} part_then = (x : A) (rest : List ℕ) → length rest ≤ length (part_then x rest)

number_longer : Longer number_then
unfolding number_then
number_longer n rest = omega arith

bool_longer : Longer bool_then
bool_longer false rest = omega arith
bool_longer true rest = omega arith

integer_longer : Longer integer_then
integer_longer (pos n) rest = number_longer _ rest
integer_longer (negsuc n) rest = number_longer _ rest

letter_longer : (b : ℕ) (p : Bool) (rest more : List ℕ) → length rest ≤ length more → length rest ≤ length (if p then 1 ∷ b ∷ more else b ∷ more)
letter_longer b true rest more h = omega arith
letter_longer b false rest more h = omega arith

pub text_longer : Longer text_then
text_longer [] rest = omega arith
text_longer (b ∷ bs) rest = letter_longer b (nat_lt b 2) rest (text_then bs rest) (text_longer bs rest)

list_longer : {A : Type 0} (item_then : A → List ℕ → List ℕ) → Longer item_then → Longer (list_then item_then)
list_longer item_then longer [] rest = omega arith
list_longer item_then longer (x ∷ xs) rest =
    let h = list_longer item_then longer xs rest in
    let k = longer x (list_then item_then xs rest) in
    omega (arith, h, k)

option_longer : {A : Type 0} (item_then : A → List ℕ → List ℕ) → Longer item_then → Longer (option_then item_then)
option_longer item_then longer None rest = omega arith
option_longer item_then longer (Some x) rest = let k = longer x rest in omega (arith, k)

-- an item that is read leaves less
pub item_smaller : {A : Type 0} (item_then : A → List ℕ → List ℕ) → Longer item_then → (o : Option A) (left behind : List ℕ) → left ≡ option_then item_then o behind → length behind < length left
item_smaller item_then longer None left behind e = omega (arith, ap length e)
item_smaller item_then longer (Some x) left behind e = let k = longer x behind in omega (arith, k, ap length e)

value_longer : Longer value_then
value_longer (values.Integer x) rest = let h = integer_longer x rest in omega (arith, h)
value_longer (values.Char x) rest = omega arith
value_longer (values.Boolean x) rest = let h = bool_longer x rest in omega (arith, h)
value_longer (values.Set x) rest = let h = number_longer x rest in omega (arith, h)
value_longer (values.Str x) rest = let h = text_longer x rest in omega (arith, h)

pub step_longer : Longer step_then
step_longer steps.Element rest = omega arith
step_longer (steps.Field x) rest = let h = text_longer x rest in omega (arith, h)

origin_longer : Longer origin_then
origin_longer o rest =
    let d = list_longer step_then step_longer o.path rest in
    let c = text_longer o.name (list_then step_then o.path rest) in
    let b = option_longer text_then text_longer o.procedure (text_then o.name (list_then step_then o.path rest)) in
    let a = text_longer o.«module» (option_then text_then o.procedure (text_then o.name (list_then step_then o.path rest))) in
    omega (arith, a, b, c, d)

mutual
  pub type_longer : Longer type_then
  type_longer (string_ty n) rest = let h = number_longer n rest in omega (arith, h)
  type_longer (array_ty n t) rest =
      let h = number_longer n (type_then t rest) in
      let k = type_longer t rest in
      omega (arith, h, k)
  type_longer (open_ty t) rest = let k = type_longer t rest in omega (arith, k)
  type_longer (record_ty r) rest = let k = record_longer r rest in omega (arith, k)
  type_longer _ rest = omega arith

  record_longer : Longer record_then
  record_longer (record_of o b fs n) rest =
      let d = number_longer n rest in
      let c = fields_longer fs (number_then n rest) in
      let e = base_longer b (fields_then fs (number_then n rest)) in
      let a = origin_longer o (base_then b (fields_then fs (number_then n rest))) in
      omega (arith, a, c, d, e)

  base_longer : Longer base_then
  base_longer no_base rest = omega arith
  base_longer (base_of r) rest = let k = record_longer r rest in omega (arith, k)

  fields_longer : Longer fields_then
  fields_longer no_fields rest = omega arith
  fields_longer (more_fields x exported t fs) rest =
      let d = fields_longer fs rest in
      let c = type_longer t (fields_then fs rest) in
      let b = bool_longer exported (type_then t (fields_then fs rest)) in
      let a = text_longer x (bool_then exported (type_then t (fields_then fs rest))) in
      omega (arith, a, b, c, d)

pub field_longer : Longer field_then
field_longer f rest =
    let c = type_longer f.ty rest in
    let b = bool_longer f.exported (type_then f.ty rest) in
    let a = text_longer f.name (bool_then f.exported (type_then f.ty rest)) in
    omega (arith, a, b, c)

pub param_longer : Longer param_then
param_longer p rest =
    let b = type_longer p.ty rest in
    let a = bool_longer p.by_var (type_then p.ty rest) in
    omega (arith, a, b)

entity_longer : Longer entity_then
entity_longer (constant_entity v) rest = let h = value_longer v rest in omega (arith, h)
entity_longer (type_entity t) rest = let h = type_longer t rest in omega (arith, h)
entity_longer (variable_entity t) rest = let h = type_longer t rest in omega (arith, h)
entity_longer (procedure_entity s) rest =
    let b = option_longer type_then type_longer s.result_type rest in
    let a = list_longer param_then param_longer s.params (option_then type_then s.result_type rest) in
    omega (arith, a, b)

pub export_longer : Longer export_then
export_longer e rest =
    let b = entity_longer e.entity rest in
    let a = text_longer e.name (entity_then e.entity rest) in
    omega (arith, a, b)
