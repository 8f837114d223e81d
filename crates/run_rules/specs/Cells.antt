-- Variables: a variable is a row of cells, one for each scalar, each array element after the one before it and each
-- record with its base first. What stands for a variable is a spot: the place of its first cell, and its type.
use Rattle.std.specs.Prelude.{ℕ, zero, suc, ◌+◌, ◌*◌, nat_lt, Bool, true, false, ◌&&◌, if◌then◌else◌, List, [], ◌∷◌, ◌++◌, take, drop, length, slice_get, Option, Some, None, ℤ, pos, negsuc}
use Rattle.oberon_types.specs.declared.origin.Origin.{Origin}
use Rattle.oberon_types.specs.declared.value.Value.{Value}
use Rattle.oberon_types.specs.declared.value.Value.TheVariants as values
use Rattle.oberon_types.specs.Types.{TyTree, integer_ty, byte_ty, char_ty, boolean_ty, set_ty, array_ty, record_ty, RecordTree, record_of, BaseTree, no_base, base_of, FieldsTree, no_fields, more_fields, same_name}
use Rattle.oberon_types.specs.Sizes.{size_of, size_of_base, sees}
use Rattle.oberon_rules.specs.Procedures.{is_structured}
use Rattle.run_rules.specs.declared.trap_kind.TrapKind.TheVariants as traps
use Rattle.run_rules.specs.World.{went, Gives, then_do, At, trap, stuck, ticks, with_cells}

-- `actual` is the type of the variable that a VAR parameter of a record type stands for
pub record Spot : Type 0 where
  pub place : ℕ
  pub ty : TyTree
  pub actual : Option RecordTree

abbrev pub spot_at : ℕ → TyTree → Spot
spot_at place t = record { place = place; ty = t; actual = None }

-- what a designator or an expression gives: a single value, all cells of an array or a record, or nothing, as a call of a
-- proper procedure does
pub data Operand : Type 0 where
  single : Value → Operand
  structured : TyTree → List Value → Operand
  nothing : Operand

-- ---- the first values of a variable

abbrev pub repeated : ℕ → List Value → List Value
repeated zero vs = []
repeated (suc n) vs = vs ++ repeated n vs

abbrev mutual
  pub first_values : TyTree → List Value
  first_values integer_ty = values.Integer (pos 0) ∷ []
  first_values byte_ty = values.Integer (pos 0) ∷ []
  first_values char_ty = values.Char 0 ∷ []
  first_values boolean_ty = values.Boolean false ∷ []
  first_values set_ty = values.Set 0 ∷ []
  first_values (array_ty n t) = repeated n (first_values t)
  first_values (record_ty r) = first_of_record r
  first_values _ = []

  pub first_of_record : RecordTree → List Value
  first_of_record (record_of o b fs n) = first_of_base b ++ first_of_fields fs

  pub first_of_base : BaseTree → List Value
  first_of_base no_base = []
  first_of_base (base_of r) = first_of_record r

  pub first_of_fields : FieldsTree → List Value
  first_of_fields no_fields = []
  first_of_fields (more_fields name exported t fs) = first_values t ++ first_of_fields fs

-- ---- parts of variables

-- the field x that a module sees, behind so many cells
abbrev pub field_among : List ℕ → Origin → List ℕ → FieldsTree → ℕ → Option Spot
field_among me o x no_fields place = None
field_among me o x (more_fields name exported t fs) place = if same_name name x && sees me o exported then Some (spot_at place t) else field_among me o x fs (place + size_of t)

abbrev pub or_spot : Option Spot → Option Spot → Option Spot
or_spot None y = y
or_spot (Some s) y = Some s

abbrev mutual
  pub field_spot : List ℕ → List ℕ → RecordTree → ℕ → Option Spot
  field_spot me x (record_of o b fs n) place = or_spot (field_among me o x fs (place + size_of_base b)) (base_spot me x b place)

  pub base_spot : List ℕ → List ℕ → BaseTree → ℕ → Option Spot
  base_spot me x no_base place = None
  base_spot me x (base_of r) place = field_spot me x r place

abbrev pub given_spot : Option Spot → Gives Spot
given_spot None w = stuck w
given_spot (Some s) w = went s w

abbrev pub field : List ℕ → List ℕ → TyTree → ℕ → Gives Spot
field me x (record_ty r) place w = given_spot (field_spot me x r place) w
field me x _ place w = stuck w

abbrev pub item : ℤ → At → ℕ → TyTree → ℕ → Gives Spot
item (pos i) at n t place w = if nat_lt i n then went (spot_at (place + i * size_of t) t) w else trap traps.Index at w
item (negsuc i) at n t place w = trap traps.Index at w

abbrev pub element : Operand → At → TyTree → ℕ → Gives Spot
element (single (values.Integer i)) at (array_ty n t) place w = item i at n t place w
element _ at _ place w = stuck w

-- ---- what a variable contains

abbrev pub cells_at : ℕ → ℕ → List Value → List Value
cells_at place n cells = take n (drop place cells)

abbrev pub given_value : Option Value → Gives Operand
given_value None w = stuck w
given_value (Some v) w = went (single v) w

abbrev pub contents : Spot → Gives Operand
contents s w = if is_structured s.ty then went (structured s.ty (cells_at s.place (size_of s.ty) w.cells)) w else given_value (slice_get w.cells s.place) w

-- ---- texts

abbrev pub chars : List Value → List ℕ
chars [] = []
chars (values.Char c ∷ vs) = c ∷ chars vs
chars (_ ∷ vs) = 0 ∷ chars vs

-- a string constant, or an array of CHAR
abbrev pub text_of : Operand → Option (List ℕ)
text_of (single (values.Str x)) = Some x
text_of (structured (array_ty n char_ty) vs) = Some (chars vs)
text_of _ = None

-- ---- putting a value into a variable

-- these cells, from a place on
abbrev pub overwritten : ℕ → List Value → List Value → List Value
overwritten place vs cells = take place cells ++ (vs ++ drop (place + length vs) cells)

abbrev pub put : ℕ → List Value → Gives ℕ
put place vs w = if nat_lt (length w.cells) (place + length vs) then stuck w else went place (with_cells w (overwritten place vs w.cells))

abbrev pub is_byte : ℤ → Bool
is_byte (pos n) = nat_lt n 256
is_byte (negsuc n) = false

-- the bytes of a string, and 0X for each cell that is left
abbrev pub filled : ℕ → List ℕ → List Value
filled zero x = []
filled (suc n) [] = values.Char 0 ∷ filled n []
filled (suc n) (c ∷ x) = values.Char c ∷ filled n x

abbrev pub is_such : TyTree → Value → Bool
is_such integer_ty (values.Integer x) = true
is_such char_ty (values.Char c) = true
is_such boolean_ty (values.Boolean b) = true
is_such set_ty (values.Set m) = true
is_such _ _ = false

-- The cells that a value becomes in a variable of the type. A copy of a structure takes a step for each cell, before it
-- is made. A record has the cells of the type alone.
abbrev pub fitted : TyTree → At → Operand → Gives (List Value)
fitted byte_ty at (single (values.Integer x)) w = if is_byte x then went (values.Integer x ∷ []) w else trap traps.Range at w
fitted char_ty at (single (values.Str (c ∷ []))) w = went (values.Char c ∷ []) w
fitted (array_ty n char_ty) at (single (values.Str x)) w = then_do (ticks n w) (λ m w1. went (filled n x) w1)
fitted (array_ty n t) at (structured u vs) w = then_do (ticks (n * size_of t) w) (λ m w1. went vs w1)
fitted (record_ty r) at (structured u vs) w = then_do (ticks (size_of (record_ty r)) w) (λ m w1. went (take (size_of (record_ty r)) vs) w1)
fitted t at (single v) w = if is_such t v then went (v ∷ []) w else stuck w
fitted t at (structured u vs) w = stuck w
fitted t at nothing w = stuck w
