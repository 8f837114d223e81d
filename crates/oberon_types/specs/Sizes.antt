-- Sizes and weights of types, their limits, and the fields that a module sees.
use Rattle.std.specs.Prelude.{ℕ, ◌+◌, ◌*◌, Bool, ◌&&◌, ◌||◌, nat_lt, if◌then◌else◌, List, Option, Some, None}
use Rattle.oberon_types.specs.declared.origin.Origin.{Origin}
use Rattle.oberon_types.specs.Types.{TyTree, unknown_ty, array_ty, open_ty, record_ty, RecordTree, record_of, BaseTree, no_base, base_of, FieldsTree, no_fields, more_fields, same_name}

-- ---- sizes: how many scalars a variable of the type has

abbrev pub size_of_record : RecordTree → ℕ
size_of_record (record_of o b fs n) = n

abbrev pub size_of : TyTree → ℕ
size_of unknown_ty = 0
size_of (open_ty t) = 0
size_of (array_ty n t) = n * size_of t
size_of (record_ty r) = size_of_record r
size_of _ = 1

abbrev pub size_of_base : BaseTree → ℕ
size_of_base no_base = 0
size_of_base (base_of r) = size_of_record r

abbrev pub size_of_fields : FieldsTree → ℕ
size_of_fields no_fields = 0
size_of_fields (more_fields name exported t fs) = size_of t + size_of_fields fs

-- the record of these parts, which has the size of its base and of all its fields
abbrev pub record_from : Origin → BaseTree → FieldsTree → RecordTree
record_from o b fs = record_of o b fs (size_of_base b + size_of_fields fs)

-- ---- what a module sees: the exported fields, and those of its own records; `me` is its stem

abbrev pub sees : List ℕ → Origin → Bool → Bool
sees me o exported = exported || same_name o.«module» me

abbrev pub field_in : List ℕ → Origin → List ℕ → FieldsTree → Option TyTree
field_in me o x no_fields = None
field_in me o x (more_fields name exported t fs) = if same_name name x && sees me o exported then Some t else field_in me o x fs

abbrev pub or_else : Option TyTree → Option TyTree → Option TyTree
or_else None y = y
or_else (Some t) y = Some t

-- the type of the field x that a module sees in a record, in its own part before its base
abbrev mutual
  pub field_of : List ℕ → List ℕ → RecordTree → Option TyTree
  field_of me x (record_of o b fs n) = or_else (field_in me o x fs) (field_of_base me x b)

  pub field_of_base : List ℕ → List ℕ → BaseTree → Option TyTree
  field_of_base me x no_base = None
  field_of_base me x (base_of r) = field_of me x r

-- ---- weights: how much there is to write of the type, of what a module sees

abbrev mutual
  pub weight : List ℕ → TyTree → ℕ
  weight me unknown_ty = 0
  weight me (array_ty n t) = 1 + weight me t
  weight me (open_ty t) = 1 + weight me t
  weight me (record_ty r) = weight_of_record me r
  weight me _ = 1

  pub weight_of_record : List ℕ → RecordTree → ℕ
  weight_of_record me (record_of o b fs n) = 1 + weight_of_base me b + weight_of_fields me o fs

  pub weight_of_base : List ℕ → BaseTree → ℕ
  weight_of_base me no_base = 0
  weight_of_base me (base_of r) = weight_of_record me r

  pub weight_of_fields : List ℕ → Origin → FieldsTree → ℕ
  weight_of_fields me o no_fields = 0
  weight_of_fields me o (more_fields name exported t fs) = if sees me o exported then weight me t + weight_of_fields me o fs else weight_of_fields me o fs

-- ---- the limits

abbrev pub too_large : List ℕ → TyTree → Bool
too_large me t = nat_lt 4096 (weight me t) || nat_lt 1048576 (size_of t)

-- a length that an array may have
abbrev pub is_length : ℕ → Bool
is_length n = nat_lt 0 n && nat_lt n 1048577

-- the type, where it is not too large
abbrev pub within : List ℕ → TyTree → Option TyTree
within me t = if too_large me t then None else Some t
