-- The types of Oberon-07 as plain data, written out: a record with its origin, its base, the fields that are known
-- of it, and its size (The Programming Language Oberon-07, section 6). What is said of types stands behind them:
-- sameness, extension (section 6.3) and what is assignable (section 9.1).
use Rattle.std.specs.Prelude.{ℕ, ◌==◌, nat_lt, Bool, true, false, ◌&&◌, ◌||◌, List, Option, Some, None}
use Rattle.std.specs.Cmp.Lexicographic.{pointwise}
use Rattle.oberon_types.specs.declared.origin.Origin.{Origin}
use Rattle.oberon_types.specs.declared.origin.Step.{Step}
use Rattle.oberon_types.specs.declared.origin.Step.TheVariants as steps

mutual
  -- the type of what breaks a rule is unknown; a string has its number of bytes, an array its length; an open array
  -- is the type of a parameter alone
  pub data TyTree : Type 0 where
    unknown_ty : TyTree
    integer_ty : TyTree
    byte_ty : TyTree
    char_ty : TyTree
    boolean_ty : TyTree
    set_ty : TyTree
    string_ty : ℕ → TyTree
    array_ty : ℕ → TyTree → TyTree
    open_ty : TyTree → TyTree
    record_ty : RecordTree → TyTree

  -- origin, base, fields, size
  pub data RecordTree : Type 0 where
    record_of : Origin → BaseTree → FieldsTree → ℕ → RecordTree

  pub data BaseTree : Type 0 where
    no_base : BaseTree
    base_of : RecordTree → BaseTree

  -- name, whether it is exported, type; in the order of declaration
  pub data FieldsTree : Type 0 where
    no_fields : FieldsTree
    more_fields : List ℕ → Bool → TyTree → FieldsTree → FieldsTree

-- ---- names and origins

-- byte for byte

abbrev pub same_name : List ℕ → List ℕ → Bool
same_name = pointwise ◌==◌

abbrev pub same_name_option : Option (List ℕ) → Option (List ℕ) → Bool
same_name_option None None = true
same_name_option (Some a) (Some b) = same_name a b
same_name_option None (Some b) = false
same_name_option (Some a) None = false

abbrev pub same_step : Step → Step → Bool
same_step steps.Element steps.Element = true
same_step (steps.Field a) (steps.Field b) = same_name a b
same_step steps.Element (steps.Field b) = false
same_step (steps.Field a) steps.Element = false

-- two declarations of records are never one, however alike they look
abbrev pub same_origin : Origin → Origin → Bool
same_origin a b = same_name a.«module» b.«module» && same_name_option a.procedure b.procedure && same_name a.name b.name && pointwise same_step a.path b.path

abbrev pub origin_of : RecordTree → Origin
origin_of (record_of o b fs n) = o

-- ---- sameness and extension; an unknown part is the same as any

abbrev pub same_type : TyTree → TyTree → Bool
same_type unknown_ty b = true
same_type integer_ty unknown_ty = true
same_type integer_ty integer_ty = true
same_type integer_ty _ = false
same_type byte_ty unknown_ty = true
same_type byte_ty byte_ty = true
same_type byte_ty _ = false
same_type char_ty unknown_ty = true
same_type char_ty char_ty = true
same_type char_ty _ = false
same_type boolean_ty unknown_ty = true
same_type boolean_ty boolean_ty = true
same_type boolean_ty _ = false
same_type set_ty unknown_ty = true
same_type set_ty set_ty = true
same_type set_ty _ = false
same_type (string_ty n) unknown_ty = true
same_type (string_ty n) (string_ty m) = n == m
same_type (string_ty n) _ = false
same_type (array_ty n s) unknown_ty = true
same_type (array_ty n s) (array_ty m t) = n == m && same_type s t
same_type (array_ty n s) _ = false
same_type (open_ty s) unknown_ty = true
same_type (open_ty s) (open_ty t) = same_type s t
same_type (open_ty s) _ = false
same_type (record_ty r) unknown_ty = true
same_type (record_ty r) (record_ty s) = same_origin (origin_of r) (origin_of s)
same_type (record_ty r) _ = false

-- r extends the record of this origin, directly or not
abbrev mutual
  pub extends : RecordTree → Origin → Bool
  extends (record_of o b fs n) x = base_extends b x

  pub base_extends : BaseTree → Origin → Bool
  base_extends no_base x = false
  base_extends (base_of r) x = same_origin (origin_of r) x || extends r x

-- ---- assignability and scalars

-- a value of the first is assignable to a variable of the second; a string needs room for one more character
abbrev pub assignable : TyTree → TyTree → Bool
assignable value unknown_ty = true
assignable unknown_ty target = true
assignable integer_ty integer_ty = true
assignable integer_ty byte_ty = true
assignable byte_ty integer_ty = true
assignable byte_ty byte_ty = true
assignable char_ty char_ty = true
assignable (string_ty n) char_ty = n == 1
assignable boolean_ty boolean_ty = true
assignable set_ty set_ty = true
assignable (string_ty n) (array_ty m char_ty) = nat_lt n m
assignable (string_ty n) (array_ty m unknown_ty) = nat_lt n m
assignable (array_ty n s) (array_ty m t) = n == m && same_type s t
assignable (record_ty r) (record_ty s) = same_origin (origin_of r) (origin_of s) || extends r (origin_of s)
assignable _ _ = false

-- the types of single values
abbrev pub is_scalar : TyTree → Bool
is_scalar integer_ty = true
is_scalar byte_ty = true
is_scalar char_ty = true
is_scalar boolean_ty = true
is_scalar set_ty = true
is_scalar _ = false
