-- What a module sees of a type is all that its rules look at.
use Rattle.std.specs.Prelude.{ℕ, ◌≡◌, ◌+◌, ◌*◌, ◌==◌, Bool, true, false, ◌&&◌, ◌||◌, nat_lt, List, Option, Some, None, refl}
use Rattle.std.proofs.Common.{ap, ◌∙◌}
use Rattle.std.specs.Option.{option_map}
use Rattle.oberon_types.specs.declared.origin.Origin.{Origin}
use Rattle.oberon_types.specs.Types.{TyTree, unknown_ty, integer_ty, byte_ty, char_ty, boolean_ty, set_ty, string_ty, array_ty, open_ty, record_ty, RecordTree, record_of, BaseTree, no_base, base_of, FieldsTree, no_fields, more_fields, same_name, same_type, same_origin, origin_of, extends, base_extends, assignable}
use Rattle.oberon_types.specs.Sizes.{size_of, sees, weight, weight_of_record, weight_of_base, weight_of_fields, too_large, field_in, or_else, field_of, field_of_base}
use Rattle.oberon_rules.specs.Operators.{operand_class, element_class}
use Rattle.oberon_rules.specs.Expressions.{element_type, is_unknown, is_whole, is_ordinal, is_extension, is_or_extends}
use Rattle.oberon_rules.specs.Views.{kept, kept_record, kept_base, kept_fields}

-- as the module of this stem sees it
abbrev pub seen : List ℕ → TyTree → TyTree
seen me = kept (sees me)

pub origin_seen : (me : List ℕ) (r : RecordTree) → origin_of (kept_record (sees me) r) ≡ origin_of r
origin_seen me (record_of o b fs n) = refl

pub size_seen : (me : List ℕ) (t : TyTree) → size_of (seen me t) ≡ size_of t
size_seen me unknown_ty = refl
size_seen me integer_ty = refl
size_seen me byte_ty = refl
size_seen me char_ty = refl
size_seen me boolean_ty = refl
size_seen me set_ty = refl
size_seen me (string_ty n) = refl
size_seen me (array_ty n t) = ap (λ x. n * x) (size_seen me t)
size_seen me (open_ty t) = refl
size_seen me (record_ty (record_of o b fs n)) = refl

pub unknown_seen : (me : List ℕ) (t : TyTree) → is_unknown (seen me t) ≡ is_unknown t
unknown_seen me unknown_ty = refl
unknown_seen me integer_ty = refl
unknown_seen me byte_ty = refl
unknown_seen me char_ty = refl
unknown_seen me boolean_ty = refl
unknown_seen me set_ty = refl
unknown_seen me (string_ty n) = refl
unknown_seen me (array_ty n t) = refl
unknown_seen me (open_ty t) = refl
unknown_seen me (record_ty r) = refl

element_class_seen : (me : List ℕ) (t : TyTree) → element_class (seen me t) ≡ element_class t
element_class_seen me unknown_ty = refl
element_class_seen me integer_ty = refl
element_class_seen me byte_ty = refl
element_class_seen me char_ty = refl
element_class_seen me boolean_ty = refl
element_class_seen me set_ty = refl
element_class_seen me (string_ty n) = refl
element_class_seen me (array_ty n t) = refl
element_class_seen me (open_ty t) = refl
element_class_seen me (record_ty r) = refl

pub class_seen : (me : List ℕ) (t : TyTree) → operand_class (seen me t) ≡ operand_class t
class_seen me unknown_ty = refl
class_seen me integer_ty = refl
class_seen me byte_ty = refl
class_seen me char_ty = refl
class_seen me boolean_ty = refl
class_seen me set_ty = refl
class_seen me (string_ty n) = refl
class_seen me (array_ty n t) = element_class_seen me t
class_seen me (open_ty t) = element_class_seen me t
class_seen me (record_ty r) = refl

pub whole_seen : (me : List ℕ) (t : TyTree) → is_whole (seen me t) ≡ is_whole t
whole_seen me unknown_ty = refl
whole_seen me integer_ty = refl
whole_seen me byte_ty = refl
whole_seen me char_ty = refl
whole_seen me boolean_ty = refl
whole_seen me set_ty = refl
whole_seen me (string_ty n) = refl
whole_seen me (array_ty n t) = refl
whole_seen me (open_ty t) = refl
whole_seen me (record_ty r) = refl

pub ordinal_seen : (me : List ℕ) (t : TyTree) → is_ordinal (seen me t) ≡ is_ordinal t
ordinal_seen me unknown_ty = refl
ordinal_seen me integer_ty = refl
ordinal_seen me byte_ty = refl
ordinal_seen me char_ty = refl
ordinal_seen me boolean_ty = refl
ordinal_seen me set_ty = refl
ordinal_seen me (string_ty n) = refl
ordinal_seen me (array_ty n t) = refl
ordinal_seen me (open_ty t) = refl
ordinal_seen me (record_ty r) = refl

pub element_seen : (me : List ℕ) (t : TyTree) → element_type (seen me t) ≡ option_map (seen me) (element_type t)
element_seen me unknown_ty = refl
element_seen me integer_ty = refl
element_seen me byte_ty = refl
element_seen me char_ty = refl
element_seen me boolean_ty = refl
element_seen me set_ty = refl
element_seen me (string_ty n) = refl
element_seen me (array_ty n t) = refl
element_seen me (open_ty t) = refl
element_seen me (record_ty r) = refl

mutual
  pub extends_seen : (me : List ℕ) (r : RecordTree) (o : Origin) → extends (kept_record (sees me) r) o ≡ extends r o
  extends_seen me (record_of x b fs n) o = base_extends_seen me b o

  pub base_extends_seen : (me : List ℕ) (b : BaseTree) (o : Origin) → base_extends (kept_base (sees me) b) o ≡ base_extends b o
  base_extends_seen me no_base o = refl
  base_extends_seen me (base_of (record_of x b fs n)) o = ap (λ y. same_origin x o || y) (extends_seen me (record_of x b fs n) o)

pub same_seen : (me : List ℕ) (a b : TyTree) → same_type (seen me a) (seen me b) ≡ same_type a b
same_seen me unknown_ty unknown_ty = refl
same_seen me unknown_ty integer_ty = refl
same_seen me unknown_ty byte_ty = refl
same_seen me unknown_ty char_ty = refl
same_seen me unknown_ty boolean_ty = refl
same_seen me unknown_ty set_ty = refl
same_seen me unknown_ty (string_ty m) = refl
same_seen me unknown_ty (array_ty m u) = refl
same_seen me unknown_ty (open_ty u) = refl
same_seen me unknown_ty (record_ty q) = refl
same_seen me integer_ty unknown_ty = refl
same_seen me integer_ty integer_ty = refl
same_seen me integer_ty byte_ty = refl
same_seen me integer_ty char_ty = refl
same_seen me integer_ty boolean_ty = refl
same_seen me integer_ty set_ty = refl
same_seen me integer_ty (string_ty m) = refl
same_seen me integer_ty (array_ty m u) = refl
same_seen me integer_ty (open_ty u) = refl
same_seen me integer_ty (record_ty q) = refl
same_seen me byte_ty unknown_ty = refl
same_seen me byte_ty integer_ty = refl
same_seen me byte_ty byte_ty = refl
same_seen me byte_ty char_ty = refl
same_seen me byte_ty boolean_ty = refl
same_seen me byte_ty set_ty = refl
same_seen me byte_ty (string_ty m) = refl
same_seen me byte_ty (array_ty m u) = refl
same_seen me byte_ty (open_ty u) = refl
same_seen me byte_ty (record_ty q) = refl
same_seen me char_ty unknown_ty = refl
same_seen me char_ty integer_ty = refl
same_seen me char_ty byte_ty = refl
same_seen me char_ty char_ty = refl
same_seen me char_ty boolean_ty = refl
same_seen me char_ty set_ty = refl
same_seen me char_ty (string_ty m) = refl
same_seen me char_ty (array_ty m u) = refl
same_seen me char_ty (open_ty u) = refl
same_seen me char_ty (record_ty q) = refl
same_seen me boolean_ty unknown_ty = refl
same_seen me boolean_ty integer_ty = refl
same_seen me boolean_ty byte_ty = refl
same_seen me boolean_ty char_ty = refl
same_seen me boolean_ty boolean_ty = refl
same_seen me boolean_ty set_ty = refl
same_seen me boolean_ty (string_ty m) = refl
same_seen me boolean_ty (array_ty m u) = refl
same_seen me boolean_ty (open_ty u) = refl
same_seen me boolean_ty (record_ty q) = refl
same_seen me set_ty unknown_ty = refl
same_seen me set_ty integer_ty = refl
same_seen me set_ty byte_ty = refl
same_seen me set_ty char_ty = refl
same_seen me set_ty boolean_ty = refl
same_seen me set_ty set_ty = refl
same_seen me set_ty (string_ty m) = refl
same_seen me set_ty (array_ty m u) = refl
same_seen me set_ty (open_ty u) = refl
same_seen me set_ty (record_ty q) = refl
same_seen me (string_ty n) unknown_ty = refl
same_seen me (string_ty n) integer_ty = refl
same_seen me (string_ty n) byte_ty = refl
same_seen me (string_ty n) char_ty = refl
same_seen me (string_ty n) boolean_ty = refl
same_seen me (string_ty n) set_ty = refl
same_seen me (string_ty n) (string_ty m) = refl
same_seen me (string_ty n) (array_ty m u) = refl
same_seen me (string_ty n) (open_ty u) = refl
same_seen me (string_ty n) (record_ty q) = refl
same_seen me (array_ty n s) unknown_ty = refl
same_seen me (array_ty n s) integer_ty = refl
same_seen me (array_ty n s) byte_ty = refl
same_seen me (array_ty n s) char_ty = refl
same_seen me (array_ty n s) boolean_ty = refl
same_seen me (array_ty n s) set_ty = refl
same_seen me (array_ty n s) (string_ty m) = refl
same_seen me (array_ty n s) (array_ty m u) = ap (λ y. n == m && y) (same_seen me s u)
same_seen me (array_ty n s) (open_ty u) = refl
same_seen me (array_ty n s) (record_ty q) = refl
same_seen me (open_ty s) unknown_ty = refl
same_seen me (open_ty s) integer_ty = refl
same_seen me (open_ty s) byte_ty = refl
same_seen me (open_ty s) char_ty = refl
same_seen me (open_ty s) boolean_ty = refl
same_seen me (open_ty s) set_ty = refl
same_seen me (open_ty s) (string_ty m) = refl
same_seen me (open_ty s) (array_ty m u) = refl
same_seen me (open_ty s) (open_ty u) = same_seen me s u
same_seen me (open_ty s) (record_ty q) = refl
same_seen me (record_ty r) unknown_ty = refl
same_seen me (record_ty r) integer_ty = refl
same_seen me (record_ty r) byte_ty = refl
same_seen me (record_ty r) char_ty = refl
same_seen me (record_ty r) boolean_ty = refl
same_seen me (record_ty r) set_ty = refl
same_seen me (record_ty r) (string_ty m) = refl
same_seen me (record_ty r) (array_ty m u) = refl
same_seen me (record_ty r) (open_ty u) = refl
same_seen me (record_ty r) (record_ty q) = ap (λ y. same_origin y (origin_of (kept_record (sees me) q))) (origin_seen me r) ∙ ap (λ y. same_origin (origin_of r) y) (origin_seen me q)

pub assignable_seen : (me : List ℕ) (a b : TyTree) → assignable (seen me a) (seen me b) ≡ assignable a b
assignable_seen me unknown_ty unknown_ty = refl
assignable_seen me unknown_ty integer_ty = refl
assignable_seen me unknown_ty byte_ty = refl
assignable_seen me unknown_ty char_ty = refl
assignable_seen me unknown_ty boolean_ty = refl
assignable_seen me unknown_ty set_ty = refl
assignable_seen me unknown_ty (string_ty m) = refl
assignable_seen me unknown_ty (array_ty m u) = refl
assignable_seen me unknown_ty (open_ty u) = refl
assignable_seen me unknown_ty (record_ty q) = refl
assignable_seen me integer_ty unknown_ty = refl
assignable_seen me integer_ty integer_ty = refl
assignable_seen me integer_ty byte_ty = refl
assignable_seen me integer_ty char_ty = refl
assignable_seen me integer_ty boolean_ty = refl
assignable_seen me integer_ty set_ty = refl
assignable_seen me integer_ty (string_ty m) = refl
assignable_seen me integer_ty (array_ty m u) = refl
assignable_seen me integer_ty (open_ty u) = refl
assignable_seen me integer_ty (record_ty q) = refl
assignable_seen me byte_ty unknown_ty = refl
assignable_seen me byte_ty integer_ty = refl
assignable_seen me byte_ty byte_ty = refl
assignable_seen me byte_ty char_ty = refl
assignable_seen me byte_ty boolean_ty = refl
assignable_seen me byte_ty set_ty = refl
assignable_seen me byte_ty (string_ty m) = refl
assignable_seen me byte_ty (array_ty m u) = refl
assignable_seen me byte_ty (open_ty u) = refl
assignable_seen me byte_ty (record_ty q) = refl
assignable_seen me char_ty unknown_ty = refl
assignable_seen me char_ty integer_ty = refl
assignable_seen me char_ty byte_ty = refl
assignable_seen me char_ty char_ty = refl
assignable_seen me char_ty boolean_ty = refl
assignable_seen me char_ty set_ty = refl
assignable_seen me char_ty (string_ty m) = refl
assignable_seen me char_ty (array_ty m u) = refl
assignable_seen me char_ty (open_ty u) = refl
assignable_seen me char_ty (record_ty q) = refl
assignable_seen me boolean_ty unknown_ty = refl
assignable_seen me boolean_ty integer_ty = refl
assignable_seen me boolean_ty byte_ty = refl
assignable_seen me boolean_ty char_ty = refl
assignable_seen me boolean_ty boolean_ty = refl
assignable_seen me boolean_ty set_ty = refl
assignable_seen me boolean_ty (string_ty m) = refl
assignable_seen me boolean_ty (array_ty m u) = refl
assignable_seen me boolean_ty (open_ty u) = refl
assignable_seen me boolean_ty (record_ty q) = refl
assignable_seen me set_ty unknown_ty = refl
assignable_seen me set_ty integer_ty = refl
assignable_seen me set_ty byte_ty = refl
assignable_seen me set_ty char_ty = refl
assignable_seen me set_ty boolean_ty = refl
assignable_seen me set_ty set_ty = refl
assignable_seen me set_ty (string_ty m) = refl
assignable_seen me set_ty (array_ty m u) = refl
assignable_seen me set_ty (open_ty u) = refl
assignable_seen me set_ty (record_ty q) = refl
assignable_seen me (string_ty n) unknown_ty = refl
assignable_seen me (string_ty n) integer_ty = refl
assignable_seen me (string_ty n) byte_ty = refl
assignable_seen me (string_ty n) char_ty = refl
assignable_seen me (string_ty n) boolean_ty = refl
assignable_seen me (string_ty n) set_ty = refl
assignable_seen me (string_ty n) (string_ty m) = refl
assignable_seen me (string_ty n) (array_ty m unknown_ty) = refl
assignable_seen me (string_ty n) (array_ty m integer_ty) = refl
assignable_seen me (string_ty n) (array_ty m byte_ty) = refl
assignable_seen me (string_ty n) (array_ty m char_ty) = refl
assignable_seen me (string_ty n) (array_ty m boolean_ty) = refl
assignable_seen me (string_ty n) (array_ty m set_ty) = refl
assignable_seen me (string_ty n) (array_ty m (string_ty k)) = refl
assignable_seen me (string_ty n) (array_ty m (array_ty k u)) = refl
assignable_seen me (string_ty n) (array_ty m (open_ty u)) = refl
assignable_seen me (string_ty n) (array_ty m (record_ty q)) = refl
assignable_seen me (string_ty n) (open_ty u) = refl
assignable_seen me (string_ty n) (record_ty q) = refl
assignable_seen me (array_ty n s) unknown_ty = refl
assignable_seen me (array_ty n s) integer_ty = refl
assignable_seen me (array_ty n s) byte_ty = refl
assignable_seen me (array_ty n s) char_ty = refl
assignable_seen me (array_ty n s) boolean_ty = refl
assignable_seen me (array_ty n s) set_ty = refl
assignable_seen me (array_ty n s) (string_ty m) = refl
assignable_seen me (array_ty n s) (array_ty m u) = ap (λ y. n == m && y) (same_seen me s u)
assignable_seen me (array_ty n s) (open_ty u) = refl
assignable_seen me (array_ty n s) (record_ty q) = refl
assignable_seen me (open_ty s) unknown_ty = refl
assignable_seen me (open_ty s) integer_ty = refl
assignable_seen me (open_ty s) byte_ty = refl
assignable_seen me (open_ty s) char_ty = refl
assignable_seen me (open_ty s) boolean_ty = refl
assignable_seen me (open_ty s) set_ty = refl
assignable_seen me (open_ty s) (string_ty m) = refl
assignable_seen me (open_ty s) (array_ty m u) = refl
assignable_seen me (open_ty s) (open_ty u) = refl
assignable_seen me (open_ty s) (record_ty q) = refl
assignable_seen me (record_ty r) unknown_ty = refl
assignable_seen me (record_ty r) integer_ty = refl
assignable_seen me (record_ty r) byte_ty = refl
assignable_seen me (record_ty r) char_ty = refl
assignable_seen me (record_ty r) boolean_ty = refl
assignable_seen me (record_ty r) set_ty = refl
assignable_seen me (record_ty r) (string_ty m) = refl
assignable_seen me (record_ty r) (array_ty m u) = refl
assignable_seen me (record_ty r) (open_ty u) = refl
assignable_seen me (record_ty r) (record_ty q) = ap (λ y. same_origin y (origin_of (kept_record (sees me) q)) || extends (kept_record (sees me) r) (origin_of (kept_record (sees me) q))) (origin_seen me r) ∙ ap (λ y. same_origin (origin_of r) y || extends (kept_record (sees me) r) y) (origin_seen me q) ∙ ap (λ y. same_origin (origin_of r) (origin_of q) || y) (extends_seen me r (origin_of q))

-- ---- extensions

pub extension_seen : (me : List ℕ) (t u : TyTree) → is_extension (seen me t) (seen me u) ≡ is_extension t u
extension_seen me unknown_ty v = refl
extension_seen me integer_ty v = refl
extension_seen me byte_ty v = refl
extension_seen me char_ty v = refl
extension_seen me boolean_ty v = refl
extension_seen me set_ty v = refl
extension_seen me (string_ty n) v = refl
extension_seen me (array_ty n u) v = refl
extension_seen me (open_ty u) v = refl
extension_seen me (record_ty r) unknown_ty = refl
extension_seen me (record_ty r) integer_ty = refl
extension_seen me (record_ty r) byte_ty = refl
extension_seen me (record_ty r) char_ty = refl
extension_seen me (record_ty r) boolean_ty = refl
extension_seen me (record_ty r) set_ty = refl
extension_seen me (record_ty r) (string_ty n) = refl
extension_seen me (record_ty r) (array_ty n u) = refl
extension_seen me (record_ty r) (open_ty u) = refl
extension_seen me (record_ty r) (record_ty q) = ap (λ y. extends (kept_record (sees me) r) y) (origin_seen me q) ∙ extends_seen me r (origin_of q)

pub or_extends_seen : (me : List ℕ) (t u : TyTree) → is_or_extends (seen me t) (seen me u) ≡ is_or_extends t u
or_extends_seen me unknown_ty v = refl
or_extends_seen me integer_ty v = refl
or_extends_seen me byte_ty v = refl
or_extends_seen me char_ty v = refl
or_extends_seen me boolean_ty v = refl
or_extends_seen me set_ty v = refl
or_extends_seen me (string_ty n) v = refl
or_extends_seen me (array_ty n u) v = refl
or_extends_seen me (open_ty u) v = refl
or_extends_seen me (record_ty r) unknown_ty = refl
or_extends_seen me (record_ty r) integer_ty = refl
or_extends_seen me (record_ty r) byte_ty = refl
or_extends_seen me (record_ty r) char_ty = refl
or_extends_seen me (record_ty r) boolean_ty = refl
or_extends_seen me (record_ty r) set_ty = refl
or_extends_seen me (record_ty r) (string_ty n) = refl
or_extends_seen me (record_ty r) (array_ty n u) = refl
or_extends_seen me (record_ty r) (open_ty u) = refl
or_extends_seen me (record_ty r) (record_ty q) = ap (λ y. same_origin y (origin_of (kept_record (sees me) q)) || extends (kept_record (sees me) r) (origin_of (kept_record (sees me) q))) (origin_seen me r) ∙ ap (λ y. same_origin (origin_of r) y || extends (kept_record (sees me) r) y) (origin_seen me q) ∙ ap (λ y. same_origin (origin_of r) (origin_of q) || y) (extends_seen me r (origin_of q))

-- ---- fields

or_else_map : (me : List ℕ) (x y : Option TyTree) → or_else (option_map (seen me) x) (option_map (seen me) y) ≡ option_map (seen me) (or_else x y)
or_else_map me None y = refl
or_else_map me (Some t) y = refl

pub field_in_seen : (me : List ℕ) (o : Origin) (x : List ℕ) (fs : FieldsTree) → field_in me o x (kept_fields (sees me) o fs) ≡ option_map (seen me) (field_in me o x fs)
field_in_seen me o x no_fields = refl
field_in_seen me o x (more_fields name exported t fs) = by_marks (sees me o exported) refl (same_name name x) refl (field_in_seen me o x fs)
  where
    by_marks : (b : Bool) → sees me o exported ≡ b → (c : Bool) → same_name name x ≡ c → field_in me o x (kept_fields (sees me) o fs) ≡ option_map (seen me) (field_in me o x fs) → field_in me o x (kept_fields (sees me) o (more_fields name exported t fs)) ≡ option_map (seen me) (field_in me o x (more_fields name exported t fs))
    by_marks true p true q h = rw (p, q, p) refl
    by_marks true p false q h = rw (p, q) h
    by_marks false p true q h = rw (p, q) h
    by_marks false p false q h = rw (p, q) h

mutual
  pub field_seen : (me x : List ℕ) (r : RecordTree) → field_of me x (kept_record (sees me) r) ≡ option_map (seen me) (field_of me x r)
  field_seen me x (record_of o b fs n) = ap (λ y. or_else y (field_of_base me x (kept_base (sees me) b))) (field_in_seen me o x fs) ∙ ap (λ y. or_else (option_map (seen me) (field_in me o x fs)) y) (field_base_seen me x b) ∙ or_else_map me (field_in me o x fs) (field_of_base me x b)

  pub field_base_seen : (me x : List ℕ) (b : BaseTree) → field_of_base me x (kept_base (sees me) b) ≡ option_map (seen me) (field_of_base me x b)
  field_base_seen me x no_base = refl
  field_base_seen me x (base_of r) = field_seen me x r

-- ---- weights

by_mark : (me : List ℕ) (o : Origin) (name : List ℕ) (exported : Bool) (t : TyTree) (fs : FieldsTree) (b : Bool) → sees me o exported ≡ b → weight me (seen me t) ≡ weight me t → weight_of_fields me o (kept_fields (sees me) o fs) ≡ weight_of_fields me o fs → weight_of_fields me o (kept_fields (sees me) o (more_fields name exported t fs)) ≡ weight_of_fields me o (more_fields name exported t fs)
by_mark me o name exported t fs true p e f = rw (p, p) (ap (λ z. z + weight_of_fields me o (kept_fields (sees me) o fs)) e ∙ ap (λ z. weight me t + z) f)
by_mark me o name exported t fs false p e f = rw p f

mutual
  pub weight_seen : (me : List ℕ) (t : TyTree) → weight me (seen me t) ≡ weight me t
  weight_seen me unknown_ty = refl
  weight_seen me integer_ty = refl
  weight_seen me byte_ty = refl
  weight_seen me char_ty = refl
  weight_seen me boolean_ty = refl
  weight_seen me set_ty = refl
  weight_seen me (string_ty n) = refl
  weight_seen me (array_ty n t) = ap (λ y. 1 + y) (weight_seen me t)
  weight_seen me (open_ty t) = ap (λ y. 1 + y) (weight_seen me t)
  weight_seen me (record_ty r) = weight_record_seen me r

  weight_record_seen : (me : List ℕ) (r : RecordTree) → weight_of_record me (kept_record (sees me) r) ≡ weight_of_record me r
  weight_record_seen me (record_of o b fs n) = ap (λ y. 1 + y + weight_of_fields me o (kept_fields (sees me) o fs)) (weight_base_seen me b) ∙ ap (λ y. 1 + weight_of_base me b + y) (weight_fields_seen me o fs)

  weight_base_seen : (me : List ℕ) (b : BaseTree) → weight_of_base me (kept_base (sees me) b) ≡ weight_of_base me b
  weight_base_seen me no_base = refl
  weight_base_seen me (base_of r) = weight_record_seen me r

  weight_fields_seen : (me : List ℕ) (o : Origin) (fs : FieldsTree) → weight_of_fields me o (kept_fields (sees me) o fs) ≡ weight_of_fields me o fs
  weight_fields_seen me o no_fields = refl
  weight_fields_seen me o (more_fields name exported t fs) = by_mark me o name exported t fs (sees me o exported) refl (weight_seen me t) (weight_fields_seen me o fs)

pub large_seen : (me : List ℕ) (t : TyTree) → too_large me (seen me t) ≡ too_large me t
large_seen me t = ap (λ y. nat_lt 4096 y || nat_lt 1048576 (size_of (seen me t))) (weight_seen me t) ∙ ap (λ y. nat_lt 4096 (weight me t) || nat_lt 1048576 y) (size_seen me t)
