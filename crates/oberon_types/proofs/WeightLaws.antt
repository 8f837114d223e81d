-- A record weighs what its fields of known types weigh.
use Rattle.std.specs.Prelude.{ℕ, ◌+◌, ◌-◌, ◌≡◌, Bool, true, false, cond, List, [], ◌∷◌, Option, Some, None, ◌≤◌, length, drop, refl}
use Rattle.std.proofs.Common.{ap, sym, ◌∙◌, arith}
use Rattle.std.proofs.lemmas.List.{drop_all}
use Rattle.oberon_types.specs.declared.origin.Origin.{Origin}
use Rattle.oberon_types.specs.declared.ty.RecordTy.{RecordTy, out-RecordTy}
use Rattle.oberon_types.specs.declared.names.FieldName.{FieldName}
use Rattle.oberon_types.specs.declared.names.KnownField.{KnownField}
use Rattle.oberon_types.specs.Types.{TyTree, unknown_ty, RecordTree, BaseTree, record_of, FieldsTree, no_fields, more_fields, origin_of}
use Rattle.oberon_types.specs.Sizes.{sees, size_of_record, weight, weight_of_record, weight_of_base, weight_of_fields}
use Rattle.oberon_types.specs.Names.{known_of, known_then}
use Rattle.oberon_types.specs.Memory.{plain_record, base_option, origin_in, fields_in, types_in, named_fields, type_at}
use Rattle.oberon_types.proofs.TypeMemory.{record_out, record_types, fields_out}

pub size_out : (x : RecordTy) → (out-RecordTy x).size ≡ size_of_record (plain_record x)
size_out x = sym (ap size_of_record (record_out x))

-- ---- fields

-- what the fields of known types weigh that are seen
abbrev pub known_sum : (TyTree → ℕ) → (Bool → Bool) → List TyTree → List KnownField → ℕ
known_sum w seen ts [] = 0
known_sum w seen ts (k ∷ ks) = cond (seen k.exported) (w (type_at ts (Some k.ty)) + known_sum w seen ts ks) (known_sum w seen ts ks)

cond_same : (b : Bool) (n : ℕ) → cond b n n ≡ n
cond_same true n = refl
cond_same false n = refl

-- a sum over fields, of which those of unknown types are nothing
module _ (w : TyTree → ℕ) (seen : Bool → Bool) (sum : FieldsTree → ℕ) (nothing : w unknown_ty ≡ 0) (none : sum no_fields ≡ 0)
    (more : (name : List ℕ) (exported : Bool) (t : TyTree) (fs : FieldsTree) → sum (more_fields name exported t fs) ≡ cond (seen exported) (w t + sum fs) (sum fs)) where
  one_known : (ts : List TyTree) (exported : Bool) (ty : Option ℕ) (ks : List KnownField) → cond (seen exported) (w (type_at ts ty) + known_sum w seen ts ks) (known_sum w seen ts ks) ≡ known_sum w seen ts (known_then exported ty ks)
  one_known ts exported None ks =
      let same : w unknown_ty + known_sum w seen ts ks ≡ known_sum w seen ts ks = omega (arith, nothing) in
      ap (λ n. cond (seen exported) n (known_sum w seen ts ks)) same ∙ cond_same (seen exported) (known_sum w seen ts ks)
  one_known ts exported (Some at) ks = refl

  pub named_sum : (ts : List TyTree) (fs : List FieldName) → sum (named_fields fs ts) ≡ known_sum w seen ts (known_of fs)
  named_sum ts [] = none
  named_sum ts (f ∷ fs) =
      more f.name f.exported (type_at ts f.ty) (named_fields fs ts)
      ∙ ap (λ n. cond (seen f.exported) (w (type_at ts f.ty) + n) n) (named_sum ts fs)
      ∙ one_known ts f.exported f.ty (known_of fs)

  pub known_is_sum : (x : RecordTy) (ks : List KnownField) → ks ≡ known_of (out-RecordTy x).names.value → known_sum w seen (types_in x) ks ≡ sum (fields_in x)
  known_is_sum x ks e = ap (known_sum w seen (types_in x)) e ∙ sym (ap sum (fields_out x) ∙ named_sum (types_in x) (out-RecordTy x).names.value)

-- nothing is left, or no field is
pub none_left : (n left k w : ℕ) → left ≡ 0 → left - k ≡ n - w → 0 ≡ n - w
none_left n left k w e h = omega arith

pub all_weighed : (w : TyTree → ℕ) (seen : Bool → Bool) (ts : List TyTree) (ks : List KnownField) (i n left m : ℕ) → length ks ≤ i → left - known_sum w seen ts (drop i ks) ≡ n - m → left ≡ n - m
all_weighed w seen ts ks i n left m l h =
    let none : known_sum w seen ts (drop i ks) ≡ 0 = ap (known_sum w seen ts) (drop_all i ks l) in
    omega arith

pub fields_weigh : (me : List ℕ) (x : RecordTy) (ks : List KnownField) → ks ≡ known_of (out-RecordTy x).names.value → known_sum (weight me) (sees me (out-RecordTy x).origin) (types_in x) ks ≡ weight_of_fields me (origin_in x) (fields_in x)
fields_weigh me x ks e =
    known_is_sum (weight me) (sees me (out-RecordTy x).origin) (weight_of_fields me (out-RecordTy x).origin) refl refl (λ name exported t fs. refl) x ks e
    ∙ ap (λ (o : Origin). weight_of_fields me o (fields_in x)) (sym (ap origin_of (record_types x)))

-- ---- records

abbrev base_tree : RecordTree → BaseTree
base_tree (record_of o b fs n) = b

left_over : (left b f : ℕ) → left - 1 - b - f ≡ left - (1 + b + f)
left_over left b f = omega arith

pub weight_out : (me : List ℕ) (x : RecordTy) (left behind over : ℕ) → behind ≡ left - 1 - weight_of_base me (base_option (out-RecordTy x).base) → over ≡ behind - weight_of_fields me (origin_in x) (fields_in x) → over ≡ left - weight_of_record me (plain_record x)
weight_out me x left behind over e f =
    let b = weight_of_base me (base_option (out-RecordTy x).base) in
    let fs = weight_of_fields me (origin_in x) (fields_in x) in
    f ∙ ap (λ n. n - fs) e ∙ left_over left b fs
    ∙ ap (λ (y : BaseTree). left - (1 + weight_of_base me y + fs)) (sym (ap base_tree (record_types x)))
