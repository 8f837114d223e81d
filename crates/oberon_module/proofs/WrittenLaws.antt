-- Types as views have them, over the types in memory.
use Rattle.std.specs.Prelude.{ℕ, ◌≡◌, ◌+◌, ◌-◌, Bool, true, false, List, [], ◌∷◌, ◌++◌, if◌then◌else◌, refl}
use Rattle.std.proofs.Common.{ap, sym, ◌∙◌, arith}
use Rattle.oberon_types.specs.declared.origin.Origin.{Origin}
use Rattle.oberon_types.specs.declared.ty.Field.{Field}
use Rattle.oberon_types.specs.declared.ty.RecordTy.{RecordTy, out-RecordTy}
use Rattle.oberon_types.specs.declared.names.KnownField.{KnownField}
use Rattle.oberon_types.specs.Names.{known_of}
use Rattle.oberon_types.specs.Memory.{plain_ty, plain_record, base_option, fields_list, fields_in, types_in, named_fields}
use Rattle.oberon_types.specs.Sizes.{size_of_record, weight, weight_of_record, weight_of_base, weight_of_fields}
use Rattle.oberon_types.specs.Types.{TyTree, RecordTree, record_of, origin_of, BaseTree, FieldsTree, no_fields, more_fields}
use Rattle.oberon_types.proofs.TypeMemory.{record_out, record_types, fields_out}
use Rattle.oberon_types.proofs.WeightLaws.{known_sum, known_is_sum}
use Rattle.oberon_rules.specs.Views.{written, kept_fields}
use Rattle.oberon_module.specs.Written.{written_record, written_base, written_fields, fields_then, weight_of_written}

-- ---- fields

kept_by : (b : Bool) (name : List ℕ) (t : TyTree) (fs gs : FieldsTree) → fs ≡ gs → (if b then more_fields name b (written t) fs else fs) ≡ (if b then more_fields name b (written t) gs else gs)
kept_by true name t fs gs e = ap (more_fields name true (written t)) e
kept_by false name t fs gs e = e

kept_is : (o : Origin) (fs : FieldsTree) → kept_fields (λ o exported. exported) o fs ≡ written_fields fs
kept_is o no_fields = refl
kept_is o (more_fields name exported t fs) = kept_by exported name t (kept_fields (λ o exported. exported) o fs) (written_fields fs) (kept_is o fs)

pub then_none : (fs : FieldsTree) → fields_then fs no_fields ≡ fs
then_none no_fields = refl
then_none (more_fields name exported t fs) = ap (more_fields name exported t) (then_none fs)

pub then_last : (fs : List Field) (f : Field) (rest : FieldsTree) → fields_then (fields_list (fs ++ f ∷ [])) rest ≡ fields_then (fields_list fs) (more_fields f.name f.exported (plain_ty f.ty) rest)
then_last [] f rest = refl
then_last (g ∷ fs) f rest = ap (more_fields g.name g.exported (plain_ty g.ty)) (then_last fs f rest)

-- ---- records

pub written_out : (x : RecordTy) (b : BaseTree) (fs : FieldsTree) → b ≡ written_base (base_option (out-RecordTy x).base) → fs ≡ written_fields (fields_in x) → record_of (origin_of (plain_record x)) b fs (size_of_record (plain_record x)) ≡ written_record (plain_record x)
written_out x b fs e f =
    let o = (out-RecordTy x).origin in
    let n = (out-RecordTy x).size in
    let made = f ∙ ap written_fields (fields_out x) ∙ sym (kept_is o (named_fields (out-RecordTy x).names.value (types_in x))) in
    ap (λ (r : RecordTree). record_of (origin_of r) b fs (size_of_record r)) (record_types x)
    ∙ ap (λ (c : BaseTree). record_of o c fs n) e
    ∙ ap (λ (gs : FieldsTree). record_of o (written_base (base_option (out-RecordTy x).base)) gs n) made
    ∙ sym (ap written_record (record_types x))

pub origin_out : (x : RecordTy) → (out-RecordTy x).origin ≡ origin_of (plain_record x)
origin_out x = sym (ap origin_of (record_out x))

-- ---- weights

weigh_by : (b : Bool) (o : Origin) (name : List ℕ) (t : TyTree) (fs : FieldsTree) (n : ℕ) → weight_of_fields [] o fs ≡ n → weight_of_fields [] o (if b then more_fields name b (written t) fs else fs) ≡ (if b then weight [] (written t) + n else n)
weigh_by true o name t fs n e = ap (λ k. weight [] (written t) + k) e
weigh_by false o name t fs n e = e

fields_weigh : (o : Origin) (fs : FieldsTree) → weight_of_fields [] o (kept_fields (λ o exported. exported) o fs) ≡ weight_of_written fs
fields_weigh o no_fields = refl
fields_weigh o (more_fields name exported t fs) = weigh_by exported o name t (kept_fields (λ o exported. exported) o fs) (weight_of_written fs) (fields_weigh o fs)

-- what a type weighs as views have it
abbrev pub weight_written : TyTree → ℕ
weight_written t = weight [] (written t)

pub known_weigh : (x : RecordTy) (ks : List KnownField) → ks ≡ known_of (out-RecordTy x).names.value → known_sum weight_written (λ exported. exported) (types_in x) ks ≡ weight_of_written (fields_in x)
known_weigh x ks e = known_is_sum weight_written (λ exported. exported) weight_of_written refl refl (λ name exported t fs. refl) x ks e

left_over : (left b f : ℕ) → left - 1 - b - f ≡ left - (1 + b + f)
left_over left b f = omega arith

pub record_weighs : (x : RecordTy) (left behind over : ℕ) → behind ≡ left - 1 - weight_of_base [] (written_base (base_option (out-RecordTy x).base)) → over ≡ behind - weight_of_written (fields_in x) → over ≡ left - weight_of_record [] (written_record (plain_record x))
record_weighs x left behind over e f =
    let b = weight_of_base [] (written_base (base_option (out-RecordTy x).base)) in
    let fs = named_fields (out-RecordTy x).names.value (types_in x) in
    f ∙ ap (λ n. n - weight_of_written (fields_in x)) e
    ∙ ap (λ (gs : FieldsTree). left - 1 - b - weight_of_written gs) (fields_out x)
    ∙ left_over left b (weight_of_written fs)
    ∙ ap (λ n. left - (1 + b + n)) (sym (fields_weigh (out-RecordTy x).origin fs))
    ∙ ap (λ w. left - w) (sym (ap (λ (r : RecordTree). weight_of_record [] (written_record r)) (record_types x)))

-- ---- what is made

size_out : (x : RecordTy) → (out-RecordTy x).size ≡ size_of_record (plain_record x)
size_out x = sym (ap size_of_record (record_out x))

pub remade_is : (x : RecordTy) (made : RecordTree) (o : Origin) (b : BaseTree) (fs : FieldsTree) → made ≡ record_of o b fs (out-RecordTy x).size → o ≡ (out-RecordTy x).origin → made ≡ record_of (origin_of (plain_record x)) b fs (size_of_record (plain_record x))
remade_is x made o b fs new e =
    new
    ∙ ap (λ (p : Origin). record_of p b fs (out-RecordTy x).size) (e ∙ origin_out x)
    ∙ ap (record_of (origin_of (plain_record x)) b fs) (size_out x)

pub kept_when : (b : Bool) (name m : List ℕ) (t u : TyTree) (rest : FieldsTree) → b ≡ true → name ≡ m → t ≡ u → more_fields name true t rest ≡ (if b then more_fields m b u rest else rest)
kept_when true name m t u rest h e f = ap (λ (k : List ℕ). more_fields k true t rest) e ∙ ap (λ (v : TyTree). more_fields m true v rest) f
kept_when false name m t u rest h e f = absurd cc
