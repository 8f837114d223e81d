-- A record whose size is cut off at the end of its numbers is too large in any case.
use Rattle.std.specs.Prelude.{ℕ, ◌≡◌, ◌+◌, ◌-◌, ◌^◌, ◌<◌, min, Bool, true, false, ◌||◌, nat_lt, if◌then◌else◌, List, Some, None, refl}
use Rattle.std.proofs.Common.{ap, sym, ◌∙◌, arith}
use Rattle.std.proofs.lemmas.Bool.{lt-ltb, ltb-true, ltb-false}
use Rattle.oberon_types.specs.declared.origin.Origin.{Origin}
use Rattle.oberon_types.specs.Types.{record_ty, record_of, BaseTree, FieldsTree}
use Rattle.oberon_types.specs.Sizes.{weight, within}

or_true : (a : Bool) → (a || true) ≡ true
or_true true = refl
or_true false = refl

none_above : (me : List ℕ) (o : Origin) (b : BaseTree) (fs : FieldsTree) (n : ℕ) → 1048576 < n → within me (record_ty (record_of o b fs n)) ≡ None
none_above me o b fs n above =
    let t = record_ty (record_of o b fs n) in
    let w = nat_lt 4096 (weight me t) in
    ap (λ c. if c then None else Some t) (ap (λ c. w || c) (lt-ltb 1048576 n above) ∙ or_true w)

by_size : (me : List ℕ) (o : Origin) (b : BaseTree) (fs : FieldsTree) (n m : ℕ) → n ≡ min m (2 ^ 32 - 1) → (c : Bool) → nat_lt 1048576 m ≡ c → within me (record_ty (record_of o b fs n)) ≡ within me (record_ty (record_of o b fs m))
by_size me o b fs n m cut true above =
    let high = ltb-true 1048576 m above in
    none_above me o b fs n (omega arith) ∙ sym (none_above me o b fs m high)
by_size me o b fs n m cut false fits =
    let low = ltb-false 1048576 m fits in
    let same : n ≡ m = omega arith in
    ap (λ k. within me (record_ty (record_of o b fs k))) same

pub within_cut : (me : List ℕ) (o : Origin) (b : BaseTree) (fs : FieldsTree) (x y p q n : ℕ) → x ≡ min p (2 ^ 32 - 1) → y ≡ min q (2 ^ 32 - 1) → n ≡ min (x + y) (2 ^ 32 - 1) → within me (record_ty (record_of o b fs n)) ≡ within me (record_ty (record_of o b fs (p + q)))
within_cut me o b fs x y p q n first second sum = by_size me o b fs n (p + q) (omega arith) (nat_lt 1048576 (p + q)) refl
