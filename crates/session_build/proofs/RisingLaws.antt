-- Numbers that rise, as a set: none of them is there yet as it is put in.
use Rattle.std.proofs.Common.{◌≡◌, ◌<◌, ◌+◌, ◌++◌, ℕ, List, [], ◌∷◌, length, get_or, take, Bool, true, false, nat_eq, refl, sym, ap, ◌∙◌, arith}
use Rattle.std.specs.Prelude.{if◌then◌else◌}
use Rattle.std.specs.List.{AllPairs, list_any}
use Rattle.std.proofs.lemmas.Bool.Decides.{Decides-eqb}
use Rattle.std.proofs.lemmas.List.{get_or-take, get_or_default, length-take-le, take_more}
use Rattle.indexmap.proofs.CallerLemmas.{Contains-list_any}
use Rattle.indexmap.specs.IndexSet.{insert_key}

not_listed : (numbers : List ℕ) (i d : ℕ) → AllPairs ◌<◌ numbers → i < length numbers → list_any (nat_eq (get_or numbers i d)) (take i numbers) ≡ false
not_listed numbers i d rises h = by (list_any (nat_eq (get_or numbers i d)) (take i numbers)) refl
  where
    by : (b : Bool) → list_any (nat_eq (get_or numbers i d)) (take i numbers) ≡ b → list_any (nat_eq (get_or numbers i d)) (take i numbers) ≡ false
    by false is = is
    by true is =
        let it = get_or numbers i d in
        let there = Contains-list_any nat_eq (λ a b same. (Decides-eqb a b).0 same) (take i numbers) it is in
        let size : length (take i numbers) ≡ i = length-take-le i numbers (omega arith) in
        let below : there.0 < i = omega (arith, size, there.1) in
        let less = rises there.0 i it below h in
        let here = get_or-take i numbers there.0 it below in
        let own = get_or_default numbers i it d h in
        absurd (omega (arith, less, here, own, there.2))

pub rising_more : (numbers keys : List ℕ) (i d : ℕ) → AllPairs ◌<◌ numbers → i < length numbers → keys ≡ take i numbers → insert_key nat_eq keys (get_or numbers i d) ≡ take (i + 1) numbers
rising_more numbers keys i d rises h is =
    ap (λ ks. insert_key nat_eq ks (get_or numbers i d)) is
    ∙ (ap (λ b. if b then take i numbers else (take i numbers ++ get_or numbers i d ∷ [])) (not_listed numbers i d rises h) ∙ sym (take_more numbers i d h))
