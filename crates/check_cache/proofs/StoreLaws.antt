-- What the other place has behind a store.
use Rattle.std.proofs.Common.{◌≡◌, ◌∙◌, Bool, true, false, cond, List, Option, Some, None, Result, Ok, Err, sym, ap, refl}
use Rattle.std.specs.Prelude.{if◌then◌else◌, IsOk, OnOk}
use Rattle.std.specs.Map.{lookup}
use Rattle.indexmap.specs.IndexMap.{IndexMap, get}
use Rattle.check_cache.specs.Facts.{FactTree}
use Rattle.check_cache.specs.Pairs.{same_pair}
use Rattle.check_cache.specs.Places.{moved}
use Rattle.check_cache.specs.contracts.pair.PairKeyPartialEq.TheImpl.{eq-value}
use Rattle.check_cache.specs.declared.pair.PairKey.{PairKey}
use Rattle.check_cache.proofs.FilterLaws.{one_pair}

pub on_ok : {T E P : Type 0} (r : Result T E) → IsOk r → OnOk r P → P
on_ok (Ok x) h p = p
on_ok (Err e) h p = absurd (cc)

-- what stood first was put there, under an equal key, into a map with more room
pub moved_other : {S : Type 0} (first old mid new : IndexMap PairKey FactTree S) (pair own again : PairKey) (earlier : FactTree)
    → own ≡ pair → again ≡ pair → get eq-value.it first own ≡ Some earlier → mid.entries ≡ old.entries
    → ((q : PairKey) → get eq-value.it new q ≡ cond (same_pair again q) (Some earlier) (get eq-value.it mid q))
    → (q : PairKey) → get eq-value.it new q ≡ (if same_pair pair q then moved (get eq-value.it first q) (get eq-value.it old q) else get eq-value.it old q)
moved_other first old mid new pair own again earlier is_own is_again stood same told q = by_place (same_pair pair q) refl
  where
    by_place : (here : Bool) → same_pair pair q ≡ here → get eq-value.it new q ≡ (if here then moved (get eq-value.it first q) (get eq-value.it old q) else get eq-value.it old q)
    by_place true here =
        let at : same_pair again q ≡ true = ap (λ (k : PairKey). same_pair k q) is_again ∙ here in
        let first_q : get eq-value.it first q ≡ Some earlier = ap (λ (k : PairKey). get eq-value.it first k) (sym (one_pair pair q here) ∙ sym is_own) ∙ stood in
        told q ∙ (ap (λ (b : Bool). cond b (Some earlier) (get eq-value.it mid q)) at ∙ ap (λ (o : Option FactTree). moved o (get eq-value.it old q)) (sym first_q))
    by_place false away =
        let at : same_pair again q ≡ false = ap (λ (k : PairKey). same_pair k q) is_again ∙ away in
        told q ∙ (ap (λ (b : Bool). cond b (Some earlier) (get eq-value.it mid q)) at ∙ ap (λ (es : List (PairKey × FactTree)). lookup (same_pair q) es) same)

-- nothing stood first, so the other place stays
pub kept_other : {S : Type 0} (first old mid : IndexMap PairKey FactTree S) (pair own : PairKey)
    → own ≡ pair → get eq-value.it first own ≡ None → mid.entries ≡ old.entries
    → (q : PairKey) → get eq-value.it mid q ≡ (if same_pair pair q then moved (get eq-value.it first q) (get eq-value.it old q) else get eq-value.it old q)
kept_other first old mid pair own is_own stood same q = by_place (same_pair pair q) refl
  where
    by_place : (here : Bool) → same_pair pair q ≡ here → get eq-value.it mid q ≡ (if here then moved (get eq-value.it first q) (get eq-value.it old q) else get eq-value.it old q)
    by_place true here =
        let first_q : get eq-value.it first q ≡ None = ap (λ (k : PairKey). get eq-value.it first k) (sym (one_pair pair q here) ∙ sym is_own) ∙ stood in
        ap (λ (es : List (PairKey × FactTree)). lookup (same_pair q) es) same ∙ ap (λ (o : Option FactTree). moved o (get eq-value.it old q)) (sym first_q)
    by_place false away = ap (λ (es : List (PairKey × FactTree)). lookup (same_pair q) es) same
