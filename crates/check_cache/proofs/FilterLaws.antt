-- What a map has where some entries were taken out by their keys.
use Rattle.std.proofs.Common.{◌≡◌, ◌∙◌, Bool, true, false, List, [], ◌∷◌, filter, Option, None, refl, ap}
use Rattle.std.specs.Prelude.{◌&&◌, if◌then◌else◌}
use Rattle.std.specs.Map.{lookup}
use Rattle.std.specs.Str.{bytes_eq}
use Rattle.std.proofs.lemmas.Slice.Eq.{bytes_eq-Decides}
use Rattle.indexmap.specs.IndexMap.{IndexMap, get}
use Rattle.check_cache.specs.Pairs.{same_pair, is_among}
use Rattle.check_cache.specs.contracts.pair.PairKeyPartialEq.TheImpl.{eq-value}
use Rattle.check_cache.specs.declared.pair.PairKey.{PairKey}

left_true : (a b : Bool) → (a && b) ≡ true → a ≡ true
left_true true b h = refl
left_true false b h = absurd (cc)

right_true : (a b : Bool) → (a && b) ≡ true → b ≡ true
right_true true b h = h
right_true false b h = absurd (cc)

parts_same : (a b : PairKey) → a.target ≡ b.target → a.path ≡ b.path → a ≡ b
parts_same a b target path = rw (target, path) refl

-- what is tested alike is one pair
pub one_pair : (a b : PairKey) → same_pair a b ≡ true → a ≡ b
one_pair a b h =
    let target_is = bytes_eq a.target b.target in
    let path_is = bytes_eq a.path b.path in
    parts_same a b ((bytes_eq-Decides a.target b.target).0 (left_true target_is path_is h)) ((bytes_eq-Decides a.path b.path).0 (right_true target_is path_is h))

module _ {X : Type 0} (test : PairKey → Bool) (q : PairKey) where
  step : (e : PairKey × X) (es : List (PairKey × X)) → lookup (same_pair q) (filter (λ (e : PairKey × X). test e.0) es) ≡ (if test q then lookup (same_pair q) es else None)
      → (kept : Bool) → test e.0 ≡ kept → (here : Bool) → same_pair q e.0 ≡ here
      → lookup (same_pair q) (filter (λ (e : PairKey × X). test e.0) (e ∷ es)) ≡ (if test q then lookup (same_pair q) (e ∷ es) else None)
  step e es rest true kept true here =
      let at : test q ≡ true = ap test (one_pair q e.0 here) ∙ kept in
      rw (kept, here, at) refl
  step e es rest true kept false here = rw (kept, here) rest
  step e es rest false kept true here =
      let at : test q ≡ false = ap test (one_pair q e.0 here) ∙ kept in
      let none : lookup (same_pair q) (filter (λ (e : PairKey × X). test e.0) es) ≡ None = rest ∙ ap (λ (b : Bool). if b then lookup (same_pair q) es else None) at in
      rw (kept, at) none
  step e es rest false kept false here = rw (kept, here) rest

  -- what stays is what it was, and nothing else is there
  pub lookup_filter : (es : List (PairKey × X)) → lookup (same_pair q) (filter (λ (e : PairKey × X). test e.0) es) ≡ (if test q then lookup (same_pair q) es else None)
  lookup_filter [] =
      let none : Option X = None in
      elim (test q) as (λ b. none ≡ (if b then none else none)) [ true ↦ refl | false ↦ refl ]
  lookup_filter (e ∷ es) = step e es (lookup_filter es) (test e.0) refl (same_pair q e.0) refl

module _ {X S : Type 0} (old new : IndexMap PairKey X S) (q : PairKey) where
  -- all pairs but some were taken out
  pub kept : (pairs : List PairKey) → new.entries ≡ filter (λ (e : PairKey × X). is_among pairs e.0) old.entries
      → get eq-value.it new q ≡ (if is_among pairs q then get eq-value.it old q else None)
  kept pairs is =
      ap (λ (es : List (PairKey × X)). lookup (same_pair q) es) is ∙ lookup_filter (is_among pairs) q old.entries
