-- What a list contains, and where.
use Rattle.std.proofs.Common.{◌≡◌, ◌≢◌, ◌⊎◌, inl, inr, ◌++◌, ◌<◌, ◌≤◌, ℕ, zero, suc, List, [], ◌∷◌, length, get_or, map, AllPairs, Contains, Some, refl, sym, ap, ◌∙◌, arith, slice_get}
use Rattle.std.proofs.lemmas.List.{get_or-map, get_or_default, length-map}
use Rattle.std.proofs.lemmas.List.Quantifiers.{all_pairs_push}
use Rattle.std.proofs.lemmas.Bool.{cases_lt}
use Rattle.std.proofs.lemmas.Option.{get_or_from_slice_get, none-some, same_Some, slice_get_read, slice_get_within}

-- ---- what it contains

pub contains_none : {X : Type 0} (x : X) → ¬ (Contains [] x)
contains_none x there = absurd (omega (arith, there.1))

pub contains_first : {X : Type 0} (x : X) (xs : List X) → Contains (x ∷ xs) x
contains_first x xs = (0, omega arith, refl)

pub contains_later : {X : Type 0} (y : X) (xs : List X) (x : X) → Contains xs x → Contains (y ∷ xs) x
contains_later y xs x there = (suc there.0, omega (arith, there.1), there.2)

pub contains_cases : {X : Type 0} (y : X) (xs : List X) (x : X) → Contains (y ∷ xs) x → (y ≡ x) ⊎ Contains xs x
contains_cases {X} y xs x there = by there.0 there.1 there.2
  where
    by : (k : ℕ) → k < length (y ∷ xs) → get_or (y ∷ xs) k x ≡ x → (y ≡ x) ⊎ Contains xs x
    by zero h e = inl e
    by (suc k) h e = inr (k, omega arith, e)

pub contains_map : {X Y : Type 0} (f : X → Y) (xs : List X) (x : X) → Contains xs x → Contains (map f xs) (f x)
contains_map f xs x there = (there.0, omega (arith, there.1, length-map xs f), get_or-map f xs there.0 x (f x) there.1 ∙ ap f there.2)

pub contains_map_back : {X Y : Type 0} (f : X → Y) (xs : List X) (y : Y) → Contains (map f xs) y → (x : X) × Contains xs x × (f x ≡ y)
contains_map_back {X} {Y} f [] y there = absurd (contains_none y there)
contains_map_back {X} {Y} f (x ∷ xs) y there = later (contains_cases (f x) (map f xs) y there) (contains_map_back f xs y)
  where
    later : (f x ≡ y) ⊎ Contains (map f xs) y → (Contains (map f xs) y → (z : X) × Contains xs z × (f z ≡ y)) → (z : X) × Contains (x ∷ xs) z × (f z ≡ y)
    later (inl same) back = (x, contains_first x xs, same)
    later (inr h) back = let found = back h in (found.0, contains_later x xs found.0 found.1, found.2)

-- ---- where

pub contains_at : {X : Type 0} (xs : List X) (k : ℕ) (x : X) → slice_get xs k ≡ Some x → Contains xs x
contains_at xs k x there = (k, slice_get_within xs k x there, get_or_from_slice_get xs k x x there)

pub place_of : {X : Type 0} (xs : List X) (x : X) → (there : Contains xs x) → slice_get xs there.0 ≡ Some x
place_of xs x there = slice_get_read xs (length xs) there.0 x refl there.1 (sym there.2)

pub pushed_at : {X : Type 0} (xs : List X) (y : X) (k : ℕ) (x : X) → slice_get (xs ++ y ∷ []) k ≡ Some x → (slice_get xs k ≡ Some x) ⊎ ((k ≡ length xs) × (y ≡ x))
pushed_at [] y zero x there = inr (refl, same_Some y x there)
pushed_at [] y (suc k) x there = absurd (none-some x there)
pushed_at (z ∷ xs) y zero x there = inl there
pushed_at (z ∷ xs) y (suc k) x there = later (pushed_at xs y k x there)
  where
    later : (slice_get xs k ≡ Some x) ⊎ ((k ≡ length xs) × (y ≡ x)) → (slice_get xs k ≡ Some x) ⊎ ((suc k ≡ length (z ∷ xs)) × (y ≡ x))
    later (inl h) = inl h
    later (inr h) = inr (omega (arith, h.0), h.1)

-- ---- lists without repeats

pub distinct_push : {X : Type 0} (xs : List X) (y : X) → AllPairs ◌≢◌ xs → ¬ (Contains xs y) → AllPairs ◌≢◌ (xs ++ y ∷ [])
distinct_push xs y apart absent = all_pairs_push ◌≢◌ xs y apart (λ k d h same. absent (k, h, get_or_default xs k y d h ∙ same))

pub one_place : {X : Type 0} (xs : List X) (x : X) (i j : ℕ) → AllPairs ◌≢◌ xs → slice_get xs i ≡ Some x → slice_get xs j ≡ Some x → i ≡ j
one_place xs x i j apart here there = by (cases_lt i j) (cases_lt j i)
  where
    at_i : get_or xs i x ≡ x
    at_i = get_or_from_slice_get xs i x x here

    at_j : get_or xs j x ≡ x
    at_j = get_or_from_slice_get xs j x x there

    by : (i < j) ⊎ (j ≤ i) → (j < i) ⊎ (i ≤ j) → i ≡ j
    by (inl h) k = absurd (apart i j x h (slice_get_within xs j x there) (at_i ∙ sym at_j))
    by (inr h) (inl k) = absurd (apart j i x k (slice_get_within xs i x here) (at_j ∙ sym at_i))
    by (inr h) (inr k) = omega arith
