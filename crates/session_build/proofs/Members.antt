-- What lists contain, and lists without repeats.
use Rattle.std.proofs.Common.{◌≡◌, ◌≢◌, ◌⊎◌, inl, inr, ◌<◌, ◌≤◌, ◌+◌, ◌++◌, ℕ, zero, suc, List, [], ◌∷◌, length, get_or, map, take, drop, Some, refl, sym, ap, ◌∙◌, arith, length-drop}
use Rattle.std.specs.List.{AllPairs, Contains, remove, slice_get}
use Rattle.std.proofs.lemmas.Bool.{cases_lt}
use Rattle.std.proofs.lemmas.List.{get_or-drop, get_or-map, get_or-take, get_or_default, length-map, length-take}
use Rattle.std.proofs.lemmas.List.Elements.{Contains-append_cases}
use Rattle.std.proofs.lemmas.List.Quantifiers.{all_pairs_push}
use Rattle.std.proofs.lemmas.Option.{get_or_from_slice_get, slice_get_within}

pub contains_at : {X : Type 0} (xs : List X) (i : ℕ) (x : X) → slice_get xs i ≡ Some x → Contains xs x
contains_at xs i x there = (i, slice_get_within xs i x there, get_or_from_slice_get xs i x x there)

pub contains_map : {X Y : Type 0} (f : X → Y) (xs : List X) (x : X) → Contains xs x → Contains (map f xs) (f x)
contains_map f xs x there =
    let size = length-map xs f in
    (there.0, omega (arith, size, there.1), get_or-map f xs there.0 x (f x) there.1 ∙ ap f there.2)

-- what a map contains is of some element
pub record IsImage {X Y : Type 0} (f : X → Y) (xs : List X) (y : Y) : Type 0 where
  pub it : X
  pub there : Contains xs it
  pub is : f it ≡ y

image_later : {X Y : Type 0} (f : X → Y) (x : X) (xs : List X) (y : Y) → IsImage f xs y → IsImage f (x ∷ xs) y
image_later f x xs y image = record { it = image.it; there = (suc image.there.0, omega (arith, image.there.1), image.there.2); is = image.is }

pub image_of : {X Y : Type 0} (f : X → Y) (xs : List X) (y : Y) → Contains (map f xs) y → IsImage f xs y
image_of {X} {Y} f xs y there = by xs there.0 there.1 there.2
  where
    by : (xs : List X) (k : ℕ) → k < length (map f xs) → get_or (map f xs) k y ≡ y → IsImage f xs y
    by [] k h e = absurd (omega arith)
    by (x ∷ xs) zero h e = record { it = x; there = (0, omega arith, refl); is = e }
    by (x ∷ xs) (suc k) h e = image_later f x xs y (by xs k (omega arith) e)

-- ---- lists without repeats

pub same_index : {Y : Type 0} (ys : List Y) (i j : ℕ) (d : Y) → AllPairs ◌≢◌ ys → i < length ys → j < length ys → get_or ys i d ≡ get_or ys j d → i ≡ j
same_index {Y} ys i j d distinct h k e = by (cases_lt i j) (cases_lt j i)
  where
    by : (i < j) ⊎ (j ≤ i) → (j < i) ⊎ (i ≤ j) → i ≡ j
    by (inl l) o = absurd (distinct i j d l k e)
    by (inr l) (inl g) = absurd (distinct j i d g h (sym e))
    by (inr l) (inr g) = omega arith

-- two that the list contains are one, where a map that is the same of them repeats nothing
pub one_of_image : {X Y : Type 0} (f : X → Y) (xs : List X) (a b : X) → AllPairs ◌≢◌ (map f xs) → Contains xs a → Contains xs b → f a ≡ f b → a ≡ b
one_of_image f xs a b distinct at_a at_b same =
    let size = length-map xs f in
    let e : get_or (map f xs) at_a.0 (f a) ≡ get_or (map f xs) at_b.0 (f a) =
    (get_or-map f xs at_a.0 a (f a) at_a.1 ∙ ap f at_a.2) ∙ (same ∙ sym (get_or-map f xs at_b.0 b (f a) at_b.1 ∙ ap f at_b.2)) in
    let index : at_a.0 ≡ at_b.0 = same_index (map f xs) at_a.0 at_b.0 (f a) distinct (omega (arith, size, at_a.1)) (omega (arith, size, at_b.1)) e in
    sym at_a.2 ∙ (ap (λ k. get_or xs k a) index ∙ (get_or_default xs at_b.0 a b at_b.1 ∙ at_b.2))

pub distinct_push : {X : Type 0} (xs : List X) (x : X) → AllPairs ◌≢◌ xs → ¬ (Contains xs x) → AllPairs ◌≢◌ (xs ++ x ∷ [])
distinct_push xs x distinct apart = all_pairs_push ◌≢◌ xs x distinct (λ k d h e. apart (k, h, get_or_default xs k x d h ∙ e))

pub distinct_rest : {X : Type 0} (x : X) (xs : List X) → AllPairs ◌≢◌ (x ∷ xs) → AllPairs ◌≢◌ xs
distinct_rest x xs distinct i j d h k = distinct (suc i) (suc j) d (omega arith) (omega arith)

pub distinct_first : {X : Type 0} (x : X) (xs : List X) → AllPairs ◌≢◌ (x ∷ xs) → ¬ (Contains xs x)
distinct_first x xs distinct there = distinct 0 (suc there.0) x (omega arith) (omega (arith, there.1)) (sym there.2)

-- ---- lists from which something is taken out

contains_take : {X : Type 0} (i : ℕ) (xs : List X) (y : X) → Contains (take i xs) y → Contains xs y
contains_take i xs y there =
    let size = length-take i xs in
    (there.0, omega (arith, there.1, size), sym (get_or-take i xs there.0 y (omega (arith, there.1, size))) ∙ there.2)

contains_drop : {X : Type 0} (i : ℕ) (xs : List X) (y : X) → Contains (drop i xs) y → Contains xs y
contains_drop i xs y there =
    let size = length-drop i xs in
    (i + there.0, omega (arith, there.1, size), sym (get_or-drop i xs there.0 y) ∙ there.2)

-- what is left was there
pub contains_remove : {X : Type 0} (i : ℕ) (xs : List X) (y : X) → Contains (remove xs i) y → Contains xs y
contains_remove {X} i xs y there = by (Contains-append_cases (take i xs) (drop (suc i) xs) y there)
  where
    by : Contains (take i xs) y ⊎ Contains (drop (suc i) xs) y → Contains xs y
    by (inl before) = contains_take i xs y before
    by (inr behind) = contains_drop (suc i) xs y behind
