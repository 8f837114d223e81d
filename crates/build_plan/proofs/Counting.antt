-- How often a place stands in a list.
use Rattle.std.proofs.Common.{◌≡◌, ◌⊎◌, inl, inr, ℕ, zero, suc, ◌+◌, ◌<◌, ◌≤◌, List, [], ◌∷◌, ◌++◌, true, false, cond, eqb, length, get_or, take, Contains, refl, ap, sym, arith}
use Rattle.std.specs.List.{IsDistinct, AllByRecursion, list_any}
use Rattle.std.proofs.lemmas.Bool.{false≢true, cases_eq, eq-eqb, ne_eqb, eqb-true, or_cases, or_left, or_right}
use Rattle.std.proofs.lemmas.List.Sums.{sum_by-cons, sum_by_push, sum_by_more, sum_by-take-le}
use Rattle.std.proofs.lemmas.Map.Steps.{length-le_from_distinct_below, le-length_from_below}
use Rattle.build_plan.specs.Lists.{count_of}

-- 1 where the places are one, else 0
abbrev pub same_count : ℕ → ℕ → ℕ
same_count other place = cond (eqb other place) 1 0

pub same_one : (a b : ℕ) → a ≡ b → same_count a b ≡ 1
same_one a b e = ap (λ t. let n : ℕ = cond t 1 0 in n) (eq-eqb a b e)

pub same_none : (a b : ℕ) → (a ≡ b → ⊥) → same_count a b ≡ 0
same_none a b e = ap (λ t. let n : ℕ = cond t 1 0 in n) (ne_eqb a b e)

pub count_cons : (p x : ℕ) (xs : List ℕ) → count_of p (x ∷ xs) ≡ same_count x p + count_of p xs
count_cons p x xs = sum_by-cons (λ y. same_count y p) x xs

pub count_push : (p : ℕ) (xs : List ℕ) (x : ℕ) → count_of p (xs ++ x ∷ []) ≡ count_of p xs + same_count x p
count_push p xs x = sum_by_push (λ y. same_count y p) xs x

pub count_more : (p : ℕ) (xs : List ℕ) (i d : ℕ) → i < length xs → count_of p (take (i + 1) xs) ≡ count_of p (take i xs) + same_count (get_or xs i d) p
count_more p xs i d h = sum_by_more (λ y. same_count y p) xs i d h

pub count_take : (p : ℕ) (xs : List ℕ) (i : ℕ) → count_of p (take i xs) ≤ count_of p xs
count_take p xs i = sum_by-take-le (λ y. same_count y p) xs i

-- ---- a place stands in a list where it stands there at least once

pub counted : (xs : List ℕ) (x : ℕ) → Contains xs x → 0 < count_of x xs
counted [] x c = let k : c.0 < 0 = c.1 in absurd (omega arith)
counted (y ∷ ys) x (zero, k, e) = let one = same_one y x e in let all = count_cons x y ys in omega arith
counted (y ∷ ys) x (suc i, k, e) = let rest = counted ys x (i, omega arith, e) in let all = count_cons x y ys in omega arith

pub found : (xs : List ℕ) (x : ℕ) → 0 < count_of x xs → Contains xs x
found [] x h = absurd (omega arith)
found (y ∷ ys) x h = by (found ys x) (cases_eq y x)
  where
    by : (0 < count_of x ys → Contains ys x) → (y ≡ x) ⊎ (y ≡ x → ⊥) → Contains (y ∷ ys) x
    by rest (inl e) = (0, omega arith, e)
    by rest (inr n) =
        let none = same_none y x n in
        let all = count_cons x y ys in
        let c = rest (omega arith) in
        (suc c.0, (let k = c.1 in omega arith), c.2)

pub not_counted : (xs : List ℕ) (x : ℕ) → (Contains xs x → ⊥) → count_of x xs ≡ 0
not_counted xs x h = by (count_of x xs) refl
  where
    by : (n : ℕ) → n ≡ count_of x xs → count_of x xs ≡ 0
    by zero e = sym e
    by (suc n) e = absurd (h (found xs x (omega arith)))

pub is_counted : (xs : List ℕ) (x : ℕ) → Contains xs x ⊎ (Contains xs x → ⊥)
is_counted xs x = by (count_of x xs) refl
  where
    by : (n : ℕ) → n ≡ count_of x xs → Contains xs x ⊎ (Contains xs x → ⊥)
    by zero e = inr (λ c. let k = counted xs x c in omega arith)
    by (suc n) e = inl (found xs x (omega arith))

-- ---- how long a list is in which no place stands twice

apart : (x : ℕ) (xs : List ℕ) → count_of x xs ≡ 0 → AllByRecursion (λ y. eqb x y ≡ false) xs
apart x [] h = tt
apart x (y ∷ ys) h = by (apart x ys) (cases_eq y x)
  where
    by : (count_of x ys ≡ 0 → AllByRecursion (λ z. eqb x z ≡ false) ys) → (y ≡ x) ⊎ (y ≡ x → ⊥) → AllByRecursion (λ z. eqb x z ≡ false) (y ∷ ys)
    by rest (inl e) = let one = same_one y x e in let all = count_cons x y ys in absurd (omega arith)
    by rest (inr n) = let all = count_cons x y ys in (ne_eqb x y (λ e. n (sym e)), rest (omega arith))

distinct : (xs : List ℕ) → ((p : ℕ) → count_of p xs ≤ 1) → IsDistinct eqb xs
unfolding IsDistinct
distinct [] h = tt
distinct (x ∷ xs) h = (
  apart x xs (let one = same_one x x refl in let all = count_cons x x xs in let k = h x in omega arith),
  distinct xs (λ p. let all = count_cons p x xs in let k = h p in omega arith),
)

among : (xs : List ℕ) (q : ℕ) → list_any (eqb q) xs ≡ true → 0 < count_of q xs
among [] q h = absurd (false≢true h)
among (x ∷ xs) q h = by (among xs q) (or_cases (eqb q x) (list_any (eqb q) xs) h)
  where
    by : (list_any (eqb q) xs ≡ true → 0 < count_of q xs) → (eqb q x ≡ true) ⊎ (list_any (eqb q) xs ≡ true) → 0 < count_of q (x ∷ xs)
    by rest (inl e) = let one = same_one x q (sym (eqb-true q x e)) in let all = count_cons q x xs in omega arith
    by rest (inr r) = let k = rest r in let all = count_cons q x xs in omega arith

listed : (xs : List ℕ) (q : ℕ) → 0 < count_of q xs → list_any (eqb q) xs ≡ true
listed [] q h = absurd (omega arith)
listed (x ∷ xs) q h = by (listed xs q) (cases_eq x q)
  where
    by : (0 < count_of q xs → list_any (eqb q) xs ≡ true) → (x ≡ q) ⊎ (x ≡ q → ⊥) → list_any (eqb q) (x ∷ xs) ≡ true
    by rest (inl e) = or_left (eqb q x) (list_any (eqb q) xs) (eq-eqb q x (sym e))
    by rest (inr n) = let none = same_none x q n in let all = count_cons q x xs in or_right (eqb q x) (list_any (eqb q) xs) (rest (omega arith))

pub few : (xs : List ℕ) (n : ℕ) → ((p : ℕ) → count_of p xs ≤ 1) → ((p : ℕ) → 0 < count_of p xs → p < n) → length xs ≤ n
few xs n once below = length-le_from_distinct_below xs n (distinct xs once) (λ q h. below q (among xs q h))

pub many : (xs : List ℕ) (n : ℕ) → ((p : ℕ) → p < n → 0 < count_of p xs) → n ≤ length xs
many xs n all = le-length_from_below xs n (λ q h. listed xs q (all q h))
