-- Numbers that stand in a list, and places on a cycle.
use Rattle.std.proofs.Common.{◌≡◌, ◌<◌, ◌≤◌, ◌∷◌, [], ◌⊎◌, inl, inr, ℕ, zero, suc, List, true, length, subst, arith}
use Rattle.std.specs.Prelude.{Contains, ◌==◌}
use Rattle.std.specs.List.{list_any}
use Rattle.std.proofs.lemmas.Bool.{cases_lt, eqb-true, eq-eqb, false≢true, or_cases, or_left, or_right}
use Rattle.std.proofs.lemmas.List.{get_or_past}
use Rattle.build_plan.specs.Rows.{Imports, IsWay, OnCycle}

pub any_listed : (n : ℕ) (xs : List ℕ) → list_any (λ x. x == n) xs ≡ true → Contains xs n
any_listed n [] is = absurd (false≢true is)
any_listed n (x ∷ xs) is = by (or_cases (x == n) (list_any (λ y. y == n) xs) is) (any_listed n xs)
  where
    by : (x == n ≡ true) ⊎ (list_any (λ y. y == n) xs ≡ true) → (list_any (λ y. y == n) xs ≡ true → Contains xs n) → Contains (x ∷ xs) n
    by (inl e) behind = (0, omega arith, eqb-true x n e)
    by (inr rest) behind = let c = behind rest in (suc c.0, (let k = c.1 in omega arith), c.2)

pub listed_any : (n : ℕ) (xs : List ℕ) → Contains xs n → list_any (λ x. x == n) xs ≡ true
listed_any n [] c = let k = c.1 in absurd (omega (arith, k))
listed_any n (x ∷ xs) (zero, k, e) = or_left (x == n) (list_any (λ y. y == n) xs) (eq-eqb x n e)
listed_any n (x ∷ xs) (suc i, k, e) = or_right (x == n) (list_any (λ y. y == n) xs) (listed_any n xs (i, omega arith, e))

-- what imports nothing is on no cycle
pub cycle_within : (rows : List (List ℕ)) (p : ℕ) → OnCycle rows p → p < length rows
cycle_within rows p on = by (cases_lt p (length rows)) on.way on.is_way
  where
    nothing : (q : ℕ) → length rows ≤ p → Imports rows p q → ⊥
    nothing q past c = let none : Contains [] q = subst (λ (r : List ℕ). Contains r q) (get_or_past rows p [] past) c in let k = none.1 in omega (arith, k)

    by : (p < length rows) ⊎ (length rows ≤ p) → (way : List ℕ) → IsWay (Imports rows) p way p → p < length rows
    by (inl h) way is = h
    by (inr past) [] is = absurd (nothing p past is)
    by (inr past) (next ∷ way) is = absurd (nothing next past is.0)
