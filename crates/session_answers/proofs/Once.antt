-- Numbers of which each stands once: there are no more of them than numbers below their limit, and they weigh no more.
use Rattle.std.proofs.Common.{◌≡◌, ℕ, zero, suc, ◌+◌, ◌<◌, ◌≤◌, Bool, true, false, not, cond, List, [], ◌∷◌, ◌++◌, length, fold, eqb, ap, sym, subst, ◌∙◌, refl, arith}
use Rattle.std.specs.List.{All, AllPairs, AllByRecursion, IsDistinct, filter, list_any, sum_by}
use Rattle.std.proofs.lemmas.Bool.{eqb-true}
use Rattle.std.proofs.lemmas.Bool.Decides.{Decides-eqb, nat_tests}
use Rattle.std.proofs.lemmas.Cmp.{nat_eq_equiv}
use Rattle.std.proofs.lemmas.List.Elements.{All-nil, All-cons, All-head, All-tail, All-push}
use Rattle.std.proofs.lemmas.List.Sums.{sum_by-cons}
use Rattle.std.proofs.lemmas.Map.Keys.{IsDistinct-cons, IsDistinct-head, IsDistinct-tail, IsDistinct-push}
use Rattle.std.proofs.lemmas.Map.Made.{IsDistinct-from_AllPairs}
use Rattle.ob_text.specs.Once.{each_once, once_more}

-- ---- each stands once

distinct_more : (xs : List ℕ) (x : ℕ) → IsDistinct eqb xs → IsDistinct eqb (once_more eqb xs x)
distinct_more xs x d = go (list_any (eqb x) xs) refl
  where
    go : (b : Bool) → list_any (eqb x) xs ≡ b → IsDistinct eqb (cond b xs (xs ++ x ∷ []))
    go true is = d
    go false is = IsDistinct-push nat_eq_equiv xs x d is

distinct_fold : (ys xs : List ℕ) → IsDistinct eqb xs → IsDistinct eqb (fold (once_more eqb) xs ys)
distinct_fold [] xs d = d
distinct_fold (y ∷ ys) xs d = distinct_fold ys (once_more eqb xs y) (distinct_more xs y d)

pub distinct_once : (ys : List ℕ) → IsDistinct eqb (each_once eqb ys)
unfolding IsDistinct
distinct_once ys = distinct_fold ys [] tt

all_more : (P : ℕ → Type 0) (xs : List ℕ) (x : ℕ) → All P xs → P x → All P (once_more eqb xs x)
all_more P xs x all one = go (list_any (eqb x) xs)
  where
    go : (b : Bool) → All P (cond b xs (xs ++ x ∷ []))
    go true = all
    go false = All-push P xs x all one

all_fold : (P : ℕ → Type 0) (ys xs : List ℕ) → All P xs → All P ys → All P (fold (once_more eqb) xs ys)
all_fold P [] xs all others = all
all_fold P (y ∷ ys) xs all others = all_fold P ys (once_more eqb xs y) (all_more P xs y all (All-head P y ys others)) (All-tail P y ys others)

pub all_once : (P : ℕ → Type 0) (ys : List ℕ) → All P ys → All P (each_once eqb ys)
all_once P ys all = all_fold P ys [] (All-nil P) all

-- ---- what they weigh

-- the numbers but one
abbrev but : ℕ → List ℕ → List ℕ
but m xs = filter (λ x. not (eqb m x)) xs

absent : (m : ℕ) (xs : List ℕ) → AllByRecursion (λ y. eqb m y ≡ false) xs → but m xs ≡ xs
absent m [] h = refl
absent m (x ∷ xs) h = ap (λ b. cond (not b) (x ∷ but m xs) (but m xs)) h.0 ∙ ap (λ ys. x ∷ ys) (absent m xs h.1)

all_but : (P : ℕ → Type 0) (m : ℕ) (xs : List ℕ) → AllByRecursion P xs → AllByRecursion P (but m xs)
all_but P m [] h = tt
all_but P m (x ∷ xs) h = go (eqb m x) (all_but P m xs h.1)
  where
    go : (b : Bool) → AllByRecursion P (but m xs) → AllByRecursion P (cond (not b) (x ∷ but m xs) (but m xs))
    go true rest = rest
    go false rest = (h.0, rest)

distinct_but : (m : ℕ) (xs : List ℕ) → IsDistinct eqb xs → IsDistinct eqb (but m xs)
distinct_but m [] d = d
distinct_but m (x ∷ xs) d = go (eqb m x) (distinct_but m xs (IsDistinct-tail eqb x xs d))
  where
    go : (b : Bool) → IsDistinct eqb (but m xs) → IsDistinct eqb (cond (not b) (x ∷ but m xs) (but m xs))
    go true rest = rest
    go false rest = IsDistinct-cons eqb x (but m xs) (all_but (λ y. eqb x y ≡ false) m xs (IsDistinct-head eqb x xs d)) rest

one_out : (w : ℕ → ℕ) (m : ℕ) (xs : List ℕ) → IsDistinct eqb xs → sum_by w xs ≤ sum_by w (but m xs) + w m
one_out w m [] d = omega arith
one_out w m (x ∷ xs) d = go (eqb m x) refl (one_out w m xs (IsDistinct-tail eqb x xs d))
  where
    go : (b : Bool) → eqb m x ≡ b → sum_by w xs ≤ sum_by w (but m xs) + w m → sum_by w (x ∷ xs) ≤ sum_by w (cond (not b) (x ∷ but m xs) (but m xs)) + w m
    go true is more =
        let same : m ≡ x = eqb-true m x is in
        let gone : but m xs ≡ xs = absent m xs (subst (λ k. AllByRecursion (λ y. eqb k y ≡ false) xs) (sym same) (IsDistinct-head eqb x xs d)) in
        let whole = sum_by-cons w x xs in
        let weight : w m ≡ w x = ap w same in
        let left : sum_by w (but m xs) ≡ sum_by w xs = ap (sum_by w) gone in
        omega arith
    go false is more =
        let whole = sum_by-cons w x xs in
        let rest = sum_by-cons w x (but m xs) in
        omega arith

still_below : (n x : ℕ) → x < suc n → eqb n x ≡ false → x < n
still_below n x h is = grind (arith, nat_tests)

below_but : (n : ℕ) (xs : List ℕ) → All (λ x. x < suc n) xs → All (λ x. x < n) (but n xs)
below_but n [] h = All-nil (λ x. x < n)
below_but n (x ∷ xs) h = go (eqb n x) refl (below_but n xs (All-tail (λ y. y < suc n) x xs h))
  where
    go : (b : Bool) → eqb n x ≡ b → All (λ y. y < n) (but n xs) → All (λ y. y < n) (cond (not b) (x ∷ but n xs) (but n xs))
    go true is rest = rest
    go false is rest = All-cons (λ y. y < n) x (but n xs) (still_below n x (All-head (λ y. y < suc n) x xs h) is) rest

-- what all numbers below a limit weigh
abbrev pub total : (ℕ → ℕ) → ℕ → ℕ
total w zero = 0
total w (suc n) = total w n + w n

pub weighs_less : (w : ℕ → ℕ) (n : ℕ) (xs : List ℕ) → IsDistinct eqb xs → All (λ x. x < n) xs → sum_by w xs ≤ total w n
weighs_less w zero [] d h = omega arith
weighs_less w zero (x ∷ xs) d h = absurd (let none : x < 0 = All-head (λ y. y < 0) x xs h in omega arith)
weighs_less w (suc n) xs d h =
    let one = one_out w n xs d in
    let rest = weighs_less w n (but n xs) (distinct_but n xs d) (below_but n xs h) in
    omega arith

pub total_front : (w : ℕ → ℕ) (n : ℕ) → total w (suc n) ≡ w 0 + total (λ k. w (suc k)) n
total_front w zero = omega arith
total_front w (suc n) = let before = total_front w n in omega arith

-- ---- how many they are

ones : (xs : List ℕ) → sum_by (λ _. 1) xs ≡ length xs
ones [] = refl
ones (x ∷ xs) = let whole = sum_by-cons (λ (_ : ℕ). 1) x xs in let rest = ones xs in omega arith

all_ones : (n : ℕ) → total (λ _. 1) n ≡ n
all_ones zero = refl
all_ones (suc n) = let before = all_ones n in omega arith

pub count_below : (n : ℕ) (xs : List ℕ) → IsDistinct eqb xs → All (λ x. x < n) xs → length xs ≤ n
count_below n xs d h =
    let weight = weighs_less (λ _. 1) n xs d h in
    let left = ones xs in
    let right = all_ones n in
    omega arith

-- numbers that rise
pub distinct_rising : (xs : List ℕ) → AllPairs ◌<◌ xs → IsDistinct eqb xs
distinct_rising xs rising = IsDistinct-from_AllPairs Decides-eqb xs (λ i j d h k same. (let less = rising i j d h k in omega (arith, less, same)))
