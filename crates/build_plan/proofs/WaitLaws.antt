-- For how many a place waits, and how that changes.
use Rattle.std.proofs.Common.{◌≡◌, ◌⊎◌, inl, inr, ℕ, zero, suc, ◌+◌, ◌<◌, List, [], ◌∷◌, ◌++◌, Bool, true, false, not, ◌&&◌, cond, eqb, Contains, refl, ap, sym, subst, ◌∙◌, arith}
use Rattle.std.specs.List.{count_by}
use Rattle.std.proofs.lemmas.Bool.{cases_eq, cases_Bool, and_cases, and_from, and_left, and_right, not-false, not_from_true, not_from_false, eq-eqb, ne_eqb, eqb-false}
use Rattle.std.proofs.lemmas.List.Sums.{sum_by-cons}
use Rattle.std.proofs.lemmas.List.Elements.{Contains-push}
use Rattle.build_plan.specs.Rows.{row_at, Imports}
use Rattle.build_plan.specs.Lists.{has_mark, count_of}
use Rattle.build_plan.specs.Front.{is_awaited, waits}
use Rattle.build_plan.proofs.Counting.{same_none, same_one, count_cons, count_push, counted, found}

-- ---- for whom a place waits

count_first : (test : ℕ → Bool) (x : ℕ) (xs : List ℕ) → count_by test (x ∷ xs) ≡ cond (test x) 1 0 + count_by test xs
count_first test x xs = sum_by-cons (λ y. let n : ℕ = cond (test y) 1 0 in n) x xs

none_pass : (test : ℕ → Bool) (xs : List ℕ) (x : ℕ) → count_by test xs ≡ 0 → Contains xs x → test x ≡ false
none_pass test [] x h c = let k : c.0 < 0 = c.1 in absurd (omega arith)
none_pass test (y ∷ ys) x h (zero, k, e) = by (cases_Bool (test y))
  where
    by : (test y ≡ true) ⊎ (test y ≡ false) → test x ≡ false
    by (inl t) =
        let first = count_first test y ys in
        let one : ◌≡◌ {A = ℕ} (cond (test y) 1 0) 1 = ap (λ b. let n : ℕ = cond b 1 0 in n) t in
        absurd (omega arith)
    by (inr f) = ap test (sym e) ∙ f
none_pass test (y ∷ ys) x h (suc i, k, e) =
    none_pass test ys x (let first = count_first test y ys in omega arith) (i, omega arith, e)

none_counted : (test : ℕ → Bool) (xs : List ℕ) → ((x : ℕ) → Contains xs x → test x ≡ false) → count_by test xs ≡ 0
none_counted test [] h = refl
none_counted test (y ∷ ys) h =
    let first = count_first test y ys in
    let fails : ◌≡◌ {A = ℕ} (cond (test y) 1 0) 0 = ap (λ b. let n : ℕ = cond b 1 0 in n) (h y (0, omega arith, refl)) in
    let rest = none_counted test ys (λ x c. h x (suc c.0, (let k = c.1 in omega arith), c.2)) in
    omega arith

module _ (spared : List Bool) (finished : List ℕ) where
  passed_or_awaited : (x : ℕ) → is_awaited spared finished x ≡ false → Contains finished x ⊎ (has_mark spared x ≡ true)
  passed_or_awaited x h = by (and_cases (not (has_mark spared x)) (eqb (count_of x finished) 0) h)
    where
      by : (not (has_mark spared x) ≡ false) ⊎ (eqb (count_of x finished) 0 ≡ false) → Contains finished x ⊎ (has_mark spared x ≡ true)
      by (inl n) = inr (not-false (has_mark spared x) n)
      by (inr n) = inl (some (cases_eq (count_of x finished) 0) n)
        where
          some : (count_of x finished ≡ 0) ⊎ (count_of x finished ≡ 0 → ⊥) → eqb (count_of x finished) 0 ≡ false → Contains finished x
          some (inl e) n = absurd (eqb-false (count_of x finished) 0 n e)
          some (inr m) n = found finished x (omega arith)

  not_awaited : (x : ℕ) → Contains finished x ⊎ (has_mark spared x ≡ true) → is_awaited spared finished x ≡ false
  not_awaited x (inl c) =
      and_right (not (has_mark spared x)) (eqb (count_of x finished) 0)
      (ne_eqb (count_of x finished) 0 (λ e. let k = counted finished x c in omega arith))
  not_awaited x (inr m) = and_left (not (has_mark spared x)) (eqb (count_of x finished) 0) (not_from_true (has_mark spared x) m)

  pub waits_none : (rows : List (List ℕ)) (p : ℕ) → waits rows spared finished p ≡ 0 → (import : ℕ) → Imports rows p import → Contains finished import ⊎ (has_mark spared import ≡ true)
  waits_none rows p h import i = passed_or_awaited import (none_pass (is_awaited spared finished) (row_at rows p) import h i)

  pub none_waited : (rows : List (List ℕ)) (p : ℕ) → ((import : ℕ) → Imports rows p import → Contains finished import ⊎ (has_mark spared import ≡ true)) → waits rows spared finished p ≡ 0
  none_waited rows p h = none_counted (is_awaited spared finished) (row_at rows p) (λ x c. not_awaited x (h x c))

-- ---- one place more is finished

module _ (spared : List Bool) (finished : List ℕ) (p : ℕ) where
  same_other : (x : ℕ) → (p ≡ x → ⊥) → is_awaited spared (finished ++ p ∷ []) x ≡ is_awaited spared finished x
  same_other x n =
      let e : count_of x (finished ++ p ∷ []) ≡ count_of x finished = (let k = count_push x finished p in let none = same_none p x n in omega arith) in
      ap (λ m. not (has_mark spared x) && eqb m 0) e

  -- nothing waits for a spared one
  same_spared : has_mark spared p ≡ true → (x : ℕ) → is_awaited spared (finished ++ p ∷ []) x ≡ is_awaited spared finished x
  same_spared m x = by (cases_eq p x)
    where
      by : (p ≡ x) ⊎ (p ≡ x → ⊥) → is_awaited spared (finished ++ p ∷ []) x ≡ is_awaited spared finished x
      by (inl e) =
          let k : has_mark spared x ≡ true = ap (has_mark spared) (sym e) ∙ m in
          not_awaited spared (finished ++ p ∷ []) x (inr k) ∙ sym (not_awaited spared finished x (inr k))
      by (inr n) = same_other x n

  same_counts : has_mark spared p ≡ true → (xs : List ℕ) → count_by (is_awaited spared (finished ++ p ∷ [])) xs ≡ count_by (is_awaited spared finished) xs
  same_counts m [] = refl
  same_counts m (x ∷ xs) =
      let a = count_first (is_awaited spared (finished ++ p ∷ [])) x xs in
      let b = count_first (is_awaited spared finished) x xs in
      let c : ◌≡◌ {A = ℕ} (cond (is_awaited spared (finished ++ p ∷ []) x) 1 0) (cond (is_awaited spared finished x) 1 0) = ap (λ t. let n : ℕ = cond t 1 0 in n) (same_spared m x) in
      let rest = same_counts m xs in
      omega arith

  pub waits_spared : has_mark spared p ≡ true → (rows : List (List ℕ)) (q : ℕ) → waits rows spared (finished ++ p ∷ []) q ≡ waits rows spared finished q
  waits_spared m rows q = same_counts m (row_at rows q)

  module _ (m : has_mark spared p ≡ false) (none : count_of p finished ≡ 0) where
    was_awaited : is_awaited spared finished p ≡ true
    was_awaited = and_from (not (has_mark spared p)) (eqb (count_of p finished) 0) (not_from_false (has_mark spared p) m) (eq-eqb (count_of p finished) 0 none)

    fewer_counts : (xs : List ℕ) → count_by (is_awaited spared (finished ++ p ∷ [])) xs + count_of p xs ≡ count_by (is_awaited spared finished) xs
    fewer_counts [] = refl
    fewer_counts (x ∷ xs) = by (fewer_counts xs) (cases_eq p x)
      where
        by : count_by (is_awaited spared (finished ++ p ∷ [])) xs + count_of p xs ≡ count_by (is_awaited spared finished) xs → (p ≡ x) ⊎ (p ≡ x → ⊥)
            → count_by (is_awaited spared (finished ++ p ∷ [])) (x ∷ xs) + count_of p (x ∷ xs) ≡ count_by (is_awaited spared finished) (x ∷ xs)
        by rest (inl e) =
            let a = count_first (is_awaited spared (finished ++ p ∷ [])) x xs in
            let b = count_first (is_awaited spared finished) x xs in
            let c = count_cons p x xs in
            let one = same_one x p (sym e) in
            let after : ◌≡◌ {A = ℕ} (cond (is_awaited spared (finished ++ p ∷ []) x) 1 0) 0 =
            ap (λ t. let n : ℕ = cond t 1 0 in n) (not_awaited spared (finished ++ p ∷ []) x (inl (subst (λ y. Contains (finished ++ p ∷ []) y) e (Contains-push finished p)))) in
            let before : ◌≡◌ {A = ℕ} (cond (is_awaited spared finished x) 1 0) 1 = ap (λ t. let n : ℕ = cond t 1 0 in n) (ap (is_awaited spared finished) (sym e) ∙ was_awaited) in
            omega arith
        by rest (inr n) =
            let a = count_first (is_awaited spared (finished ++ p ∷ [])) x xs in
            let b = count_first (is_awaited spared finished) x xs in
            let c = count_cons p x xs in
            let other = same_none x p (λ e. n (sym e)) in
            let same : ◌≡◌ {A = ℕ} (cond (is_awaited spared (finished ++ p ∷ []) x) 1 0) (cond (is_awaited spared finished x) 1 0) = ap (λ t. let n : ℕ = cond t 1 0 in n) (same_other x n) in
            omega arith

    pub waits_fewer : (rows : List (List ℕ)) (q : ℕ) → waits rows spared (finished ++ p ∷ []) q + count_of p (row_at rows q) ≡ waits rows spared finished q
    waits_fewer rows q = fewer_counts (row_at rows q)
