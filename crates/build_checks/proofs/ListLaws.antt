-- The places of a list that are modules of a build.
use Rattle.std.proofs.Common.{◌≡◌, ◌++◌, ◌⊎◌, inl, inr, ℕ, zero, suc, List, [], ◌∷◌, Bool, true, false, filter, sym, ap, subst, ◌∙◌, arith}
use Rattle.std.specs.Prelude.{Contains, if◌then◌else◌}
use Rattle.std.proofs.lemmas.Bool.{eqb-true, false≢true}
use Rattle.std.proofs.lemmas.Cmp.{nat_eq_equiv}
use Rattle.std.proofs.lemmas.List.{append-nil}
use Rattle.std.proofs.lemmas.List.Elements.{All-contains, All-contains_itself, All-filter, Contains-push_cases, filter-append, filter_passes}
use Rattle.std.proofs.lemmas.Map.Views.{Contains-from_any, list_any-from_Contains}
use Rattle.build_checks.specs.Stand.{is_among, of_build}

-- ---- a test on the members of a list

pub among_listed : (modules : List ℕ) (p : ℕ) → is_among modules p ≡ true → Contains modules p
among_listed modules p is = Contains-from_any eqb-true p modules is

pub listed_among : (modules : List ℕ) (p : ℕ) → Contains modules p → is_among modules p ≡ true
listed_among modules p c = list_any-from_Contains nat_eq_equiv p modules c

pub not_among : (modules : List ℕ) (p : ℕ) → is_among modules p ≡ false → Contains modules p → ⊥
not_among modules p is c = false≢true (sym is ∙ listed_among modules p c)

-- ---- what passes it

pub build_listed : (modules xs : List ℕ) (p : ℕ) → Contains (of_build modules xs) p → Contains xs p × Contains modules p
build_listed modules xs p c = (
  All-contains (Contains xs) (of_build modules xs) p (All-filter (is_among modules) (Contains xs) xs (All-contains_itself xs)) c,
  among_listed modules p (All-contains (λ x. is_among modules x ≡ true) (of_build modules xs) p (filter_passes (is_among modules) xs) c),
)

passes : (test : ℕ → Bool) (xs : List ℕ) (p : ℕ) → Contains xs p → test p ≡ true → Contains (filter test xs) p
passes test [] p c is = let h = c.1 in absurd (omega (arith, h))
passes test (x ∷ xs) p (zero, h, e) is = by (test x) (ap test e ∙ is)
  where
    by : (b : Bool) → b ≡ true → Contains (if b then x ∷ filter test xs else filter test xs) p
    by true here = (0, omega arith, e)
    by false here = absurd (false≢true here)
passes test (x ∷ xs) p (suc k, h, e) is = by (test x) (passes test xs p (k, omega (arith, h), e) is)
  where
    by : (b : Bool) → Contains (filter test xs) p → Contains (if b then x ∷ filter test xs else filter test xs) p
    by true c = (suc c.0, (let l = c.1 in omega (arith, l)), c.2)
    by false c = c

pub listed_build : (modules xs : List ℕ) (p : ℕ) → Contains xs p → Contains modules p → Contains (of_build modules xs) p
listed_build modules xs p c among = passes (is_among modules) xs p c (listed_among modules p among)

-- ---- one place more

pub build_push : (modules xs : List ℕ) (m : ℕ) → Contains modules m → of_build modules (xs ++ m ∷ []) ≡ of_build modules xs ++ m ∷ []
build_push modules xs m among =
    let here : is_among modules m ≡ true = listed_among modules m among in
    filter-append (is_among modules) xs (m ∷ []) ∙ ap (λ (b : Bool). of_build modules xs ++ (if b then m ∷ [] else [])) here

pub build_pass : (modules xs : List ℕ) (m : ℕ) → is_among modules m ≡ false → of_build modules (xs ++ m ∷ []) ≡ of_build modules xs
build_pass modules xs m here =
    filter-append (is_among modules) xs (m ∷ []) ∙ ap (λ (b : Bool). of_build modules xs ++ (if b then m ∷ [] else [])) here ∙ append-nil (of_build modules xs)

-- what is known of places that were pushed
pub push_cases : (P : ℕ → Type 0) (xs : List ℕ) (m : ℕ) → ((p : ℕ) → Contains xs p → P p) → P m → (p : ℕ) → Contains (xs ++ m ∷ []) p → P p
push_cases P xs m others one p c = by (Contains-push_cases xs m p c)
  where
    by : Contains xs p ⊎ (m ≡ p) → P p
    by (inl h) = others p h
    by (inr e) = subst P e one
