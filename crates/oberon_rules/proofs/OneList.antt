-- There is one list of the same diagnostics in their order.
use Rattle.std.proofs.Common.{◌≡◌, ◌<◌, ◌⊎◌, inl, inr, ℕ, zero, suc, Bool, ◌&&◌, ◌==◌, nat_lt, IsTrue, List, [], ◌∷◌, Option, Some, None, Contains, AllPairs, ◌↔◌, refl, sym, ◌∙◌, ap, subst, arith, ⊎_elim}
use Rattle.std.proofs.lemmas.Bool.{or_cases, and_parts, ltb-true, eqb-true, true≢false}
use Rattle.ob_text.specs.declared.diagnostic.Diagnostic.{Diagnostic}
use Rattle.oberon_rules.specs.Order.{name_before, name_option_before, number_of, less_or, before, IsListed}

-- ---- of two diagnostics one stands before the other, and not both

less_or_apart : (a b : ℕ) (p q : Bool) → (IsTrue p → IsTrue q → ⊥) → IsTrue (less_or a b p) → IsTrue (less_or b a q) → ⊥
less_or_apart a b p q apart h g = ⊎_elim (λ l. first (ltb-true a b l)) (λ e. second (and_parts (a == b) p e)) (or_cases (nat_lt a b) (a == b && p) h)
  where
    first : a < b → ⊥
    first l = ⊎_elim (λ m. let k = ltb-true b a m in absurd (omega (arith, l, k))) (λ e. let k = eqb-true b a (and_parts (b == a) q e).0 in absurd (omega (arith, l, k))) (or_cases (nat_lt b a) (b == a && q) g)

    second : (IsTrue (a == b)) × IsTrue p → ⊥
    second e = ⊎_elim (λ m. let k = ltb-true b a m in let s = eqb-true a b e.0 in absurd (omega (arith, s, k))) (λ f. apart e.1 (and_parts (b == a) q f).1) (or_cases (nat_lt b a) (b == a && q) g)

names_apart : (a b : List ℕ) → IsTrue (name_before a b) → IsTrue (name_before b a) → ⊥
names_apart a [] h g = true≢false (sym h)
names_apart [] (y ∷ b) h g = true≢false (sym g)
names_apart (x ∷ a) (y ∷ b) h g = less_or_apart x y (name_before a b) (name_before b a) (names_apart a b) h g

options_apart : (a b : Option (List ℕ)) → IsTrue (name_option_before a b) → IsTrue (name_option_before b a) → ⊥
options_apart None None h g = true≢false (sym h)
options_apart None (Some b) h g = true≢false (sym g)
options_apart (Some a) None h g = true≢false (sym h)
options_apart (Some a) (Some b) h g = names_apart a b h g

before_apart : (d e : Diagnostic) → IsTrue (before d e) → IsTrue (before e d) → ⊥
before_apart d e =
    less_or_apart d.span.start e.span.start _ _
    (less_or_apart d.span.end e.span.end _ _
    (less_or_apart (number_of d.code) (number_of e.code) _ _ (options_apart d.name e.name)))

-- ---- lists

in_cons : (d x : Diagnostic) (xs : List Diagnostic) → Contains (x ∷ xs) d → (x ≡ d) ⊎ Contains xs d
in_cons d x xs (zero, l, e) = inl e
in_cons d x xs (suc k, l, e) = inr (k, omega arith, e)

behind_cons : (d x : Diagnostic) (xs : List Diagnostic) → Contains xs d → Contains (x ∷ xs) d
behind_cons d x xs c = (suc c.0, (let l = c.1 in omega (arith, l)), c.2)

head_before : (x d : Diagnostic) (xs : List Diagnostic) → AllPairs (λ a b. IsTrue (before a b)) (x ∷ xs) → Contains xs d → IsTrue (before x d)
head_before x d xs h c = subst (λ e. IsTrue (before x e)) c.2 (h 0 (suc c.0) d (omega arith) (let l = c.1 in omega (arith, l)))

tail_sorted : (x : Diagnostic) (xs : List Diagnostic) → AllPairs (λ a b. IsTrue (before a b)) (x ∷ xs) → AllPairs (λ a b. IsTrue (before a b)) xs
tail_sorted x xs h i j d l within = h (suc i) (suc j) d (omega arith) (omega arith)

-- the first of one list is the first of the other
same_head : (x y : Diagnostic) (xs ys : List Diagnostic) → AllPairs (λ a b. IsTrue (before a b)) (x ∷ xs) → AllPairs (λ a b. IsTrue (before a b)) (y ∷ ys) → Contains (y ∷ ys) x → Contains (x ∷ xs) y → x ≡ y
same_head x y xs ys h g c d = ⊎_elim sym (λ b. ⊎_elim (λ e. e) (λ a. absurd (before_apart x y (head_before x y xs h a) (head_before y x ys g b))) (in_cons y x xs d)) (in_cons x y ys c)

same_tail : (x y d : Diagnostic) (xs ys : List Diagnostic) → x ≡ y → AllPairs (λ a b. IsTrue (before a b)) (x ∷ xs) → (Contains (x ∷ xs) d → Contains (y ∷ ys) d) → Contains xs d → Contains ys d
same_tail x y d xs ys same h within c = ⊎_elim (λ e. absurd (before_apart x x (subst (λ a. IsTrue (before x a)) (sym (same ∙ e)) (head_before x d xs h c)) (subst (λ a. IsTrue (before x a)) (sym (same ∙ e)) (head_before x d xs h c)))) (λ a. a) (in_cons d y ys (within (behind_cons d x xs c)))

same_lists : (xs ys : List Diagnostic) → AllPairs (λ a b. IsTrue (before a b)) xs → AllPairs (λ a b. IsTrue (before a b)) ys → ((d : Diagnostic) → Contains xs d ↔ Contains ys d) → xs ≡ ys
same_lists [] [] h g same = refl
same_lists [] (y ∷ ys) h g same = let l = ((same y).1 (0, omega arith, refl)).1 in absurd (omega (arith, l))
same_lists (x ∷ xs) [] h g same = let l = ((same x).0 (0, omega arith, refl)).1 in absurd (omega (arith, l))
same_lists (x ∷ xs) (y ∷ ys) h g same =
    let e = same_head x y xs ys h g ((same x).0 (0, omega arith, refl)) ((same y).1 (0, omega arith, refl)) in
    let rest = same_lists xs ys (tail_sorted x xs h) (tail_sorted y ys g) (λ d. (same_tail x y d xs ys e h (same d).0, same_tail y x d ys xs (sym e) g (same d).1)) in
    ap (λ a. a ∷ xs) e ∙ ap (λ bs. y ∷ bs) rest

pub one_list : (given xs ys : List Diagnostic) → IsListed given xs → IsListed given ys → xs ≡ ys
one_list given xs ys a b = same_lists xs ys a.sorted b.sorted (λ d. ((λ c. (b.same d).0 ((a.same d).1 c)), (λ c. (a.same d).0 ((b.same d).1 c))))
