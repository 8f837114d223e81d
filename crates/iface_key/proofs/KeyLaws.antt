-- A key has one number, and a number keeps its key.
use Rattle.std.specs.Prelude.{ℕ, zero, suc, ◌<◌, ◌==◌, ◌≡◌, ◌++◌, ◌↔◌, nat_lt, if◌then◌else◌, Bool, true, false, IsTrue, List, [], ◌∷◌, Some, slice_get, refl}
use Rattle.std.proofs.Common.{ap, sym, ◌∙◌, arith, get_or}
use Rattle.std.proofs.lemmas.Bool.{ltb-false, ltb-true, eqb-true, eq-eqb}
use Rattle.std.proofs.lemmas.Option.{slice_get_within, get_or_from_slice_get}
use Rattle.std.proofs.lemmas.Map.Keys.{apart_from_distinct}
use Rattle.std.specs.Cmp.Lexicographic.{pointwise, same_text, other_text}
use Rattle.std.specs.List.{IsDistinct}

before : (ks : List (List ℕ)) (a b : ℕ) (k : List ℕ) → IsDistinct (pointwise ◌==◌) ks → slice_get ks a ≡ Some k → slice_get ks b ≡ Some k → a < b → ⊥
before ks a b k apart at_a at_b less =
    let x = get_or_from_slice_get ks a k [] at_a in
    let y = get_or_from_slice_get ks b k [] at_b in
    let differ = apart_from_distinct (pointwise ◌==◌) ks a b [] apart less (slice_get_within ks b k at_b) in
    let told = ap (λ z. pointwise ◌==◌ z (get_or ks b [])) (sym x) ∙ differ in
    let none = ap (λ z. pointwise ◌==◌ k z) (sym y) ∙ told in
    other_text k k (sym none) refl

either : (a b : ℕ) (p q : Bool) → (a < b → ⊥) → (b < a → ⊥) → nat_lt a b ≡ p → nat_lt b a ≡ q → a ≡ b
either a b true q no_a no_b e f = absurd (no_a (ltb-true a b e))
either a b false true no_a no_b e f = absurd (no_b (ltb-true b a f))
either a b false false no_a no_b e f = let h = ltb-false a b e in let k = ltb-false b a f in omega arith

pub one_number : (ks : List (List ℕ)) (a b : ℕ) (k : List ℕ) → IsDistinct (pointwise ◌==◌) ks → slice_get ks a ≡ Some k → slice_get ks b ≡ Some k → a ≡ b
one_number ks a b k apart at_a at_b = either a b (nat_lt a b) (nat_lt b a) (before ks a b k apart at_a at_b) (before ks b a k apart at_b at_a) refl refl

pub same_keys : (ks : List (List ℕ)) (a b : ℕ) (k l : List ℕ) → IsDistinct (pointwise ◌==◌) ks → slice_get ks a ≡ Some k → slice_get ks b ≡ Some l → IsTrue (a == b) ↔ (k ≡ l)
same_keys ks a b k l apart at_a at_b =
    let there : IsTrue (a == b) → k ≡ l = λ e. some_same k l (sym at_a ∙ ap (slice_get ks) (eqb-true a b e) ∙ at_b) in
    let back : k ≡ l → IsTrue (a == b) = λ e. eq-eqb a b (one_number ks a b k apart at_a (at_b ∙ ap Some (sym e))) in
    (there, back)
  where
    some_same : (k l : List ℕ) → Some k ≡ Some l → k ≡ l
    some_same k l e = cc

pub stored_key : (ks : List (List ℕ)) (n : ℕ) (key k : List ℕ) → slice_get ks n ≡ Some k → pointwise ◌==◌ key k ≡ true → slice_get ks n ≡ Some key
stored_key ks n key k at is = at ∙ ap Some (sym (same_text key k (sym is)))

get_kept : (xs ys : List (List ℕ)) (m : ℕ) (k : List ℕ) → slice_get xs m ≡ Some k → slice_get (xs ++ ys) m ≡ Some k
get_kept [] ys zero k e = absurd cc
get_kept [] ys (suc m) k e = absurd cc
get_kept (x ∷ xs) ys zero k e = e
get_kept (x ∷ xs) ys (suc m) k e = get_kept xs ys m k e

pub kept_key : (ks news : List (List ℕ)) (key : List ℕ) (c : Bool) → news ≡ (if c then ks else ks ++ key ∷ []) → (m : ℕ) (k : List ℕ) → slice_get ks m ≡ Some k → slice_get news m ≡ Some k
kept_key ks news key true is m k e = ap (λ xs. slice_get xs m) is ∙ e
kept_key ks news key false is m k e = ap (λ xs. slice_get xs m) is ∙ get_kept ks (key ∷ []) m k e
