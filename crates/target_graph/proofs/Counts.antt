-- How many items the lists of some elements have together.
use Rattle.std.proofs.Common.{◌≡◌, ℕ, ◌+◌, ◌<◌, ◌≤◌, List, [], ◌∷◌, ◌++◌, true, false, ltb, length, get_or, take, drop, ap, sym, ◌∙◌, arith}
use Rattle.std.specs.List.{flat_map}
use Rattle.std.proofs.lemmas.Bool.{lt-ltb, le-ltb}
use Rattle.std.proofs.lemmas.List.{take_more, take-append-drop, length-append, append-nil}
use Rattle.std.proofs.lemmas.List.Concat.{flat_map-append}

pub flat_more : {X A : Type 0} (f : X → List A) (xs : List X) (i : ℕ) (x : X) → i < length xs → x ≡ get_or xs i x
    → length (flat_map f (take (i + 1) xs)) ≡ length (flat_map f (take i xs)) + length (f x)
flat_more f xs i x h e =
    ap (λ ys. length (flat_map f ys)) (take_more xs i x h)
    ∙ (ap length (flat_map-append f (take i xs) (get_or xs i x ∷ []))
    ∙ (length-append (flat_map f (take i xs)) (f (get_or xs i x) ++ [])
    ∙ ap (λ ys. length (flat_map f (take i xs)) + length ys) (append-nil (f (get_or xs i x)) ∙ ap f (sym e))))

pub flat_part : {X A : Type 0} (f : X → List A) (xs : List X) (i : ℕ) → length (flat_map f (take i xs)) ≤ length (flat_map f xs)
flat_part f xs i =
    let e : length (flat_map f xs) ≡ length (flat_map f (take i xs)) + length (flat_map f (drop i xs)) =
    ap (λ ys. length (flat_map f ys)) (sym (take-append-drop i xs))
    ∙ (ap length (flat_map-append f (take i xs) (drop i xs)) ∙ length-append (flat_map f (take i xs)) (flat_map f (drop i xs))) in
    omega arith

-- a count that has passed a limit, and one that has not
pub passes : (limit n : ℕ) → limit < n → true ≡ ltb limit n
passes limit n h = sym (lt-ltb limit n h)

pub stays : (limit n : ℕ) → n ≤ limit → false ≡ ltb limit n
stays limit n h = sym (le-ltb limit n h)
