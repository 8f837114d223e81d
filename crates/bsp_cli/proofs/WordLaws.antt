-- Two words are a list of two.
use Rattle.std.proofs.Common.{◌≡◌, ℕ, List, [], ◌∷◌, length, get_or, arith}

pub two_items : (words : List (List ℕ)) (a b : List ℕ) → length words ≡ 2 → a ≡ get_or words 0 a → b ≡ get_or words 1 b → words ≡ a ∷ b ∷ []
two_items [] a b two first second = absurd (omega arith)
two_items (x ∷ []) a b two first second = absurd (omega arith)
two_items (x ∷ y ∷ []) a b two first second = rw (first, second)
two_items (x ∷ y ∷ z ∷ more) a b two first second = absurd (omega arith)
