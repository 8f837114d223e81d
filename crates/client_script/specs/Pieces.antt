-- A text in pieces.
use Rattle.std.specs.Prelude.{◌==◌, ℕ, List, [], ◌∷◌, if◌then◌else◌}
use Rattle.std.specs.Borrow.{Bor}

abbrev pub with_front : ℕ → List (List ℕ) → List (List ℕ)
with_front byte [] = (byte ∷ []) ∷ []
with_front byte (piece ∷ pieces) = (byte ∷ piece) ∷ pieces

-- what stands between the bytes of this value, before the first and behind the last of them
abbrev pub pieces : ℕ → List ℕ → List (List ℕ)
pieces by [] = [] ∷ []
pieces by (byte ∷ text) = if byte == by then [] ∷ pieces by text else with_front byte (pieces by text)

abbrev pub now_of : Bor (List ℕ) → List ℕ
now_of piece = piece.now
