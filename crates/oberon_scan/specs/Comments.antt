-- Comments nest (The Programming Language Oberon-07, section 3). Inside one only `(*` and `*)` are looked at, from
-- left to right.
use Rattle.std.specs.Prelude.{◌≡◌, ℕ, suc, Bool, false, List, [], ◌∷◌, ◌++◌, codes, nat_eq}
use Rattle.std.specs.List.{starts_with}

abbrev pub opens_comment : List ℕ → Bool
opens_comment text = starts_with nat_eq text (codes "(*")

abbrev pub closes_comment : List ℕ → Bool
closes_comment text = starts_with nat_eq text (codes "*)")

-- In front of text n comments are open, and the outermost of them is closed in front of rest.
pub data Closes : ℕ → List ℕ → List ℕ → Type 0 where
  closed : {rest : List ℕ} → Closes 0 rest rest
  opens : {n : ℕ} {text more rest : List ℕ} → text ≡ codes "(*" ++ more → Closes (suc (suc n)) more rest → Closes (suc n) text rest
  closes : {n : ℕ} {text more rest : List ℕ} → text ≡ codes "*)" ++ more → Closes n more rest → Closes (suc n) text rest
  passes : {n : ℕ} {text more rest : List ℕ} (byte : ℕ) → text ≡ byte ∷ more → opens_comment text ≡ false → closes_comment text ≡ false → Closes (suc n) more rest → Closes (suc n) text rest

-- In front of text n comments are open, and the outermost of them is never closed.
pub data StaysOpen : ℕ → List ℕ → Type 0 where
  ended : {n : ℕ} → StaysOpen (suc n) []
  opens : {n : ℕ} {text more : List ℕ} → text ≡ codes "(*" ++ more → StaysOpen (suc (suc n)) more → StaysOpen (suc n) text
  closes : {n : ℕ} {text more : List ℕ} → text ≡ codes "*)" ++ more → StaysOpen n more → StaysOpen (suc n) text
  passes : {n : ℕ} {text more : List ℕ} (byte : ℕ) → text ≡ byte ∷ more → opens_comment text ≡ false → closes_comment text ≡ false → StaysOpen (suc n) more → StaysOpen (suc n) text
