-- The classes of bytes that Oberon-07 tells apart (The Programming Language Oberon-07, section 3), and runs of them.
use Rattle.std.specs.Prelude.{◌≡◌, ℕ, Bool, true, false, not, ◌&&◌, ◌||◌, ◌==◌, List, [], ◌∷◌, ◌++◌}
use Rattle.std.specs.Char.{is_ascii_digit}
use Rattle.std.specs.Int.{is_in_range}
use Rattle.std.specs.List.{list_all}

-- the code of `"`
abbrev pub quote : ℕ
quote = 34

-- a digit, or a letter from A to F
abbrev pub is_number_byte : ℕ → Bool
is_number_byte byte = is_ascii_digit byte || is_in_range 65 70 byte

-- H or X, which may follow the digits of a number
abbrev pub is_suffix : ℕ → Bool
is_suffix byte = (byte == 72) || (byte == 88)

-- what a string may hold: all but `"` and the bytes that end lines
abbrev pub is_string_byte : ℕ → Bool
is_string_byte byte = not (byte == quote) && not ((byte == 10) || (byte == 13))

-- the text begins with a byte that passes
abbrev pub HasFirst : (ℕ → Bool) → List ℕ → Type 0
HasFirst test [] = ⊥
HasFirst test (byte ∷ rest) = test byte ≡ true

-- the text is empty, or begins with a byte that fails
abbrev pub LacksFirst : (ℕ → Bool) → List ℕ → Type 0
LacksFirst test [] = Unit {0}
LacksFirst test (byte ∷ rest) = test byte ≡ false

-- run is the longest front of the text in which each byte passes, and rest is what follows it
pub record IsRun (test : ℕ → Bool) (text run rest : List ℕ) : Type 0 where
  pub whole : text ≡ run ++ rest
  pub each : list_all test run ≡ true
  pub longest : LacksFirst test rest
