-- Texts of ASCII, and how long they are. A text is its bytes.
use Rattle.std.specs.Prelude.{◌≡◌, ℕ, ◌≤◌, true, List, length}
use Rattle.std.specs.Char.{is_ascii_graphic}
use Rattle.std.specs.List.{list_all}
use Rattle.std.specs.Str.{IsAscii}

-- it has at most so many bytes
abbrev pub IsWithin : ℕ → List ℕ → Type 0
IsWithin limit text = length text ≤ limit

-- each byte is a printing character of ASCII, and no blank
abbrev pub IsGraphic : List ℕ → Type 0
IsGraphic text = list_all is_ascii_graphic text ≡ true

-- plain: of ASCII, and no longer than a limit
pub record IsPlain (limit : ℕ) (text : List ℕ) : Type 0 where
  pub ascii : IsAscii text
  pub short : IsWithin limit text

-- of printing characters alone, and no longer than a limit
pub record IsGraphicWithin (limit : ℕ) (text : List ℕ) : Type 0 where
  pub graphic : IsGraphic text
  pub short : IsWithin limit text
