-- What may be held at a path, and what a snapshot holds there.
use Rattle.std.specs.Prelude.{ℕ, ◌≤◌, List, [], ◌∷◌, length, nat_lt, Option, None, Some, if◌then◌else◌}
use Rattle.std.specs.Str.{IsUtf8, is_utf8, bytes_eq}
use Rattle.ob_text.specs.declared.held.Held.{Held}
use Rattle.ob_text.specs.declared.held.Held.TheVariants.{Text, Absent, TooLarge, NotText}

-- the most bytes of a document
abbrev pub text_limit : ℕ
text_limit = 262144

-- UTF-8 within the limit
pub record IsDocument (text : List ℕ) : Type 0 where
  pub utf8 : IsUtf8 text
  pub within : length text ≤ text_limit

-- a text among what is held is a document
abbrev pub IsReadable : Held → Type 0
IsReadable (Text text) = IsDocument text
IsReadable Absent = Unit {0}
IsReadable TooLarge = Unit {0}
IsReadable NotText = Unit {0}

-- what is held where a file has these bytes
abbrev pub held_of : List ℕ → Held
held_of bytes = if nat_lt text_limit (length bytes) then TooLarge else (if is_utf8 bytes then Text bytes else NotText)

-- the entries of a snapshot: a path, and what was held there
abbrev pub Entries : Type 0
Entries = List (List ℕ × Held)

-- the first entry of a path counts
abbrev pub held_at : Entries → List ℕ → Option Held
held_at [] path = None
held_at (entry ∷ entries) path = if bytes_eq entry.0 path then Some entry.1 else held_at entries path
