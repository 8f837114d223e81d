-- A recording of a session: its entries, and how they are spelled.
use Rattle.std.specs.Prelude.{◌≡◌, ◌<◌, ◌++◌, ℕ, List, [], ◌∷◌, length, codes, decimal, Option, Some, None}
use Rattle.std.specs.List.{All, flat_map}
use Rattle.std.specs.Str.{IsUtf8}
use Rattle.ob_text.specs.Held.{Entries}
use Rattle.ob_text.specs.declared.held.Held.{Held}
use Rattle.ob_text.specs.declared.held.Held.TheVariants.{Text, Absent, TooLarge, NotText}
use Rattle.serde_json.specs.Data.{Data, Items, null, string, array, item, no_items}
use Rattle.serde_json.specs.Written.{compact_text}

-- What happened, in order.
pub data Entry : Type 0 where
  -- a piece of the input was read
  piece : List ℕ → Entry
  -- the tree handed out what it held, or failed
  handed : Option Entries → Entry
  -- these bytes were written, as one frame
  written : List ℕ → Entry
  -- the session ended with this status
  over : ℕ → Entry

-- ---- what the tree handed out, as JSON

abbrev pub held_items : Held → Items
held_items (Text text) = item (string (codes "text")) (item (string text) no_items)
held_items Absent = item (string (codes "absent")) no_items
held_items TooLarge = item (string (codes "tooLarge")) no_items
held_items NotText = item (string (codes "notText")) no_items

-- a path, and what was held there
abbrev pub entry_data : List ℕ × Held → Data
entry_data entry = array (item (string entry.0) (held_items entry.1))

abbrev pub entries_items : Entries → Items
entries_items [] = no_items
entries_items (entry ∷ entries) = item (entry_data entry) (entries_items entries)

abbrev pub handed_data : Option Entries → Data
handed_data None = null
handed_data (Some entries) = array (entries_items entries)

-- ---- spelling

abbrev pub first_line : List ℕ
first_line = codes "oberon-bsp record 1\n"

abbrev pub kind_of : Entry → List ℕ
kind_of (piece bytes) = codes "in"
kind_of (handed entries) = codes "tree"
kind_of (written bytes) = codes "out"
kind_of (over status) = codes "end"

abbrev pub bytes_of : Entry → List ℕ
bytes_of (piece bytes) = bytes
bytes_of (handed entries) = compact_text (handed_data entries)
bytes_of (written bytes) = bytes
bytes_of (over status) = decimal status

-- a line with the kind and the number of the bytes, the bytes, and the end of a line
abbrev pub spelled : List ℕ → List ℕ → List ℕ
spelled kind bytes = kind ++ (codes " " ++ (decimal (length bytes) ++ (codes "\n" ++ (bytes ++ codes "\n"))))

abbrev pub entry_text : Entry → List ℕ
entry_text entry = spelled (kind_of entry) (bytes_of entry)

-- ---- what stands in a recording

abbrev pub IsHeldText : Held → Type 0
IsHeldText (Text text) = IsUtf8 text
IsHeldText Absent = Unit {0}
IsHeldText TooLarge = Unit {0}
IsHeldText NotText = Unit {0}

-- a path and what is held there are texts of UTF-8
abbrev pub IsTextEntry : List ℕ × Held → Type 0
IsTextEntry entry = IsUtf8 entry.0 × IsHeldText entry.1

abbrev pub AreTexts : Option Entries → Type 0
AreTexts None = Unit {0}
AreTexts (Some entries) = All IsTextEntry entries
