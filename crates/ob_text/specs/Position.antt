-- Positions in a text, as the Language Server Protocol 3.17 counts them (section Position). A text is its bytes.
use Rattle.std.specs.Prelude.{ℕ, zero, suc, ◌+◌, ◌-◌, ◌≤◌, Bool, not, ◌&&◌, ◌||◌, ◌==◌, nat_le, nat_lt, if◌then◌else◌, List, length, slice_index}
use Rattle.std.specs.List.{count_by, range_with_len}
use Rattle.ob_text.specs.declared.position.Position.{Position}
use Rattle.ob_text.specs.declared.position.Range.{Range}
use Rattle.ob_text.specs.declared.span.Span.{Span}

-- how many of the offsets from `low` up to, and without, `high` pass the test
abbrev pub count_between : (ℕ → Bool) → ℕ → ℕ → ℕ
count_between test low high = count_by test (range_with_len low (high - low))

-- A line ends behind the byte at i: it is LF, or a CR that no LF follows. So CR LF ends one line, behind its LF.
abbrev pub ends_line : List ℕ → ℕ → Bool
ends_line text i = (slice_index text i == 10) || ((slice_index text i == 13) && not (slice_index text (i + 1) == 10))

-- where the line of an offset begins: behind the last line end that ends at or before the offset, or at 0
abbrev pub line_start : List ℕ → ℕ → ℕ
line_start text zero = 0
line_start text (suc i) = if ends_line text i then suc i else line_start text i

-- a byte of UTF-8 that goes on with a character
abbrev pub is_continuation : ℕ → Bool
is_continuation byte = nat_le 128 byte && nat_lt byte 192

-- A unit of UTF-16 begins at each byte that begins a character. A character of four bytes, whose first is
-- 240 or more, has two units, and the other one begins at its second byte.
abbrev pub begins_unit : List ℕ → ℕ → Bool
begins_unit text i = not (is_continuation (slice_index text i)) || nat_le 240 (slice_index text (i - 1))

-- the line is the number of line ends that end at or before the offset, the character the number of units
-- of UTF-16 from the beginning of that line up to the offset
abbrev pub position_at : List ℕ → ℕ → Position
position_at text offset = record { line = count_between (ends_line text) 0 offset; character = count_between (begins_unit text) (line_start text offset) offset }

abbrev pub range_at : List ℕ → Span → Range
range_at text span = record { start = position_at text span.start; end = position_at text span.end }

-- the part lies within the text
pub record IsPart (text : List ℕ) (span : Span) : Type 0 where
  pub ordered : span.start ≤ span.end
  pub within : span.end ≤ length text
