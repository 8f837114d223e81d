-- What a cursor shows: its text, and the offset in it that it has reached.
use Rattle.std.specs.Prelude.{◌≡◌, ℕ, ◌≤◌, List, length}
use Rattle.ob_text.specs.declared.cursor.Cursor.TheInside.{Inside}
use Rattle.ob_text.specs.Position.{position_at}

pub record Reached : Type 0 where
  pub text : List ℕ
  pub offset : ℕ

abbrev pub reached : Inside → Reached
reached c = record { text = c.text.now; offset = c.offset }

pub record IsAtPosition (c : Inside) : Type 0 where
  pub within : c.offset ≤ length c.text.now
  pub counted : c.position ≡ position_at c.text.now c.offset
