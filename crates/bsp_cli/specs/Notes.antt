-- What the program says beside its output.
use Rattle.std.specs.Prelude.{◌==◌, ℕ, List, [], ◌++◌, codes, decimal, Option, Some, None, if◌then◌else◌}
use Rattle.bsp_edge.specs.Faults.{Rose}
use Rattle.bsp_edge.specs.Streams.{Gives}
use Rattle.rpc_frame.specs.declared.damage.Damage.{Damage}
use Rattle.rpc_frame.specs.declared.damage.DamageKind.{DamageKind}
use Rattle.bsp_cli.specs.Session.{Change}
use Rattle.bsp_cli.specs.Writing.{GivesFront}
use Rattle.bsp_cli.specs.declared.outcome.Ending.TheVariants as ending
use Rattle.bsp_cli.specs.declared.outcome.Outcome.{Outcome}
use Rattle.bsp_cli.specs.declared.outcome.Outcome.TheVariants.{Exited, InputEnded, Stopped, Unasked}
use Rattle.rpc_frame.specs.declared.damage.DamageKind.TheVariants.{BadLine, TwoLengths, BadLength, TooLong, NoLength, HeaderTooLong, Truncated}

unfoldable pub kind_name : DamageKind → List ℕ
kind_name BadLine = codes "bad line"
kind_name TwoLengths = codes "two lengths"
kind_name BadLength = codes "bad length"
kind_name TooLong = codes "too long"
kind_name NoLength = codes "no length"
kind_name HeaderTooLong = codes "header too long"
kind_name Truncated = codes "truncated"

unfoldable pub damaged_at : List ℕ
damaged_at = codes "damaged input at byte "

unfoldable pub failed_note : List ℕ
failed_note = codes "input failed\n"

unfoldable pub usage_note : List ℕ
usage_note = codes "usage: oberon-bsp serve DIR [--workers N] [--record] | client SCRIPT | check | soak N\n"

-- where the input is damaged, and how
abbrev pub damaged_note : Damage → List ℕ
damaged_note damage = damaged_at ++ (decimal damage.place ++ (codes ": " ++ (kind_name damage.kind ++ codes "\n")))

-- the note of a status that needs nothing else
abbrev pub fixed_note : ℕ → List ℕ
fixed_note status = if status == 3 then failed_note else (if status == 6 then usage_note else [])

-- the note that goes with a status
abbrev pub note_for : ℕ → Option Damage → List ℕ
note_for status None = fixed_note status
note_for status (Some damage) = if status == 2 then damaged_note damage else fixed_note status

-- the note that goes with an outcome
abbrev pub note_of : Outcome → List ℕ
note_of (Exited closed) = []
note_of (InputEnded ending.Border) = []
note_of (InputEnded (ending.Damaged damage)) = damaged_note damage
note_of (InputEnded ending.Failed) = failed_note
note_of (Stopped stop) = []
note_of Unasked = usage_note

-- A run that is owed this status leaves this note, and ends so. Where the notes failed it leaves a proper front of it,
-- and ends with 4.
pub data Noted (notes : Change) (note : List ℕ) (owed : ℕ) : ℕ → Type 0 where
  whole : Gives notes.old notes.new note → Noted notes note owed owed
  failed : GivesFront notes.old notes.new note → Rose notes.faults_old notes.faults_new → Noted notes note owed 4
