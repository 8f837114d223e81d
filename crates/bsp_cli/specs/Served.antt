-- What a run of the program does whose words ask to serve, and of one whose words ask for nothing.
use Rattle.std.specs.Prelude.{◌≡◌, ℕ, List, Option, None, Some}
use Rattle.bsp_edge.specs.Faults.{Rose}
use Rattle.rpc_frame.specs.declared.damage.Damage.{Damage}
use Rattle.bsp_cli.specs.Notes.{Noted, note_for}
use Rattle.bsp_cli.specs.Outcomes.{status_by}
use Rattle.bsp_cli.specs.Patience.{Patient, PatientAtEnd, Prompt}
use Rattle.bsp_cli.specs.Offsets.{WhereTold}
use Rattle.bsp_cli.specs.Session.{Change, CrewChange, FoundNoMore, InputChange, TreeChange, Session}
use Rattle.session_law.specs.Order.{Event}
use Rattle.bsp_cli.specs.declared.outcome.Ending.TheVariants.{Damaged}
use Rattle.bsp_cli.specs.declared.outcome.Outcome.{Outcome}
use Rattle.bsp_cli.specs.declared.outcome.Outcome.TheVariants.{InputEnded}

-- A session, and the note that it is owed. The run ends with the session's status, or with 4 where the notes failed. All is
-- said of one order.
pub record Served (input : InputChange) (tree : TreeChange) (output notes : Change) (crew : CrewChange) (status taken : ℕ) : Type 0 where
  pub owed : ℕ
  pub damage : Option Damage
  pub order : List Event
  pub read : List ℕ
  pub session : Session order read input tree output owed taken damage
  pub sink : owed ≡ 4 → Rose output.faults_old output.faults_new
  pub noted : Noted notes (note_for owed damage) owed status
  -- where the source tells its course
  pub patient : WhereTold (Patient order read crew.old crew.new) input.course_old input.course_new
  pub at_end : FoundNoMore order read → WhereTold (PatientAtEnd order read) input.course_old input.course_new
  pub prompt : WhereTold (Prompt order read) input.course_old input.course_new

-- nothing is read, asked of the tree or written, and the usage is said
pub record Idle (input : InputChange) (tree : TreeChange) (output notes : Change) (status taken : ℕ) : Type 0 where
  pub unread : input.new ≡ input.old
  pub unasked : tree.new ≡ tree.old
  pub unfailed : tree.faults_new ≡ tree.faults_old
  pub unwritten : output.new ≡ output.old
  pub noted : Noted notes (note_for 6 None) 6 status
  pub no_bytes : taken ≡ 0

-- a session that is over for this outcome
pub record Serves (input : InputChange) (tree : TreeChange) (output : Change) (crew : CrewChange) (outcome : Outcome) (taken : ℕ) : Type 0 where
  pub damage : Option Damage
  pub order : List Event
  pub read : List ℕ
  pub session : Session order read input tree output (status_by outcome) taken damage
  pub patient : WhereTold (Patient order read crew.old crew.new) input.course_old input.course_new
  pub at_end : FoundNoMore order read → WhereTold (PatientAtEnd order read) input.course_old input.course_new
  pub prompt : WhereTold (Prompt order read) input.course_old input.course_new
  pub told : (found : Damage) → outcome ≡ InputEnded (Damaged found) → damage ≡ Some found
  pub sink : status_by outcome ≡ 4 → Rose output.faults_old output.faults_new
