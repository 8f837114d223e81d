-- How a whole run ends.
use Rattle.std.proofs.Common.{◌≡◌, ◌⊎◌, inl, inr, ◌<◌, ◌≤◌, ℕ, List, Option, Some, None, length, true, false, refl, sym, ap, subst, arith}
use Rattle.bsp_edge.specs.Faults.{Rose}
use Rattle.rpc_frame.specs.declared.damage.Damage.{Damage}
use Rattle.bsp_cli.specs.Notes.{Noted, whole, failed, note_for, note_of}
use Rattle.bsp_cli.specs.Outcomes.{status_by}
use Rattle.bsp_cli.specs.Served.{Served, Serves}
use Rattle.bsp_cli.specs.Session.{Change, CrewChange, InputChange, TreeChange, EndsFor, Session}
use Rattle.bsp_cli.specs.declared.outcome.Ending.{Ending}
use Rattle.bsp_cli.specs.declared.outcome.Ending.TheVariants.{Border, Damaged, Failed}
use Rattle.bsp_cli.specs.declared.outcome.Outcome.{Outcome}
use Rattle.bsp_cli.specs.declared.outcome.Outcome.TheVariants.{Exited, InputEnded, Stopped, Unasked}
use Rattle.bsp_cli.specs.declared.stop.Stop.TheVariants.{Sink, NoMemory}
use Rattle.bsp_cli.proofs.EndLaws.{failed_end}
use Rattle.bsp_cli.specs.Session.{crew_changed}
use Rattle.session_law.specs.Order.{Event}
use Rattle.std.proofs.lemmas.Bool.{cases_lt}
use Rattle.worker_pool.specs.Crews.{Finished, Sight, jobs_of}

some_damage : (ending : Ending) (damage : Option Damage) → ((found : Damage) → InputEnded ending ≡ InputEnded (Damaged found) → damage ≡ Some found) → note_of (InputEnded ending) ≡ note_for (status_by (InputEnded ending)) damage
some_damage Border None told = refl
some_damage Border (Some damage) told = refl
some_damage (Damaged found) damage told = rw (told found refl) refl
some_damage Failed None told = refl
some_damage Failed (Some damage) told = refl

-- the note of an outcome is that of its status and its damage
note_is : (outcome : Outcome) (damage : Option Damage) → ((found : Damage) → outcome ≡ InputEnded (Damaged found) → damage ≡ Some found) → note_of outcome ≡ note_for (status_by outcome) damage
note_is (Exited true) None told = refl
note_is (Exited true) (Some damage) told = refl
note_is (Exited false) None told = refl
note_is (Exited false) (Some damage) told = refl
note_is (InputEnded ending) damage told = some_damage ending damage told
note_is (Stopped Sink) None told = refl
note_is (Stopped Sink) (Some damage) told = refl
note_is (Stopped NoMemory) None told = refl
note_is (Stopped NoMemory) (Some damage) told = refl
note_is Unasked None told = refl
note_is Unasked (Some damage) told = refl

module _ (input : InputChange) (tree : TreeChange) (output notes : Change) (crew : CrewChange) (outcome : Outcome) (taken status : ℕ) where
  -- the run, with its note
  pub served : Serves input tree output crew outcome taken → Noted notes (note_of outcome) (status_by outcome) status → Served input tree output notes crew status taken
  served serves noted =
      record {
        owed = status_by outcome;
        damage = serves.damage;
        order = serves.order;
        read = serves.read;
        session = serves.session;
        patient = serves.patient;
        at_end = serves.at_end;
        prompt = serves.prompt;
        sink = serves.sink;
        noted = subst (λ note. Noted notes note (status_by outcome) status) (note_is outcome serves.damage serves.told) noted;
      }

-- a session that ends with 3 ends so for a failed read
failed_for : (order : List Event) (read : List ℕ) (input : InputChange) (tree : TreeChange) (output : Change) (taken : ℕ) (damage : Option Damage) → Session order read input tree output 3 taken damage
    → Rose input.faults_old input.faults_new
failed_for order read input tree output taken damage session =
    let cause = subst (λ how. EndsFor how damage input read session.rest) (failed_end order (session.agrees (omega arith))) session.ends_for in
    cause.1

pub read_failed : (input : InputChange) (tree : TreeChange) (output notes : Change) (crew : CrewChange) (outcome : Outcome) (taken status : ℕ) → Serves input tree output crew outcome taken → Noted notes (note_of outcome) (status_by outcome) status
    → status ≡ 3 → Rose input.faults_old input.faults_new
read_failed input tree output notes crew outcome taken status serves (whole given) three =
    failed_for serves.order serves.read input tree output taken serves.damage (subst (λ s. Session serves.order serves.read input tree output s taken serves.damage) three serves.session)
read_failed input tree output notes crew outcome taken status serves (failed part rose) three = absurd (omega arith)

-- a sink that failed is the output or the notes
pub sink_failed : (notes : Change) (note : List ℕ) (owed status f g : ℕ) → Noted notes note owed status → (owed ≡ 4 → Rose f g) → status ≡ 4 → Rose f g ⊎ Rose notes.faults_old notes.faults_new
sink_failed notes note owed status f g (whole given) rose four = inl (rose four)
sink_failed notes note owed status f g (failed part risen) rose four = inr risen

-- a session doesn't end as words that aren't known
pub served_within : (input : InputChange) (tree : TreeChange) (output notes : Change) (crew : CrewChange) (outcome : Outcome) (taken status : ℕ) → Serves input tree output crew outcome taken → Noted notes (note_of outcome) (status_by outcome) status
    → status ≤ 5
served_within input tree output notes crew outcome taken status serves (whole given) = serves.session.no_other
served_within input tree output notes crew outcome taken status serves (failed part rose) = omega arith

-- and those don't end as a session does
pub usage_not_read : (notes : Change) (note : List ℕ) (status : ℕ) → Noted notes note 6 status → status ≡ 3 → ⊥
usage_not_read notes note status (whole given) three = omega arith
usage_not_read notes note status (failed part rose) three = omega arith

pub usage_sink : (notes : Change) (note : List ℕ) (status : ℕ) → Noted notes note 6 status → status ≡ 4 → Rose notes.faults_old notes.faults_new
usage_sink notes note status (whole given) four = absurd (omega arith)
usage_sink notes note status (failed part rose) four = rose

-- a run that nothing outside failed
pub completes : (status in_old in_new out_old out_new note_old note_new : ℕ) → (status ≡ 3 → Rose in_old in_new) → (status ≡ 4 → Rose out_old out_new ⊎ Rose note_old note_new) → status ≤ 5
    → (Rose in_old in_new → ⊥) → (Rose out_old out_new → ⊥) → (Rose note_old note_new → ⊥) → (status ≤ 2) ⊎ (status ≡ 5)
completes status in_old in_new out_old out_new note_old note_new read sink within no_read no_out no_note = by (cases_lt status 3)
  where
    not_sink : Rose out_old out_new ⊎ Rose note_old note_new → ⊥
    not_sink (inl rose) = no_out rose
    not_sink (inr rose) = no_note rose

    high : 3 ≤ status → (status < 4) ⊎ (4 ≤ status) → (status < 5) ⊎ (5 ≤ status) → (status ≤ 2) ⊎ (status ≡ 5)
    high more (inl three) other = absurd (no_read (read (omega (arith, more, three))))
    high more (inr four) (inl less) = absurd (not_sink (sink (omega (arith, four, less))))
    high more (inr four) (inr five) = inr (omega (arith, within, five))

    by : (status < 3) ⊎ (3 ≤ status) → (status ≤ 2) ⊎ (status ≡ 5)
    by (inl low) = inl (omega (arith, low))
    by (inr more) = high more (cases_lt status 4) (cases_lt status 5)

-- ---- the crew

-- where it has no outcome at hand, a crew collects none as it is dismissed
pub served_dismissed : (input : InputChange) (tree : TreeChange) (output notes : Change) (k m n status taken : ℕ) → n ≡ m → Served input tree output notes (crew_changed k m) status taken → Served input tree output notes (crew_changed k n) status taken
served_dismissed input tree output notes k m n status taken same so = subst (λ c. Served input tree output notes (crew_changed k c) status taken) (sym same) so

pub collected_same : (s t : Sight) → s.hand ≡ None → Finished s t → t.collected ≡ s.collected
collected_same s t free gone =
    let none : length (jobs_of s.hand) ≡ 0 = ap (λ hand. length (jobs_of hand)) free in
    omega (arith, gone.collected, none)
