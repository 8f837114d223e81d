-- Which orders a core stands for.
use Rattle.std.specs.Prelude.{◌≡◌, ℕ, ℤ, List, [], length, false, Option, None, Some, IfSome}
use Rattle.std.specs.List.{All}
use Rattle.bsp_records.specs.Limits.{origin_limit}
use Rattle.json_shape.specs.Shapes.{IsTextWithin}
use Rattle.rpc_peer.specs.Said.{IsId}
use Rattle.session_build.specs.AtWork.{IsAtWork, Rests}
use Rattle.session_build.specs.Remembering.{IsEmpty, Remembers}
use Rattle.session_build.specs.declared.building.Build.{Build}
use Rattle.session_build.specs.declared.kept.Kept.{Kept}
use Rattle.session_verdicts.specs.Judging.{IsPlanIn}
use Rattle.session_verdicts.specs.Plans.{Plan, build_in}
use Rattle.session_core.specs.State.{plain_of, said_out, waiting_of}
use Rattle.session_core.specs.declared.head.Head.{Head}
use Rattle.session_core.specs.declared.head.Phase.{Phase}
use Rattle.session_core.specs.declared.head.Phase.TheVariants as phases
use Rattle.session_core.specs.declared.session.Core.{Core}
use Rattle.session_law.specs.Course.{Given}
use Rattle.session_law.specs.EachRests.{EachRests}
use Rattle.session_law.specs.History.{Told}
use Rattle.session_law.specs.Lawful.{EachAllowed}
use Rattle.session_law.specs.Methods.{asking, building, rereading}
use Rattle.session_law.specs.Open.{First, Mid, Open, none, owing, working}
use Rattle.session_law.specs.Order.{Event, onto}
use Rattle.session_law.specs.Past.{Now, after}
use Rattle.session_law.specs.Requests.{Asked}
use Rattle.task_stream.specs.Showing.{shows}
use Rattle.target_graph.specs.Workspace.{Space}

-- ---- the request at the head

-- a build that waits for its documents is of the workspace in force
pub record IsPlanned (force : Option Space) (head : Head) (plan : Plan) (first : First) : Type 0 where
  pub space : Space
  pub in_force : force ≡ Some space
  pub within : IsPlanIn space plan
  pub is : first ≡ owing head.id head.number (building (build_in space plan))

-- a reload that waits for the workspace file is of the workspace in force
pub record IsRereading (force : Option Space) (head : Head) (first : First) : Type 0 where
  pub space : Space
  pub in_force : force ≡ Some space
  pub is : first ≡ owing head.id head.number (rereading space)

-- a build that goes is on some course
pub record IsWorking (core : Core) (head : Head) (b : Build) (origin : Option (List ℕ)) (now : Now) (first : First) : Type 0 where
  pub given : Given
  pub id_is : given.active.id ≡ head.id
  pub space_is : core.workspace ≡ Some given.active.build.space
  pub origin_is : given.active.build.origin ≡ origin
  pub is : first ≡ working given head.cancelled
  pub at_work : IsAtWork given b now.notices core.kept.keys (shows core.shown)

abbrev pub PhaseFits : Core → Head → Phase → Now → First → Type 0
PhaseFits core head (phases.Opening root) now first = (first ≡ owing head.id head.number (asking root)) × (core.workspace ≡ None)
PhaseFits core head phases.Rereading now first = IsRereading core.workspace head first
PhaseFits core head (phases.Planned plan) now first = IsPlanned core.workspace head plan first
PhaseFits core head (phases.Built b origin) now first = IsWorking core head b origin now first

abbrev pub HeadFits : Core → Option Head → Now → First → Type 0
HeadFits core None now first = first ≡ none
HeadFits core (Some head) now first = IsId head.id × PhaseFits core head head.phase now first

-- ---- orders

-- the checks that are kept are of the builds that were answered; before a workspace is in force there are none
abbrev pub RemembersIn : Option Space → Kept → List Told → Type 0
RemembersIn None kept builds = (builds ≡ []) × IsEmpty kept
RemembersIn (Some space) kept builds = Remembers space builds kept

abbrev pub Recalls : Core → List Told → Type 0
Recalls core builds = RemembersIn core.workspace core.kept builds

-- in the middle of a step these are open
abbrev pub MidOf : Core → Open → List Event → Type 0
MidOf core o order = Mid (plain_of core) (Recalls core) o (onto (said_out core) order)

-- what is open is what the core keeps, with these requests behind it and these codes
pub record Whole (core : Core) (last : List Asked) (nulls : List ℤ) (order : List Event) : Type 0 where
  pub first : First
  pub fits : HeadFits core core.head (after (onto (said_out core) order)) first
  pub mid : MidOf core (record { first = first; waiting = waiting_of core; last = last; nulls = nulls }) order

-- A core that found no memory keeps a lawful order, and promises no more of it.
pub record Keeps (core : Core) (order : List Event) : Type 0 where
  pub each : EachAllowed (onto (said_out core) order)
  pub rests : EachRests order
  pub whole : core.dead ≡ false → Whole core [] [] order

abbrev pub StandsFor : Core → List Event → Type 0
StandsFor core order = Keeps core order

-- ---- one step

-- whatever is open goes over into this
abbrev pub Moves : Core → Core → Open → Open → Type 0
Moves old new o p = (order : List Event) → MidOf old o order → MidOf new p order

-- Where memory was found the core goes on with what it keeps. Where it wasn't, what is written is allowed.
abbrev pub Carries : Core → Core → Type 0
Carries old new = (order : List Event) → Whole old [] [] order → Whole new [] [] order

abbrev pub Loses : Core → Core → Type 0
Loses old new = (order : List Event) → Whole old [] [] order → EachAllowed (onto (said_out new) order)

-- ---- what is said of a core whatever its order

-- a build at the head rests
abbrev pub PhaseRests : Phase → Type 0
PhaseRests (phases.Opening root) = Unit {0}
PhaseRests phases.Rereading = Unit {0}
PhaseRests (phases.Planned plan) = Unit {0}
PhaseRests (phases.Built b origin) = Rests b × IfSome origin (IsTextWithin origin_limit)

abbrev pub HeadRests : Option Head → Type 0
HeadRests None = Unit {0}
HeadRests (Some head) = IsId head.id × PhaseRests head.phase

-- nothing is left to write
abbrev pub IsQuiet : Core → Type 0
IsQuiet core = core.out.items ≡ []

-- the head waits for no tree
abbrev pub IsUpPhase : Phase → Type 0
IsUpPhase (phases.Opening root) = ⊥
IsUpPhase phases.Rereading = ⊥
IsUpPhase (phases.Planned plan) = ⊥
IsUpPhase (phases.Built b origin) = Unit {0}

abbrev pub IsUpHead : Option Head → Type 0
IsUpHead None = Unit {0}
IsUpHead (Some head) = IsUpPhase head.phase

-- no request is to be cancelled
abbrev pub HeadGoesOn : Option Head → Type 0
HeadGoesOn None = Unit {0}
HeadGoesOn (Some head) = head.cancelled ≡ false

pub record GoesOn (core : Core) : Type 0 where
  pub head : HeadGoesOn core.head
  pub waiting : All (λ asked. asked.cancelled ≡ false) (waiting_of core)

-- the core found memory so far
abbrev pub IsAlive : Core → Type 0
IsAlive core = core.dead ≡ false

-- the status that the core ended with, where it ended
abbrev pub status_of : Core → Option ℕ
status_of core = core.status

-- how many messages are still to be written
abbrev pub left_to_write : Core → ℕ
left_to_write core = length core.out.items
