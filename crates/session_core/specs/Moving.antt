-- Steps of a core: which requests it may answer, and what a step leaves as it is.
use Rattle.std.specs.Prelude.{◌≡◌, ◌⊎◌, ℕ, ℤ, List, true, false, Option, Some, None}
use Rattle.std.specs.List.{All}
use Rattle.rpc_peer.specs.Said.{IsId, Said}
use Rattle.rpc_peer.specs.declared.message.Id.{Id}
use Rattle.session_build.specs.declared.building.Build.{Build}
use Rattle.session_core.specs.declared.head.Head.{Head}
use Rattle.session_core.specs.declared.head.Phase.TheVariants as phases
use Rattle.session_verdicts.specs.Judging.{HasQueuedTexts}
use Rattle.session_core.specs.Standing.{MidOf, Moves, Whole}
use Rattle.session_core.specs.State.{said_out, waiting_of}
use Rattle.session_core.specs.declared.session.Core.{Core}
use Rattle.session_verdicts.specs.declared.verdicts.Queued.{Queued}
use Rattle.session_law.specs.Lawful.{EachAllowed}
use Rattle.session_law.specs.Order.{Event, onto}
use Rattle.session_law.specs.Past.{after}
use Rattle.session_queue.specs.declared.waiting.Waiting.{Waiting}
use Rattle.session_law.specs.Methods.{Verdict, opening, reloading, answering, closing, refusal}
use Rattle.session_law.specs.Open.{First, IsOneDue, Open, none, owing, working}
use Rattle.session_law.specs.Requests.{Asked}
use Rattle.session_law.specs.Verdicts.{FinishesOneFirst, IsBare}
use Rattle.target_graph.specs.Workspace.{Space}

-- no request is to be cancelled
abbrev pub IsUnmarked : Asked → Type 0
IsUnmarked asked = asked.cancelled ≡ false

abbrev pub HeadRunsOn : First → Type 0
HeadRunsOn none = Unit {0}
HeadRunsOn (owing id number v) = Unit {0}
HeadRunsOn (working g marked) = marked ≡ false

pub record RunsOn (o : Open) : Type 0 where
  pub one : IsOneDue o.first o.last o.nulls
  pub first : HeadRunsOn o.first
  pub waiting : All IsUnmarked o.waiting
  pub last : All IsUnmarked o.last

-- a request that is owed this is answered as it is taken
abbrev pub IsAtOnce : Verdict → Type 0
IsAtOnce (answering space question) = Unit {0}
IsAtOnce closing = Unit {0}
IsAtOnce (refusal code text) = Unit {0}
IsAtOnce v = ⊥

-- at the head it is answered: an initialize where no workspace is in force, a reload that is refused, and what is refused
abbrev pub IsOwedFirst : Option Space → Verdict → Type 0
IsOwedFirst force (opening root file) = force ≡ None
IsOwedFirst force (reloading space file) = Unit {0}
IsOwedFirst force (refusal code text) = Unit {0}
IsOwedFirst force v = ⊥

-- no job was given
pub record KeepsJobs (old new : Core) : Type 0 where
  pub jobs : new.jobs ≡ old.jobs
  pub given : new.given ≡ old.given

-- nothing more is needed from outside, and nothing less
pub record KeepsNeeds (old new : Core) : Type 0 where
  pub tree : new.tree ≡ old.tree
  pub drains : new.drains ≡ old.drains
  pub jobs : KeepsJobs old new

-- no check that was made finishes by what it says more
pub record StaysBare (old new : Core) : Type 0 where
  pub is : All IsBare (said_out old) → All IsBare (said_out new)
  pub one : FinishesOneFirst (said_out old) → FinishesOneFirst (said_out new)

-- at most one check that was made finishes by these messages
abbrev pub FinishesAtMostOne : List Said → Type 0
FinishesAtMostOne messages = All IsBare messages ⊎ FinishesOneFirst messages

-- these parts of a core stay
pub record Beside (old new : Core) : Type 0 where
  pub head : new.head ≡ old.head
  pub queue : new.queue ≡ old.queue
  pub needs : KeepsNeeds old new
  pub taken : new.taken ≡ old.taken
  pub status : new.status ≡ old.status
  pub dead : new.dead ≡ old.dead
  pub kept : new.kept ≡ old.kept

-- what a request that waits says is short
pub record HasWaitingTexts (waiting : Waiting Queued) : Type 0 where
  pub named : IsId waiting.id
  pub texts : HasQueuedTexts waiting.call

abbrev pub QueueTexts : Core → Type 0
QueueTexts core = All HasWaitingTexts core.queue

-- the notifications since the tree answered last are the same
abbrev pub KeepsNotices : Core → Core → Type 0
KeepsNotices old new = (order : List Event) → (after (onto (said_out new) order)).notices ≡ (after (onto (said_out old) order)).notices

-- ---- the queue

abbrev pub with_first : Core → First → List Asked → List ℤ → Open
with_first core first last nulls = record { first = first; waiting = waiting_of core; last = last; nulls = nulls }

-- whatever the head is that goes on, what waits goes over from the one core to the other
abbrev pub Settles : Core → Core → Type 0
Settles old new = (first : First) (last : List Asked) (nulls : List ℤ) → HeadRunsOn first → Moves old new (with_first old first last nulls) (with_first new first last nulls)

abbrev pub LosesIn : Core → Core → Type 0
LosesIn old new = (first : First) (last : List Asked) (nulls : List ℤ) (order : List Event) → HeadRunsOn first → MidOf old (with_first old first last nulls) order
    → EachAllowed (onto (said_out new) order)

-- these parts of a core stay, and the queue changes
pub record BesideQueue (old new : Core) : Type 0 where
  pub head : new.head ≡ old.head
  pub needs : KeepsNeeds old new
  pub taken : new.taken ≡ old.taken
  pub status : new.status ≡ old.status
  pub workspace : new.workspace ≡ old.workspace
  pub dead : new.dead ≡ old.dead
  pub kept : new.kept ≡ old.kept
  pub shown : new.shown ≡ old.shown
  pub closed : new.closed ≡ old.closed

-- these parts of a core stay, and the head and what is kept change
pub record BesideHead (old new : Core) : Type 0 where
  pub taken : new.taken ≡ old.taken
  pub status : new.status ≡ old.status
  pub workspace : new.workspace ≡ old.workspace
  pub closed : new.closed ≡ old.closed
  pub dead : new.dead ≡ old.dead
  pub jobs : KeepsJobs old new

-- ---- whole states

abbrev pub SettlesAll : Core → Core → Type 0
SettlesAll old new = (last : List Asked) (nulls : List ℤ) (order : List Event) → Whole old last nulls order → Whole new last nulls order

abbrev pub LosesAll : Core → Core → Type 0
LosesAll old new = (last : List Asked) (nulls : List ℤ) (order : List Event) → Whole old last nulls order → EachAllowed (onto (said_out new) order)

-- this build was at the head, and was to be cancelled
pub record WasMarked (head : Option Head) (id : Id) (b : Build) (origin : Option (List ℕ)) : Type 0 where
  pub number : ℕ
  pub is : head ≡ Some (record { id = id; number = number; cancelled = true; phase = phases.Built b origin })
