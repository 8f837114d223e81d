-- What is so of a core between two calls: what it waits for, what it needs from outside, and which jobs are out.
use Rattle.std.specs.Prelude.{◌≡◌, ◌≢◌, ◌≤◌, ◌<◌, ◌⊎◌, ◌+◌, ◌*◌, ◌^◌, ◌-◌, ℕ, suc, List, [], ◌∷◌, length, map, Bool, true, false, Option, Some, None, IfSome}
use Rattle.std.specs.List.{All}
use Rattle.std.specs.Str.{bytes_eq}
use Rattle.ob_text.specs.Once.{each_once}
use Rattle.ob_text.specs.declared.held.Snapshot.{Snapshot}
use Rattle.rpc_peer.specs.declared.message.Id.{Id}
use Rattle.session_build.specs.AtWork.{IsOwnWork, Runs, begun_in, left_in}
use Rattle.session_build.specs.declared.building.Build.{Build}
use Rattle.session_core.specs.Moving.{HasWaitingTexts}
use Rattle.session_verdicts.specs.Judging.{IsPlanIn}
use Rattle.session_verdicts.specs.Plans.{Plan}
use Rattle.session_core.specs.Standing.{HeadGoesOn, HeadRests, IsQuiet, IsUpHead}
use Rattle.session_core.specs.State.{Rest, handed_of, rest_of}
use Rattle.session_core.specs.Taking.{WaitsBehind}
use Rattle.session_core.specs.declared.head.Head.{Head}
use Rattle.session_core.specs.declared.head.Phase.{Phase}
use Rattle.session_core.specs.declared.head.Phase.TheVariants as phases
use Rattle.session_core.specs.declared.needs.Need.{Need}
use Rattle.session_core.specs.declared.needs.Need.TheVariants as needs
use Rattle.session_core.specs.declared.session.Core.{Core}
use Rattle.session_verdicts.specs.declared.verdicts.Queued.{Queued}
use Rattle.session_law.specs.Lawful.{AreHeld}
use Rattle.session_law.specs.Methods.{workspace_path}
use Rattle.session_queue.specs.Waiting.{kept_of}
use Rattle.session_queue.specs.declared.waiting.Waiting.{Waiting}
use Rattle.target_graph.specs.Workspace.{Space}
use Rattle.worker_pool.specs.Jobs.{JobTree, WorkTree, check_work}
use Rattle.worker_pool.specs.Plain.{plain_job}

-- ---- the tree

-- a request that is so far waits for what the tree holds at these paths
abbrev pub PhaseWants : Phase → List (List ℕ) → Type 0
PhaseWants (phases.Opening root) paths = paths ≡ workspace_path ∷ []
PhaseWants phases.Rereading paths = paths ≡ workspace_path ∷ []
PhaseWants (phases.Planned plan) paths = paths ≡ each_once bytes_eq (map (λ document. document.path) plan.documents)
PhaseWants (phases.Built b origin) paths = ⊥

abbrev pub HeadWants : Option Head → List (List ℕ) → Type 0
HeadWants None paths = ⊥
HeadWants (Some head) paths = PhaseWants head.phase paths

-- where the head waits for the tree, the tree is still to be asked
abbrev pub IsAsking : Rest → Type 0
IsAsking rest = rest.tree ≡ None → IsUpHead rest.head

-- the tree was asked for the head, and handed this out
pub record Suits (rest : Rest) (got : Option Snapshot) : Type 0 where
  pub paths : List (List ℕ)
  pub wanted : HeadWants rest.head paths
  pub held : IfSome (handed_of got) (AreHeld paths)

-- ---- jobs

-- this holds of the head where it is a build that waits for its checks
abbrev pub IfBuiltPhase : Phase → (Build → Type 0) → Type 0
IfBuiltPhase (phases.Opening root) P = Unit {0}
IfBuiltPhase phases.Rereading P = Unit {0}
IfBuiltPhase (phases.Planned plan) P = Unit {0}
IfBuiltPhase (phases.Built b origin) P = P b

abbrev pub IfBuilt : Option Head → (Build → Type 0) → Type 0
IfBuilt None P = Unit {0}
IfBuilt (Some head) P = IfBuiltPhase head.phase P

-- The job of its first check has the number `jobs`. Those below `given` were given, and each check behind them runs.
pub record AreNumbered (jobs given : ℕ) (b : Build) : Type 0 where
  pub within : given ≤ jobs + begun_in b
  pub to_give : (k : ℕ) → given ≤ jobs + k → k < begun_in b → (pair : ℕ) × Runs b (suc k) pair

-- the work is that of the check with this number
abbrev pub IsWorkOf : Build → ℕ → WorkTree → Type 0
IsWorkOf b number (check_work check) = IsOwnWork b number check

-- where the job has the number of one of its checks, that check runs, and is the work
pub record IsJob (b : Build) (k : ℕ) (job : JobTree) : Type 0 where
  pub pair : ℕ
  pub runs : Runs b (suc k) pair
  pub work : IsWorkOf b (suc k) job.work

-- a job that was given may come back
pub record IsBack (rest : Rest) (job : JobTree) : Type 0 where
  pub given : job.number < rest.given
  pub right : IfBuilt rest.head (λ b. (k : ℕ) → job.number ≡ rest.jobs + k → IsJob b k job)

-- the head waits for the outcome of this job
abbrev pub AwaitsJob : ℕ → ℕ → ℕ → Build → Type 0
AwaitsJob jobs given number b = (k : ℕ) × (number ≡ jobs + k) × (number < given) × (pair : ℕ) × Runs b (suc k) pair

abbrev pub AwaitsPhase : Phase → ℕ → ℕ → ℕ → Type 0
AwaitsPhase (phases.Opening root) jobs given number = ⊥
AwaitsPhase phases.Rereading jobs given number = ⊥
AwaitsPhase (phases.Planned plan) jobs given number = ⊥
AwaitsPhase (phases.Built b origin) jobs given number = AwaitsJob jobs given number b

abbrev pub AwaitsHead : Option Head → ℕ → ℕ → ℕ → Type 0
AwaitsHead None jobs given number = ⊥
AwaitsHead (Some head) jobs given number = AwaitsPhase head.phase jobs given number

abbrev pub Awaits : Rest → ℕ → Type 0
Awaits rest number = AwaitsHead rest.head rest.jobs rest.given number

-- the head isn't a build that waits for its checks
abbrev pub IsUnbuilt : Option Head → Type 0
IsUnbuilt head = IfBuilt head (λ b. ⊥)

-- a build that waits for its checks stays at the head
abbrev pub BuildStays : Option Head → Option Head → Type 0
BuildStays old new = (new ≡ old) ⊎ IsUnbuilt old

-- no other build waits for its checks
abbrev pub HeadStays : Option Head → Option Head → Type 0
HeadStays old new = (new ≡ old) ⊎ IsUnbuilt new

-- ---- between two calls

-- where no workspace is in force, no request is at the head but an initialize
abbrev pub IsOpeningPhase : Phase → Type 0
IsOpeningPhase (phases.Opening root) = Unit {0}
IsOpeningPhase phases.Rereading = ⊥
IsOpeningPhase (phases.Planned plan) = ⊥
IsOpeningPhase (phases.Built b origin) = ⊥

abbrev pub IsOpeningHead : Option Head → Type 0
IsOpeningHead None = Unit {0}
IsOpeningHead (Some head) = IsOpeningPhase head.phase

-- a build that waits for its documents is of the workspace in force
pub record IsPlannedIn (force : Option Space) (plan : Plan) : Type 0 where
  pub space : Space
  pub in_force : force ≡ Some space
  pub within : IsPlanIn space plan

-- a reload that waits finds a workspace in force
pub record IsInForce (force : Option Space) : Type 0 where
  pub space : Space
  pub is : force ≡ Some space

abbrev pub PlanFits : Option Space → Phase → Type 0
PlanFits force (phases.Opening root) = Unit {0}
PlanFits force phases.Rereading = IsInForce force
PlanFits force (phases.Planned plan) = IsPlannedIn force plan
PlanFits force (phases.Built b origin) = Unit {0}

abbrev pub HeadPlanFits : Option Space → Option Head → Type 0
HeadPlanFits force None = Unit {0}
HeadPlanFits force (Some head) = PlanFits force head.phase

-- and none waits
abbrev pub HasBegun : Option Space → Option Head → List (Waiting Queued) → Type 0
HasBegun None head queue = IsOpeningHead head × (queue ≡ [])
HasBegun (Some space) head queue = Unit {0}

-- also while a request of the queue may still be taken up
pub record IsSound (rest : Rest) : Type 0 where
  pub rests : HeadRests rest.head
  pub texts : All HasWaitingTexts rest.queue
  -- no request is to be cancelled
  pub goes_on : HeadGoesOn rest.head
  pub waiting : All (λ waiting. waiting.cancelled ≡ false) rest.queue
  pub begun : HasBegun rest.workspace rest.head rest.queue
  pub plan : HeadPlanFits rest.workspace rest.head
  pub tree : IfSome rest.tree (HeadWants rest.head)
  pub numbers : rest.jobs ≤ rest.given
  pub checks : IfBuilt rest.head (AreNumbered rest.jobs rest.given)
  -- no job is dropped that is awaited
  pub drains : rest.drains ≡ true → IsUnbuilt rest.head

pub record IsSettled (rest : Rest) : Type 0 where
  pub sound : IsSound rest
  pub behind : WaitsBehind rest.head rest.queue

-- nothing is needed from outside but what was asked for
pub record NeedsNothing (rest : Rest) : Type 0 where
  pub tree : rest.tree ≡ None
  pub drains : rest.drains ≡ false
  pub jobs : IfBuilt rest.head (λ b. rest.given ≡ rest.jobs + begun_in b)

-- no request of the queue is open, and nothing is left to write or to need
pub record IsIdle (core : Core) : Type 0 where
  pub head : core.head ≡ None
  pub quiet : IsQuiet core
  pub needs : NeedsNothing (rest_of core)

-- What was awaited is awaited still, or the jobs of its build are to be drained; and they are only where something was awaited
-- that isn't any more. So they are as a build that waits for its checks is cancelled, and at no other time.
pub record DrainsCancelled (old new : Rest) : Type 0 where
  pub all : (number : ℕ) → Awaits old number → Awaits new number ⊎ (new.drains ≡ true)
  pub none_else : new.drains ≡ true → (number : ℕ) × Awaits old number × ¬ (Awaits new number)

-- ---- what steps leave

-- Where a build that waits for its checks doesn't stay at the head, its jobs are to be drained.
abbrev pub StaysOrDrains : Rest → Rest → Type 0
StaysOrDrains old new = (BuildStays old.head new.head × (new.drains ≡ old.drains)) ⊎ ((old.head ≢ None) × (new.drains ≡ true))

-- those that were to be cancelled are answered
abbrev pub SettlesRest : Rest → Rest → Type 0
SettlesRest old new = (new ≡ record old { queue = kept_of old.queue }) ⊎ ((old.head ≢ None) × (new ≡ record old { head = None; queue = kept_of old.queue; drains = true }))

-- the head is answered, where it was to be cancelled
abbrev pub SettlesHeadRest : Rest → Rest → Type 0
SettlesHeadRest old new = (new ≡ old) ⊎ ((old.head ≢ None) × (new ≡ record old { head = None; drains = true }))

-- no request is open
pub record HasNone (old new : Rest) : Type 0 where
  pub stays : StaysOrDrains old new
  pub drains : Bool
  pub is : new ≡ record old { head = None; queue = []; drains = drains }

abbrev pub planned_rest : Rest → Id → ℕ → Plan → Rest
planned_rest rest id number plan =
    record rest {
      head = Some (record { id = id; number = number; cancelled = false; phase = phases.Planned plan });
      tree = Some (each_once bytes_eq (map (λ document. document.path) plan.documents));
    }

abbrev pub reread_rest : Rest → Id → ℕ → Rest
reread_rest rest id number =
    record rest {
      head = Some (record { id = id; number = number; cancelled = false; phase = phases.Rereading });
      tree = Some (workspace_path ∷ []);
    }

-- The request is at the head as a build that waits for its documents, or as a reload that waits for the workspace file, or none
-- is.
pub data TakesUpRest (old new : Rest) (id : Id) (number : ℕ) : Type 0 where
  answered : new ≡ old → TakesUpRest old new id number
  planned : (plan : Plan) → IsPlannedIn old.workspace plan → new ≡ planned_rest old id number plan → TakesUpRest old new id number
  reread : IsInForce old.workspace → new ≡ reread_rest old id number → TakesUpRest old new id number

-- ---- what is needed, and what that leaves

-- the next need is this, and the outcome of a job is awaited then
abbrev pub IsNeeded : Rest → Rest → Option Need → Type 0
IsNeeded old new None = NeedsNothing old × (new ≡ old)
IsNeeded old new (Some (needs.Tree paths)) = HeadWants old.head paths × (old.drains ≡ false) × (new ≡ record old { tree = None })
IsNeeded old new (Some needs.Drain) = ((number : ℕ) → Awaits old number → ⊥) × (old.drains ≡ true) × (new ≡ record old { drains = false })
IsNeeded old new (Some (needs.Job job)) = (job.number ≡ old.given) × (job.number < 2 ^ 64 - 1) × IsBack new (plain_job job) × (new ≡ record old { given = suc old.given }) × Awaits new job.number

-- the jobs of a build at the head begin with this number
abbrev pub StartsAt : Rest → ℕ → Type 0
StartsAt rest number = IfBuilt rest.head (λ b. rest.jobs ≡ number)

-- ---- how far it is

-- the most steps that one request at the head takes
abbrev pub steps_limit : ℕ
steps_limit = 2 ^ 64

abbrev pub phase_left : Phase → ℕ
phase_left (phases.Opening root) = steps_limit
phase_left phases.Rereading = steps_limit
phase_left (phases.Planned plan) = steps_limit
phase_left (phases.Built b origin) = left_in b

abbrev pub head_left : Option Head → ℕ
head_left None = 0
head_left (Some head) = suc (phase_left head.phase)

-- Each answer of the tree and each outcome that is awaited lowers this.
abbrev pub left_to_do : Rest → ℕ
left_to_do rest = length rest.queue * (steps_limit + 2) + head_left rest.head
