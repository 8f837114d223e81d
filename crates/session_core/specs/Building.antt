-- A build at the head begins, or goes on.
use Rattle.std.specs.Prelude.{◌≡◌, ◌<◌, ◌+◌, ℕ, suc, List, [], Bool, Some, None, IfSome}
use Rattle.bsp_records.specs.Limits.{origin_limit}
use Rattle.json_shape.specs.Shapes.{IsTextWithin}
use Rattle.ob_text.specs.Held.{Entries}
use Rattle.rpc_peer.specs.Said.{Said}
use Rattle.rpc_peer.specs.declared.message.Id.{Id}
use Rattle.session_build.specs.AtWork.{HasBegun, HasGoneOn, IfOn, Leaves, Rests, Runs, begun_in}
use Rattle.session_build.specs.declared.building.Build.{Build}
use Rattle.session_build.specs.declared.building.BuildRequest.{BuildRequest}
use Rattle.session_build.specs.declared.building.Went.{Went}
use Rattle.session_core.specs.Handing.{HasWent}
use Rattle.session_verdicts.specs.Plans.{Plan}
use Rattle.session_core.specs.declared.head.Phase.TheVariants as phases
use Rattle.session_core.specs.declared.jobs.Awaiting.{Awaiting}
use Rattle.session_core.specs.declared.session.Core.{Core}
use Rattle.target_graph.specs.Workspace.{Space}
use Rattle.task_stream.specs.Showing.{shows}
use Rattle.worker_pool.specs.Jobs.{CheckTree}

abbrev pub request_for : ℕ → Plan → BuildRequest
request_for number plan = record { number = number; asked = plan.asked; origin = plan.origin; documents = plan.documents }

-- each check that began runs
abbrev pub AllRun : Build → Type 0
AllRun b = (k : ℕ) → k < begun_in b → (pair : ℕ) × Runs b (suc k) pair

-- The build of this plan began.
pub record BeginsBy (old new : Core) (id : Id) (number : ℕ) (plan : Plan) (entries : Entries) : Type 0 where
  pub space : Space
  pub in_force : old.workspace ≡ Some space
  pub short : IfSome plan.origin (IsTextWithin origin_limit)
  pub went : Went
  pub told : List Said
  pub begun : HasBegun space (request_for number plan) entries went old.kept new.kept (shows old.shown) (shows new.shown) [] told
  pub rests : IfOn went Rests
  pub runs : IfOn went AllRun
  pub goes : HasWent (record old { kept = new.kept; shown = new.shown; jobs = old.given }) new id number plan.origin went told

-- This build went on by the outcome of a check.
pub record GoesOnBy (old new : Core) (awaiting : Awaiting) (work : CheckTree) : Type 0 where
  pub went : Went
  pub told : List Said
  pub gone : HasGoneOn awaiting.build awaiting.check work went old.kept new.kept (shows old.shown) (shows new.shown) [] told
  pub rests : IfOn went Rests
  pub leaves : Leaves awaiting.build awaiting.check went
  pub goes : HasWent (record old { kept = new.kept; shown = new.shown }) new awaiting.id awaiting.number awaiting.origin went told

-- This build was at the head and is taken out; the job is that of its check with this number.
pub record TookBuild (old new : Core) (job : ℕ) (awaiting : Awaiting) : Type 0 where
  pub cancelled : Bool
  pub is : old.head ≡ Some (record { id = awaiting.id; number = awaiting.number; cancelled = cancelled; phase = phases.Built awaiting.build awaiting.origin })
  pub at : suc job ≡ old.jobs + awaiting.check
  pub some : 0 < awaiting.check
  pub same : new ≡ record old { head = None }
