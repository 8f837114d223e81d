-- CancelsForCause: where a request of the queue is to be cancelled, nothing is written but what that owes to the first of such
-- requests. A build that was handed its documents finishes each of its tasks before its answer; one that waits is answered
-- alone. So no other request is answered as cancelled.
use Rattle.std.specs.Prelude.{◌≡◌, ◌++◌, List, ◌∷◌, codes, Option, Some, None}
use Rattle.rpc_peer.specs.declared.message.Id.{Id}
use Rattle.rpc_peer.specs.Said.{Said, request, notification, result, failure}
use Rattle.session_law.specs.Builds.{cancelled_said}
use Rattle.session_law.specs.Cancelling.{IsCancelledBy}
use Rattle.session_law.specs.Course.{Given}
use Rattle.session_law.specs.Methods.{Call, Verdict, building, built, rereading, queued, request_cancelled, to_build, to_reload, to_clean}
use Rattle.session_law.specs.Past.{Now}
use Rattle.session_law.specs.Requests.{Active, Asked, active_as}
use Rattle.session_law.specs.TasksInOrder.{IsGivenBy}

-- the message is the next one by which the build is cancelled, behind what it told
pub record CancelsNext (active : Active) (now : Now) (m : Said) : Type 0 where
  pub given : Given
  pub by_build : IsGivenBy active now given
  pub course : List Said
  pub before : List Said
  pub rest : List Said
  pub told : now.notices ≡ course ++ before
  pub cancels : IsCancelledBy given course (before ++ m ∷ rest)

-- the build is cancelled by all that it told behind its course
pub record HasCancelledAll (active : Active) (now : Now) : Type 0 where
  pub given : Given
  pub by_build : IsGivenBy active now given
  pub course : List Said
  pub cancels : List Said
  pub told : now.notices ≡ course ++ cancels
  pub all : IsCancelledBy given course cancels

-- the message goes on with a build that is cancelled, or answers it
abbrev pub CancelsBuild : Active → Now → Said → Type 0
CancelsBuild active now (notification method params) = CancelsNext active now (notification method params)
CancelsBuild active now m = HasCancelledAll active now × (m ≡ cancelled_said active.id active.build.origin)

abbrev pub CancelsActive : Option Active → Now → Said → Type 0
CancelsActive None now m = ⊥
CancelsActive (Some active) now m = CancelsBuild active now m

-- the response to a reload or a cleaning that is cancelled
unfoldable pub refused_cancelled : Id → Said
refused_cancelled id = failure (Some id) request_cancelled (codes "request cancelled")

-- the response to a request that waits
abbrev pub call_cancelled : Id → Call → Said
call_cancelled id (to_build targets origin) = cancelled_said id origin
call_cancelled id to_reload = refused_cancelled id
call_cancelled id (to_clean targets) = refused_cancelled id

-- what is owed to a request that is to be cancelled and is owed this
abbrev pub CancelsAs : Asked → Verdict → Now → Said → Type 0
CancelsAs asked (queued call) now m = m ≡ call_cancelled asked.id call
CancelsAs asked (building build) now m = m ≡ cancelled_said asked.id build.origin
CancelsAs asked (rereading space) now m = m ≡ refused_cancelled asked.id
CancelsAs asked (built build entries) now m = CancelsActive (active_as asked (built build entries)) now m
CancelsAs asked v now m = ⊥

abbrev pub CancelsForCause : Asked → Now → Said → Type 0
CancelsForCause asked now m = CancelsAs asked asked.verdict now m
