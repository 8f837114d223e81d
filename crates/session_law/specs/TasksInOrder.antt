-- TasksInOrder: a build tells of its tasks, and publishes its lists, in the order of its course, and it is answered behind the
-- whole of it. Nothing else tells of tasks.
use Rattle.std.specs.Prelude.{◌≡◌, ◌||◌, ◌++◌, List, ◌∷◌, codes, Bool, false, Option, Some, None}
use Rattle.rpc_peer.specs.OpenIds.{same_id}
use Rattle.rpc_peer.specs.Said.{Said, request, notification, result, failure}
use Rattle.session_law.specs.Course.{Given, AreGiven, HasEnded, Tells}
use Rattle.session_law.specs.If.{If}
use Rattle.session_law.specs.Methods.{is_named}
use Rattle.session_law.specs.Past.{Now}
use Rattle.session_law.specs.Requests.{Active, active_of}

-- the message tells of a task
abbrev pub is_of_task : Said → Bool
is_of_task (notification method params) = is_named (codes "build/taskStart") method || is_named (codes "build/taskFinish") method
is_of_task (request id method params) = false
is_of_task (result id value) = false
is_of_task (failure id code text) = false

-- a course goes by this build, the builds before it and what the client showed as it was handed its documents
pub record IsGivenBy (active : Active) (now : Now) (g : Given) : Type 0 where
  pub are : AreGiven g
  pub active_is : g.active ≡ active
  pub earlier_is : g.earlier ≡ now.builds
  pub table_is : g.table ≡ now.table_at_hand

-- the message is the next one of the build's course
pub record TellsNext (active : Active) (now : Now) (m : Said) : Type 0 where
  pub given : Given
  pub by_build : IsGivenBy active now given
  pub course : List Said
  pub tells : Tells given course
  pub rest : List Said
  pub next : course ≡ now.notices ++ m ∷ rest

-- the build told its whole course
pub record HasToldAll (active : Active) (now : Now) : Type 0 where
  pub given : Given
  pub by_build : IsGivenBy active now given
  pub ended : HasEnded given now.notices

abbrev pub TellsFor : Said → Option Active → Now → Type 0
TellsFor (notification method params) (Some active) now = TellsNext active now (notification method params)
TellsFor (notification method params) None now = is_of_task (notification method params) ≡ false
TellsFor (result (Some id) value) (Some active) now = If (same_id id active.id) (HasToldAll active now)
TellsFor m active now = Unit {0}

abbrev pub TasksInOrder : Now → Said → Type 0
TasksInOrder now m = TellsFor m (active_of now.requests) now
