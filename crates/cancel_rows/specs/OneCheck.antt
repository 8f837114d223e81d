-- The build of these rows: it is of one target, one of its checks started, and that hasn't finished. And what it owes once
-- it is to be cancelled: it gives up, and then it is answered.
use Rattle.std.specs.Prelude.{◌≡◌, ℕ, List, [], ◌∷◌, Contains}
use Rattle.bsp_records.specs.declared.results.StatusCode.TheVariants as statuses
use Rattle.rpc_peer.specs.Said.{Said}
use Rattle.session_law.specs.Builds.{cancelled_said}
use Rattle.session_law.specs.Course.{Course, Given, Stage, pairs_in}
use Rattle.session_law.specs.Tasks.{build_finishes, check_finishes, target_cancelled}

-- this is what it told
pub record HasOneOut (g : Given) (told : List Said) : Type 0 where
  pub target : ℕ
  pub closure_is : g.closure ≡ target ∷ []
  pub stage : Stage
  pub course : Course g stage told
  pub pair : ℕ
  pub begun_is : stage.begun ≡ pair ∷ []
  pub unsettled : ¬ (Contains (pairs_in stage.settled) pair)

abbrev pub check_gives_up : Given → Said
check_gives_up g = check_finishes g.active.number 1 1 statuses.Cancelled

abbrev pub target_gives_up : Given → Said
target_gives_up g = target_cancelled g.active.number 1

abbrev pub build_gives_up : Given → Said
build_gives_up g = build_finishes g.active.number statuses.Cancelled

-- all that it tells as it gives up, in this order
abbrev pub gives_up : Given → List Said
gives_up g = check_gives_up g ∷ target_gives_up g ∷ build_gives_up g ∷ []

abbrev pub answered_cancelled : Given → Said
answered_cancelled g = cancelled_said g.active.id g.active.build.origin
