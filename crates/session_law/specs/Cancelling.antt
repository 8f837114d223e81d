-- What is told of a build that is cancelled, behind the whole steps that it told: its checks that haven't finished, in the
-- order in which they started, then its targets in their order, then the build itself finish as cancelled.
use Rattle.std.specs.Prelude.{◌≡◌, ◌++◌, ℕ, suc, List, [], ◌∷◌, Contains}
use Rattle.bsp_records.specs.declared.results.StatusCode.TheVariants as statuses
use Rattle.rpc_peer.specs.Said.{Said}
use Rattle.session_law.specs.Course.{Course, Given, Stage, pairs_in}
use Rattle.session_law.specs.History.{IsTaskOf}
use Rattle.session_law.specs.Tasks.{build_finishes, check_finishes, target_cancelled}
use Rattle.session_law.specs.declared.BuildDocument.{BuildDocument}

-- the check of a document hasn't finished
pub record IsUnfinished (g : Given) (s : Stage) (pair i : ℕ) : Type 0 where
  pub document : BuildDocument
  pub there : Contains g.documents document
  pub pair_is : document.pair ≡ pair
  pub unsettled : ¬ (Contains (pairs_in s.settled) pair)
  pub of_target : IsTaskOf g.active document.key.target i

-- Of checks that started, of the documents of these pairs, behind so many others, those that haven't finished do so as
-- cancelled.
pub data ChecksCancelled (g : Given) (s : Stage) : ℕ → List ℕ → List Said → Type 0 where
  none : (before : ℕ) → ChecksCancelled g s before [] []
  finished : {before pair : ℕ} {others : List ℕ} {messages : List Said} → Contains (pairs_in s.settled) pair
      → ChecksCancelled g s (suc before) others messages → ChecksCancelled g s before (pair ∷ others) messages
  cancelled : {before pair : ℕ} {others : List ℕ} {messages : List Said} (i : ℕ) → IsUnfinished g s pair i
      → ChecksCancelled g s (suc before) others messages
      → ChecksCancelled g s before (pair ∷ others) (check_finishes g.active.number (suc before) i statuses.Cancelled ∷ messages)

-- the targets in their order, from this number on
abbrev pub targets_cancelled : Given → ℕ → List ℕ → List Said
targets_cancelled g i [] = []
targets_cancelled g i (target ∷ targets) = target_cancelled g.active.number i ∷ targets_cancelled g (suc i) targets

-- a build that told this is cancelled by these messages
pub record IsCancelledBy (g : Given) (messages cancels : List Said) : Type 0 where
  pub stage : Stage
  pub course : Course g stage messages
  pub checks : List Said
  pub of_checks : ChecksCancelled g stage 0 stage.begun checks
  pub are : cancels ≡ checks ++ (targets_cancelled g 1 g.closure ++ build_finishes g.active.number statuses.Cancelled ∷ [])
