-- What holds of each message of a course, and of each that is told by a cancel, by the kinds of such messages.
use Rattle.std.proofs.Common.{◌++◌, ℕ, suc, List, [], ◌∷◌, get_or, length, Bool, All, Option, sym, subst}
use Rattle.std.specs.Prelude.{codes}
use Rattle.std.proofs.lemmas.Bool.{false≢true}
use Rattle.std.proofs.lemmas.List.Elements.{All-append, All-cons, All-nil}
use Rattle.std.proofs.lemmas.Slice.Eq.{bytes_eq-Decides}
use Rattle.bsp_records.specs.declared.results.StatusCode.TheVariants as statuses
use Rattle.bsp_records.specs.declared.tasks.TaskStartParams.{TaskStartParams}
use Rattle.rpc_peer.specs.Said.{Said, request, notification, result, failure}
use Rattle.serde_json.specs.Data.{Data}
use Rattle.target_graph.specs.Workspace.{id_of}
use Rattle.session_law.proofs.PublishedLaws.{IsPublication, all_publications}
use Rattle.session_law.specs.Builds.{build_status, has_error, table_behind}
use Rattle.session_law.specs.Cancelling.{ChecksCancelled, IsCancelledBy, cancelled, finished, none, targets_cancelled}
use Rattle.session_law.specs.Course.{Course, Given, Stage, begins, checked, known, starts, targets_start}
use Rattle.session_law.specs.Tasks.{build_finishes, build_starts, check_finishes, check_starts, start_said, target_cancelled, target_starts}

-- what holds of each notification with this name holds of a publication
pub of_publication : (P : Said → Type 0) → ((params : Option Data) → P (notification (codes "build/publishDiagnostics") params)) → (m : Said) → IsPublication m → P m
of_publication P named (notification method params) publishes =
    subst (λ name. P (notification name params)) ((bytes_eq-Decides (codes "build/publishDiagnostics") method).0 publishes) (named params)
of_publication P named (request id method params) publishes = absurd (false≢true publishes)
of_publication P named (result id value) publishes = absurd (false≢true publishes)
of_publication P named (failure id code text) publishes = absurd (false≢true publishes)

pub all_published : (P : Said → Type 0) → ((params : Option Data) → P (notification (codes "build/publishDiagnostics") params)) → (messages : List Said) → All IsPublication messages → All P messages
all_published P named messages all k d h = of_publication P named (get_or messages k d) (all k d h)

-- ---- of each message of a course

module _ (P : Said → Type 0) (of_start : (p : TaskStartParams) → P (start_said p)) (of_list : (params : Option Data) → P (notification (codes "build/publishDiagnostics") params))
    (of_check : (n j i : ℕ) (failed : Bool) → P (check_finishes n j i (build_status failed))) where
  targets_all : (g : Given) (i : ℕ) (targets : List ℕ) → All P (targets_start g i targets)
  targets_all g i [] = All-nil P
  targets_all g i (target ∷ targets) =
      All-cons P (target_starts g.active.number i (id_of g.active.build.space target)) (targets_start g (suc i) targets) (of_start _) (targets_all g (suc i) targets)

  pub course_all : {g : Given} {s : Stage} {messages : List Said} → Course g s messages → All P messages
  course_all {g} starts = All-cons P (build_starts g.active.number) (targets_start g 1 g.closure) (of_start _) (targets_all g 1 g.closure)
  course_all {g} (known {messages = messages} finding own course next is_known settles) =
      All-append P messages own (course_all course)
      (all_published P of_list own (all_publications (table_behind messages g.table) g.active.build.origin finding own settles.publishes))
  course_all {g} (begins {s = stage} {messages = messages} document i course next due task) =
      let start : Said = check_starts g.active.number (suc (length stage.begun)) i document.key.document in
      All-append P messages (start ∷ []) (course_all course) (All-cons P start [] (of_start _) (All-nil P))
  course_all {g} (checked {messages = messages} finding j i own course waiting runs task settles) =
      let finish : Said = check_finishes g.active.number j i (build_status (has_error finding)) in
      All-append P messages (finish ∷ own) (course_all course)
      (All-cons P finish own (of_check g.active.number j i (has_error finding))
      (all_published P of_list own (all_publications (table_behind (messages ++ finish ∷ []) g.table) g.active.build.origin finding own settles.publishes)))

-- ---- of each message of a cancel

module _ (P : Said → Type 0) (of_check : (n j i : ℕ) → P (check_finishes n j i statuses.Cancelled)) (of_target : (n i : ℕ) → P (target_cancelled n i))
    (of_build : (n : ℕ) → P (build_finishes n statuses.Cancelled)) where
  checks_all : {g : Given} {s : Stage} {before : ℕ} {begun : List ℕ} {messages : List Said} → ChecksCancelled g s before begun messages → All P messages
  checks_all (none before) = All-nil P
  checks_all (finished there rest) = checks_all rest
  checks_all {g} (cancelled {before = before} {messages = messages} i out rest) =
      All-cons P (check_finishes g.active.number (suc before) i statuses.Cancelled) messages (of_check g.active.number (suc before) i) (checks_all rest)

  given_up_all : (g : Given) (i : ℕ) (targets : List ℕ) → All P (targets_cancelled g i targets)
  given_up_all g i [] = All-nil P
  given_up_all g i (target ∷ targets) =
      All-cons P (target_cancelled g.active.number i) (targets_cancelled g (suc i) targets) (of_target g.active.number i) (given_up_all g (suc i) targets)

  pub cancel_all : {g : Given} {messages cancels : List Said} → IsCancelledBy g messages cancels → All P cancels
  cancel_all {g} by =
      let last : Said = build_finishes g.active.number statuses.Cancelled in
      subst (All P) (sym by.are)
      (All-append P by.checks (targets_cancelled g 1 g.closure ++ last ∷ []) (checks_all by.of_checks)
      (All-append P (targets_cancelled g 1 g.closure) (last ∷ []) (given_up_all g 1 g.closure)
      (All-cons P last [] (of_build g.active.number) (All-nil P))))
