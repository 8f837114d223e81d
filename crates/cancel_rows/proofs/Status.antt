-- No message of a build that goes on finishes a task as cancelled. So what a build told and what is told by its cancel
-- behind that are told apart.
use Rattle.std.proofs.Common.{◌≡◌, ◌++◌, ℕ, suc, List, [], ◌∷◌, Bool, true, false, All, Option, Some, None, refl, sym, ap, subst, ◌∙◌}
use Rattle.std.specs.List.{list_any}
use Rattle.std.specs.Prelude.{◌==◌, codes, if◌then◌else◌, option_and_then}
use Rattle.std.proofs.lemmas.List.Elements.{All-append, All-cons, All-head, All-nil, All-tail}
use Rattle.std.proofs.lemmas.Option.{none-some, same_Some}
use Rattle.bsp_records.specs.Results.{status_data}
use Rattle.bsp_records.specs.declared.results.StatusCode.TheVariants as statuses
use Rattle.bsp_records.specs.declared.tasks.CompileReport.{CompileReport}
use Rattle.bsp_records.specs.declared.tasks.TaskStartParams.{TaskStartParams}
use Rattle.rpc_peer.specs.Said.{Said, request, notification, result, failure}
use Rattle.rpc_peer.specs.declared.message.Id.{Id}
use Rattle.serde_json.specs.Data.{Data}
use Rattle.serde_json.specs.Find.{get}
use Rattle.target_graph.specs.Workspace.{id_of}
use Rattle.cancel_rows.proofs.Courses.{course_all}
use Rattle.session_law.proofs.CancelLaws.{IsCancel, status_in}
use Rattle.session_law.specs.Builds.{Finding, build_said, build_status, cancelled_said, has_error}
use Rattle.session_law.specs.Course.{Course, Given, Stage, Tells, all_finish, ended, report_of, settling, targets_finish}
use Rattle.session_law.specs.Tasks.{build_finishes, check_finishes, finish_said, report_status, start_said, target_finishes}

-- the message doesn't finish a task as cancelled
abbrev pub CancelsNone : Said → Type 0
CancelsNone m = IsCancel m → ⊥

-- ---- one message

without_status : (m : Said) → status_in m ≡ None → CancelsNone m
without_status m none cancels = none-some (status_data statuses.Cancelled) (sym none ∙ cancels)

pub start_cancels_none : (p : TaskStartParams) → CancelsNone (start_said p)
unfolding start_said
start_cancels_none p = without_status (start_said p) refl

list_cancels_none : (params : Option Data) → CancelsNone (notification (codes "build/publishDiagnostics") params)
list_cancels_none params = without_status (notification (codes "build/publishDiagnostics") params) refl

made : (failed : Bool) → status_data (build_status failed) ≡ status_data statuses.Cancelled → ⊥
made true same = cc
made false same = cc

reported : (none : Bool) → status_data (if none then statuses.Ok else statuses.Error) ≡ status_data statuses.Cancelled → ⊥
reported true same = cc
reported false same = cc

pub check_cancels_none : (n j i : ℕ) (failed : Bool) → CancelsNone (check_finishes n j i (build_status failed))
unfolding finish_said
check_cancels_none n j i failed cancels = made failed (same_Some (status_data (build_status failed)) (status_data statuses.Cancelled) cancels)

pub target_cancels_none : (n i : ℕ) (report : CompileReport) → CancelsNone (target_finishes n i report)
unfolding finish_said
target_cancels_none n i report cancels = reported (report.errors == 0) (same_Some (status_data (report_status report)) (status_data statuses.Cancelled) cancels)

pub build_cancels_none : (n : ℕ) (failed : Bool) → CancelsNone (build_finishes n (build_status failed))
unfolding finish_said
build_cancels_none n failed cancels = made failed (same_Some (status_data (build_status failed)) (status_data statuses.Cancelled) cancels)

-- ---- all that a build tells

pub course_cancels_none : {g : Given} {s : Stage} {messages : List Said} → Course g s messages → All CancelsNone messages
course_cancels_none course = course_all CancelsNone start_cancels_none list_cancels_none check_cancels_none course

finishes_cancel_none : (g : Given) (s : Stage) (findings : List Finding) (i : ℕ) (targets : List ℕ) → All CancelsNone (targets_finish g s findings i targets)
finishes_cancel_none g s findings i [] = All-nil CancelsNone
finishes_cancel_none g s findings i (target ∷ targets) =
    let report : CompileReport = report_of g s findings (id_of g.active.build.space target) in
    All-cons CancelsNone (target_finishes g.active.number i report) (targets_finish g s findings (suc i) targets)
    (target_cancels_none g.active.number i report) (finishes_cancel_none g s findings (suc i) targets)

end_cancels_none : (g : Given) (s : Stage) (findings : List Finding) → All CancelsNone (all_finish g s findings)
end_cancels_none g s findings =
    let last : Said = build_finishes g.active.number (build_status (list_any has_error findings)) in
    All-append CancelsNone (targets_finish g s findings 1 g.closure) (last ∷ []) (finishes_cancel_none g s findings 1 g.closure)
    (All-cons CancelsNone last [] (build_cancels_none g.active.number (list_any has_error findings)) (All-nil CancelsNone))

pub telling_cancels_none : {g : Given} {messages : List Said} → Tells g messages → All CancelsNone messages
telling_cancels_none (settling s course) = course_cancels_none course
telling_cancels_none {g} (ended whole) =
    subst (All CancelsNone) (sym whole.are)
    (All-append CancelsNone whole.settling (all_finish g whole.stage whole.findings) (course_cancels_none whole.course) (end_cancels_none g whole.stage whole.findings))

-- ---- told apart

pub rest_same : (m n : Said) (ms ns : List Said) → m ∷ ms ≡ n ∷ ns → ms ≡ ns
rest_same m n ms ns same = cc

pub first_same : (m n : Said) (ms ns : List Said) → m ∷ ms ≡ n ∷ ns → m ≡ n
first_same m n ms ns same = cc

-- one list isn't split in two ways into messages that cancel nothing and messages that cancel
pub split : (told other cancels others : List Said) → All CancelsNone told → All CancelsNone other → All IsCancel cancels → All IsCancel others
    → told ++ cancels ≡ other ++ others → (told ≡ other) × (cancels ≡ others)
split [] [] cancels others none none' cancel cancel' same = (refl, same)
split [] (n ∷ other) cancels others none none' cancel cancel' same =
    absurd (All-head CancelsNone n other none' (All-head IsCancel n (other ++ others) (subst (All IsCancel) same cancel)))
split (m ∷ told) [] cancels others none none' cancel cancel' same =
    absurd (All-head CancelsNone m told none (All-head IsCancel m (told ++ cancels) (subst (All IsCancel) (sym same) cancel')))
split (m ∷ told) (n ∷ other) cancels others none none' cancel cancel' same =
    let rest = split told other cancels others (All-tail CancelsNone m told none) (All-tail CancelsNone n other none') cancel cancel' (rest_same m n (told ++ cancels) (other ++ others) same) in
    ((λ i. first_same m n (told ++ cancels) (other ++ others) same i ∷ rest.0 i), rest.1)

-- ---- answers

-- the value of a response
abbrev pub value_in : Said → Option Data
value_in (result id value) = Some value
value_in (failure id code text) = None
value_in (request id method params) = None
value_in (notification method params) = None

-- the status code of a response to a compile
abbrev pub status_answered : Said → Option Data
status_answered m = option_and_then (get (codes "statusCode")) (value_in m)

status_of_build : (id : Id) (origin : Option (List ℕ)) (failed : Bool) → status_answered (build_said id origin failed) ≡ Some (status_data (build_status failed))
unfolding build_said
status_of_build id None failed = refl
status_of_build id (Some text) failed = refl

pub status_of_cancelled : (id : Id) (origin : Option (List ℕ)) → status_answered (cancelled_said id origin) ≡ Some (status_data statuses.Cancelled)
unfolding cancelled_said
status_of_cancelled id None = refl
status_of_cancelled id (Some text) = refl

-- a build that wasn't cancelled is answered with another status code
pub answers_differ : (id other : Id) (origin origin' : Option (List ℕ)) (failed : Bool) → build_said id origin failed ≡ cancelled_said other origin' → ⊥
answers_differ id other origin origin' failed same =
    made failed
    (same_Some (status_data (build_status failed)) (status_data statuses.Cancelled)
    (sym (status_of_build id origin failed) ∙ (ap status_answered same ∙ status_of_cancelled other origin')))
