-- What is no verdict: a message that finishes no check, and one that finishes a task as cancelled.
use Rattle.std.proofs.Common.{◌≡◌, ℕ, List, All, true, Some, None, refl, sym, ap, ◌∙◌}
use Rattle.std.proofs.lemmas.Bool.{false≢true}
use Rattle.std.proofs.lemmas.Option.{none-some, same_Some}
use Rattle.bsp_records.specs.Results.{status_data}
use Rattle.bsp_records.specs.declared.results.StatusCode.{StatusCode}
use Rattle.bsp_records.specs.declared.results.StatusCode.TheVariants as statuses
use Rattle.bsp_records.specs.declared.tasks.CompileReport.{CompileReport}
use Rattle.bsp_records.specs.declared.tasks.TaskStartParams.{TaskStartParams}
use Rattle.rpc_peer.specs.Said.{Said}
use Rattle.session_law.proofs.CancelLaws.{IsCancel, all_of_cancel, status_in}
use Rattle.session_law.proofs.TaskLaws.{build_finishes_in, check_finishes_in, finish_in, finish_tells, target_finishes_in}
use Rattle.session_law.specs.Builds.{is_publication}
use Rattle.session_law.specs.Cancelling.{IsCancelledBy}
use Rattle.session_law.specs.Course.{Given}
use Rattle.session_law.specs.Tasks.{build_finishes, check_finishes, checking, checking_name, finish_said, start_said, target_cancelled, target_finishes, task_id}
use Rattle.session_law.specs.Verdicts.{IsBare}

-- ---- by what is read of it

pub bare_other : (m : Said) → finish_in m ≡ None → IsBare m
bare_other m tells_none verdict =
    none-some (checking_name verdict.number verdict.check)
    (sym tells_none ∙ (ap finish_in verdict.is ∙ (check_finishes_in verdict.number verdict.check verdict.target verdict.status).1))

pub bare_publication : (m : Said) → is_publication m ≡ true → IsBare m
bare_publication m publishes verdict =
    let finish = finish_tells (record { task_id = task_id verdict.number (checking verdict.check verdict.target); status = verdict.status; body = None }) in
    false≢true (sym finish.no_publication ∙ (ap is_publication (sym verdict.is) ∙ publishes))

status_told : (n j i : ℕ) (status : StatusCode) → status_in (check_finishes n j i status) ≡ Some (status_data status)
unfolding finish_said
status_told n j i status = refl

only_cancelled : (status : StatusCode) → status_data status ≡ status_data statuses.Cancelled → status ≡ statuses.Cancelled
only_cancelled statuses.Ok same = cc
only_cancelled statuses.Error same = cc
only_cancelled statuses.Cancelled same = refl

pub bare_cancel : (m : Said) → IsCancel m → IsBare m
bare_cancel m cancels verdict =
    verdict.made
    (only_cancelled verdict.status
    (same_Some (status_data verdict.status) (status_data statuses.Cancelled)
    (sym (status_told verdict.number verdict.check verdict.target verdict.status) ∙ (ap status_in (sym verdict.is) ∙ cancels))))

-- ---- the messages of a build

start_finishes_none : (p : TaskStartParams) → finish_in (start_said p) ≡ None
unfolding start_said
start_finishes_none p = refl

pub bare_start : (p : TaskStartParams) → IsBare (start_said p)
bare_start p = bare_other (start_said p) (start_finishes_none p)

pub bare_report : (n i : ℕ) (report : CompileReport) → IsBare (target_finishes n i report)
bare_report n i report = bare_other (target_finishes n i report) (target_finishes_in n i report).1

pub bare_build : (n : ℕ) (status : StatusCode) → IsBare (build_finishes n status)
bare_build n status = bare_other (build_finishes n status) (build_finishes_in n status).1

pub bare_check : (n j i : ℕ) → IsBare (check_finishes n j i statuses.Cancelled)
bare_check n j i = bare_cancel (check_finishes n j i statuses.Cancelled) (status_told n j i statuses.Cancelled)

target_told : (n i : ℕ) → IsCancel (target_cancelled n i)
unfolding finish_said
target_told n i = refl

pub bare_target : (n i : ℕ) → IsBare (target_cancelled n i)
bare_target n i = bare_cancel (target_cancelled n i) (target_told n i)

-- what is told as a build is cancelled
pub bare_all : {g : Given} {messages cancels : List Said} → IsCancelledBy g messages cancels → All IsBare cancels
bare_all by k d h = bare_cancel _ (all_of_cancel by k d h).cancels
