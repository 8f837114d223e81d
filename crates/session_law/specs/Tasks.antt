-- The tasks of a build: their ids, and the messages that tell of them (Build Server Protocol 2.2, build/taskStart and
-- build/taskFinish).
use Rattle.std.specs.Prelude.{◌==◌, ◌++◌, ℕ, List, [], ◌∷◌, codes, decimal, Some, None, if◌then◌else◌}
use Rattle.bsp_records.specs.Tasks.{task_start_params_data, task_finish_params_data}
use Rattle.bsp_records.specs.declared.results.StatusCode.{StatusCode}
use Rattle.bsp_records.specs.declared.results.StatusCode.TheVariants as statuses
use Rattle.bsp_records.specs.declared.tasks.CompileReport.{CompileReport}
use Rattle.bsp_records.specs.declared.tasks.TaskFinishBody.TheVariants as finishes
use Rattle.bsp_records.specs.declared.tasks.TaskFinishParams.{TaskFinishParams}
use Rattle.bsp_records.specs.declared.tasks.TaskId.{TaskId}
use Rattle.bsp_records.specs.declared.tasks.TaskStartBody.TheVariants as starts
use Rattle.bsp_records.specs.declared.tasks.TaskStartParams.{TaskStartParams}
use Rattle.rpc_peer.specs.Said.{Said, notification}

-- ---- ids

-- A task of a build: the build itself; the compiling of a target of its closure, numbered from 1 in the order of the
-- workspace file; and a check, numbered from 1 in the order in which they start, with the number of the target that its
-- document is of.
pub data Task : Type 0 where
  whole : Task
  compiling : ℕ → Task
  checking : ℕ → ℕ → Task

abbrev pub whole_name : ℕ → List ℕ
whole_name n = codes "r" ++ decimal n

abbrev pub compiling_name : ℕ → ℕ → List ℕ
compiling_name n i = whole_name n ++ (codes ".t" ++ decimal i)

abbrev pub checking_name : ℕ → ℕ → List ℕ
checking_name n j = whole_name n ++ (codes ".c" ++ decimal j)

-- its id, where the build is the n-th message of the session
abbrev pub task_id : ℕ → Task → TaskId
task_id n whole = record { id = whole_name n; parents = None }
task_id n (compiling i) = record { id = compiling_name n i; parents = Some (whole_name n ∷ []) }
task_id n (checking j i) = record { id = checking_name n j; parents = Some (compiling_name n i ∷ []) }

-- ---- messages

unfoldable pub start_said : TaskStartParams → Said
start_said p = notification (codes "build/taskStart") (Some (task_start_params_data p))

unfoldable pub finish_said : TaskFinishParams → Said
finish_said p = notification (codes "build/taskFinish") (Some (task_finish_params_data p))

abbrev pub build_starts : ℕ → Said
build_starts n = start_said (record { task_id = task_id n whole; message = None; body = None })

-- the target with this id
abbrev pub target_starts : ℕ → ℕ → List ℕ → Said
target_starts n i target =
    start_said (record { task_id = task_id n (compiling i); message = None; body = Some (starts.CompileTask (record { target = record { uri = target } })) })

-- a check of the document at this address
abbrev pub check_starts : ℕ → ℕ → ℕ → List ℕ → Said
check_starts n j i document = start_said (record { task_id = task_id n (checking j i); message = Some document; body = None })

abbrev pub check_finishes : ℕ → ℕ → ℕ → StatusCode → Said
check_finishes n j i status = finish_said (record { task_id = task_id n (checking j i); status = status; body = None })

-- a target's report has an error or has none
abbrev pub report_status : CompileReport → StatusCode
report_status report = if report.errors == 0 then statuses.Ok else statuses.Error

abbrev pub target_finishes : ℕ → ℕ → CompileReport → Said
target_finishes n i report =
    finish_said (record { task_id = task_id n (compiling i); status = report_status report; body = Some (finishes.CompileReport report) })

abbrev pub build_finishes : ℕ → StatusCode → Said
build_finishes n status = finish_said (record { task_id = task_id n whole; status = status; body = None })

-- a target whose build is cancelled finishes without a report
abbrev pub target_cancelled : ℕ → ℕ → Said
target_cancelled n i = finish_said (record { task_id = task_id n (compiling i); status = statuses.Cancelled; body = None })
