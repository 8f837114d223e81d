-- The tasks of a build, as the notifications of the server show them (Build Server Protocol 2.2,
-- build/taskStart and build/taskFinish), as JSON.
use Rattle.std.specs.Prelude.{ℕ, List, [], ◌∷◌, map, codes, Some, option_map}
use Rattle.std.specs.List.{All}
use Rattle.std.specs.Option.{IfSome}
use Rattle.std.specs.Str.{IsUtf8}
use Rattle.serde_json.specs.Data.{Data, boolean, number, string, unsigned}
use Rattle.bsp_records.specs.Params.{IsTarget}
use Rattle.bsp_records.specs.Results.{status_data, target_data}
use Rattle.bsp_records.specs.Writing.{object_with, array_with}
use Rattle.bsp_records.specs.declared.tasks.CompileReport.{CompileReport}
use Rattle.bsp_records.specs.declared.tasks.CompileTask.{CompileTask}
use Rattle.bsp_records.specs.declared.tasks.TaskFinishBody.{TaskFinishBody}
use Rattle.bsp_records.specs.declared.tasks.TaskFinishBody.TheVariants as finishes
use Rattle.bsp_records.specs.declared.tasks.TaskFinishParams.{TaskFinishParams}
use Rattle.bsp_records.specs.declared.tasks.TaskId.{TaskId}
use Rattle.bsp_records.specs.declared.tasks.TaskStartBody.{TaskStartBody}
use Rattle.bsp_records.specs.declared.tasks.TaskStartBody.TheVariants as starts
use Rattle.bsp_records.specs.declared.tasks.TaskStartParams.{TaskStartParams}
use Rattle.bsp_records.specs.declared.tasks.TestFinish.{TestFinish}
use Rattle.bsp_records.specs.declared.tasks.TestReport.{TestReport}
use Rattle.bsp_records.specs.declared.tasks.TestStart.{TestStart}
use Rattle.bsp_records.specs.declared.tasks.TestStatus.{TestStatus}
use Rattle.bsp_records.specs.declared.tasks.TestStatus.TheVariants.{Passed, Failed, Ignored, Cancelled, Skipped}
use Rattle.bsp_records.specs.declared.tasks.TestTask.{TestTask}

abbrev pub count_data : ℕ → Data
count_data n = number (unsigned n)

abbrev pub task_id_data : TaskId → Data
task_id_data t =
    object_with ((codes "id", Some (string t.id))
    ∷ (codes "parents", option_map (λ parents. array_with (map string parents)) t.parents) ∷ [])

-- ---- starts

abbrev pub compile_task_data : CompileTask → Data
compile_task_data t = object_with ((codes "target", Some (target_data t.target)) ∷ [])

abbrev pub test_task_data : TestTask → Data
test_task_data t = object_with ((codes "target", Some (target_data t.target)) ∷ [])

abbrev pub test_start_data : TestStart → Data
test_start_data t = object_with ((codes "displayName", Some (string t.display_name)) ∷ [])

abbrev pub start_kind : TaskStartBody → List ℕ
start_kind (starts.CompileTask t) = codes "compile-task"
start_kind (starts.TestTask t) = codes "test-task"
start_kind (starts.TestStart t) = codes "test-start"

abbrev pub start_data : TaskStartBody → Data
start_data (starts.CompileTask t) = compile_task_data t
start_data (starts.TestTask t) = test_task_data t
start_data (starts.TestStart t) = test_start_data t

abbrev pub task_start_params_data : TaskStartParams → Data
task_start_params_data p =
    object_with ((codes "taskId", Some (task_id_data p.task_id))
    ∷ (codes "message", option_map string p.message)
    ∷ (codes "dataKind", option_map (λ body. string (start_kind body)) p.body)
    ∷ (codes "data", option_map start_data p.body) ∷ [])

-- ---- finishes

abbrev pub compile_report_data : CompileReport → Data
compile_report_data r =
    object_with ((codes "target", Some (target_data r.target))
    ∷ (codes "originId", option_map string r.origin_id)
    ∷ (codes "errors", Some (count_data r.errors))
    ∷ (codes "warnings", Some (count_data r.warnings))
    ∷ (codes "noOp", option_map boolean r.no_op) ∷ [])

abbrev pub test_status_number : TestStatus → ℕ
test_status_number Passed = 1
test_status_number Failed = 2
test_status_number Ignored = 3
test_status_number Cancelled = 4
test_status_number Skipped = 5

abbrev pub test_status_data : TestStatus → Data
test_status_data status = number (unsigned (test_status_number status))

abbrev pub test_finish_data : TestFinish → Data
test_finish_data t =
    object_with ((codes "displayName", Some (string t.display_name))
    ∷ (codes "message", option_map string t.message)
    ∷ (codes "status", Some (test_status_data t.status)) ∷ [])

abbrev pub test_report_data : TestReport → Data
test_report_data r =
    object_with ((codes "target", Some (target_data r.target))
    ∷ (codes "passed", Some (count_data r.passed))
    ∷ (codes "failed", Some (count_data r.failed))
    ∷ (codes "ignored", Some (count_data r.ignored))
    ∷ (codes "cancelled", Some (count_data r.cancelled))
    ∷ (codes "skipped", Some (count_data r.skipped)) ∷ [])

abbrev pub finish_kind : TaskFinishBody → List ℕ
finish_kind (finishes.CompileReport r) = codes "compile-report"
finish_kind (finishes.TestFinish t) = codes "test-finish"
finish_kind (finishes.TestReport r) = codes "test-report"

abbrev pub finish_data : TaskFinishBody → Data
finish_data (finishes.CompileReport r) = compile_report_data r
finish_data (finishes.TestFinish t) = test_finish_data t
finish_data (finishes.TestReport r) = test_report_data r

abbrev pub task_finish_params_data : TaskFinishParams → Data
task_finish_params_data p =
    object_with ((codes "taskId", Some (task_id_data p.task_id))
    ∷ (codes "status", Some (status_data p.status))
    ∷ (codes "dataKind", option_map (λ body. string (finish_kind body)) p.body)
    ∷ (codes "data", option_map finish_data p.body) ∷ [])

-- ---- texts

pub record HasTaskIdTexts (t : TaskId) : Type 0 where
  pub id : IsUtf8 t.id
  pub parents : IfSome t.parents (λ parents. All IsUtf8 parents)

abbrev pub HasStartBodyTexts : TaskStartBody → Type 0
HasStartBodyTexts (starts.CompileTask t) = IsTarget t.target
HasStartBodyTexts (starts.TestTask t) = IsTarget t.target
HasStartBodyTexts (starts.TestStart t) = IsUtf8 t.display_name

pub record HasTaskStartTexts (p : TaskStartParams) : Type 0 where
  pub task_id : HasTaskIdTexts p.task_id
  pub message : IfSome p.message IsUtf8
  pub body : IfSome p.body HasStartBodyTexts

pub record HasCompileReportTexts (r : CompileReport) : Type 0 where
  pub target : IsTarget r.target
  pub origin_id : IfSome r.origin_id IsUtf8

pub record HasTestFinishTexts (t : TestFinish) : Type 0 where
  pub display_name : IsUtf8 t.display_name
  pub message : IfSome t.message IsUtf8

abbrev pub HasFinishBodyTexts : TaskFinishBody → Type 0
HasFinishBodyTexts (finishes.CompileReport r) = HasCompileReportTexts r
HasFinishBodyTexts (finishes.TestFinish t) = HasTestFinishTexts t
HasFinishBodyTexts (finishes.TestReport r) = IsTarget r.target

pub record HasTaskFinishTexts (p : TaskFinishParams) : Type 0 where
  pub task_id : HasTaskIdTexts p.task_id
  pub body : IfSome p.body HasFinishBodyTexts
