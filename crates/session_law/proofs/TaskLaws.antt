-- What a message tells of a task, as a client reads it. So messages that are the same tell of the same task.
use Rattle.std.proofs.Common.{◌≡◌, ◌<◌, ◌^◌, ◌++◌, ℕ, List, [], ◌∷◌, true, false, Option, Some, None, refl, ap, sym, ◌∙◌}
use Rattle.std.specs.Prelude.{codes, decimal, is_some, option_and_then, if◌then◌else◌}
use Rattle.std.specs.List.{All}
use Rattle.std.proofs.lemmas.Fmt.{decimal_injective}
use Rattle.std.proofs.lemmas.List.{append_cancel_left}
use Rattle.std.proofs.lemmas.List.Elements.{All-head, All-tail}
use Rattle.std.proofs.lemmas.Option.{same_Some}
use Rattle.bsp_records.specs.Table.{Table}
use Rattle.bsp_records.specs.declared.publishing.PublishDiagnosticsParams.{PublishDiagnosticsParams}
use Rattle.bsp_records.specs.declared.results.StatusCode.{StatusCode}
use Rattle.bsp_records.specs.declared.tasks.CompileReport.{CompileReport}
use Rattle.bsp_records.specs.declared.tasks.TaskFinishParams.{TaskFinishParams}
use Rattle.bsp_records.specs.declared.tasks.TaskStartParams.{TaskStartParams}
use Rattle.json_shape.specs.Shapes.{at, values_in}
use Rattle.rpc_peer.specs.Said.{Said, request, notification, result, failure}
use Rattle.serde_json.specs.Data.{Data}
use Rattle.serde_json.specs.Find.{get, as_str}
use Rattle.session_law.specs.Builds.{is_publication, publication_in, publication_said, shown_by, table_behind}
use Rattle.session_law.specs.IsFramed.{IsOfServer}
use Rattle.session_law.specs.Methods.{is_named}
use Rattle.session_law.specs.Tasks.{start_said, finish_said, whole_name, compiling_name, checking_name, build_starts, target_starts, check_starts, check_finishes, target_cancelled, target_finishes, build_finishes}
use Rattle.session_law.specs.TasksInOrder.{is_of_task}

-- ---- what a message tells

-- the params of a notification with this name
abbrev pub params_named : List ℕ → Said → Option Data
params_named name (notification method params) = if is_named name method then params else None
params_named name (request id method params) = None
params_named name (result id value) = None
params_named name (failure id code text) = None

abbrev text_at : List ℕ → Data → Option (List ℕ)
text_at name d = option_and_then as_str (get name d)

abbrev first_text : List Data → Option (List ℕ)
first_text [] = None
first_text (d ∷ ds) = as_str d

-- the id of the first task that a task is inside
abbrev parent_in : Data → Option (List ℕ)
parent_in params = first_text (values_in (at (codes "parents") (at (codes "taskId") params)))

abbrev both : Option (List ℕ) → Option (List ℕ) → Option (List ℕ × List ℕ)
both (Some a) (Some b) = Some (a, b)
both (Some a) None = None
both None b = None

abbrev behind : Option (List ℕ) → Option (List ℕ) → Option (List ℕ)
behind (Some a) b = b
behind None b = None

-- What the start of a check tells: the document, and the id of the task that the check is inside.
abbrev pub start_in : Said → Option (List ℕ × List ℕ)
start_in m = option_and_then (λ params. both (text_at (codes "message") params) (parent_in params)) (params_named (codes "build/taskStart") m)

abbrev finish_of : Data → Option (List ℕ)
finish_of params =
    if is_some (get (codes "data") params) then None else behind (parent_in params) (text_at (codes "id") (at (codes "taskId") params))

-- What the finish of a check tells: its id. It is inside another task, and has no report.
abbrev pub finish_in : Said → Option (List ℕ)
finish_in m = option_and_then finish_of (params_named (codes "build/taskFinish") m)

-- the id of the task that starts
abbrev pub start_name_in : Said → Option (List ℕ)
start_name_in m = option_and_then (λ params. text_at (codes "id") (at (codes "taskId") params)) (params_named (codes "build/taskStart") m)

-- ---- the six messages, and a publication

pub build_starts_in : (n : ℕ) → (start_in (build_starts n) ≡ None) × (finish_in (build_starts n) ≡ None)
unfolding start_said
build_starts_in n = (refl, refl)

pub target_starts_in : (n i : ℕ) (target : List ℕ) → (start_in (target_starts n i target) ≡ None) × (finish_in (target_starts n i target) ≡ None)
unfolding start_said
target_starts_in n i target = (refl, refl)

pub check_starts_in : (n j i : ℕ) (document : List ℕ)
    → (start_in (check_starts n j i document) ≡ Some (document, compiling_name n i)) × (finish_in (check_starts n j i document) ≡ None)
unfolding start_said
check_starts_in n j i document = (refl, refl)

pub check_finishes_in : (n j i : ℕ) (status : StatusCode)
    → (start_in (check_finishes n j i status) ≡ None) × (finish_in (check_finishes n j i status) ≡ Some (checking_name n j))
unfolding finish_said
check_finishes_in n j i status = (refl, refl)

pub target_finishes_in : (n i : ℕ) (report : CompileReport) → (start_in (target_finishes n i report) ≡ None) × (finish_in (target_finishes n i report) ≡ None)
unfolding finish_said
target_finishes_in n i report = (refl, refl)

check_start_name_in : (n j i : ℕ) (document : List ℕ) → start_name_in (check_starts n j i document) ≡ Some (checking_name n j)
unfolding start_said
check_start_name_in n j i document = refl

pub target_starts_none : (n i : ℕ) → start_in (target_cancelled n i) ≡ None
unfolding finish_said
target_starts_none n i = refl

pub build_finishes_in : (n : ℕ) (status : StatusCode) → (start_in (build_finishes n status) ≡ None) × (finish_in (build_finishes n status) ≡ None)
unfolding finish_said
build_finishes_in n status = (refl, refl)

pub publication_in_neither : (p : PublishDiagnosticsParams) → (start_in (publication_said p) ≡ None) × (finish_in (publication_said p) ≡ None)
publication_in_neither p = (refl, refl)

-- ---- messages that are the same

pub same_starts : (n j i n' j' i' : ℕ) (document document' : List ℕ) → check_starts n j i document ≡ check_starts n' j' i' document'
    → (document ≡ document') × (compiling_name n i ≡ compiling_name n' i')
same_starts n j i n' j' i' document document' same =
    let told = same_Some (document, compiling_name n i) (document', compiling_name n' i')
    (sym (check_starts_in n j i document).0 ∙ (ap start_in same ∙ (check_starts_in n' j' i' document').0)) in
    (ap (λ (p : List ℕ × List ℕ). p.0) told, ap (λ (p : List ℕ × List ℕ). p.1) told)

pub same_start_names : (n j i n' j' i' : ℕ) (document document' : List ℕ) → check_starts n j i document ≡ check_starts n' j' i' document'
    → checking_name n j ≡ checking_name n' j'
same_start_names n j i n' j' i' document document' same =
    same_Some (checking_name n j) (checking_name n' j')
    (sym (check_start_name_in n j i document) ∙ (ap start_name_in same ∙ check_start_name_in n' j' i' document'))

pub same_finishes : (n j i n' j' i' : ℕ) (status status' : StatusCode) → check_finishes n j i status ≡ check_finishes n' j' i' status'
    → checking_name n j ≡ checking_name n' j'
same_finishes n j i n' j' i' status status' same =
    same_Some (checking_name n j) (checking_name n' j')
    (sym (check_finishes_in n j i status).1 ∙ (ap finish_in same ∙ (check_finishes_in n' j' i' status').1))

-- the tasks of one build have names of their own
same_number : (n i i' : ℕ) (mark : List ℕ) → i < 2 ^ 64 → i' < 2 ^ 64 → whole_name n ++ (mark ++ decimal i) ≡ whole_name n ++ (mark ++ decimal i') → i ≡ i'
same_number n i i' mark small small' same =
    decimal_injective i i' small small'
    (append_cancel_left mark (decimal i) (decimal i') (append_cancel_left (whole_name n) (mark ++ decimal i) (mark ++ decimal i') same))

pub same_compiling : (n i i' : ℕ) → i < 2 ^ 64 → i' < 2 ^ 64 → compiling_name n i ≡ compiling_name n i' → i ≡ i'
same_compiling n i i' small small' same = same_number n i i' (codes ".t") small small' same

pub same_checking : (n j j' : ℕ) → j < 2 ^ 64 → j' < 2 ^ 64 → checking_name n j ≡ checking_name n j' → j ≡ j'
same_checking n j j' small small' same = same_number n j j' (codes ".c") small small' same

-- ---- messages of tasks, and publications

-- The message is a notification of the server that tells of a task, and it publishes nothing.
pub record TellsOfTask (m : Said) : Type 0 where
  pub of_server : IsOfServer m
  pub of_task : is_of_task m ≡ true
  pub no_publication : is_publication m ≡ false
  pub publishes_none : publication_in m ≡ None
  pub shows : (table : Table) → shown_by m table ≡ table

pub start_tells : (p : TaskStartParams) → TellsOfTask (start_said p)
unfolding start_said
start_tells p = record { of_server = refl; of_task = refl; no_publication = refl; publishes_none = refl; shows = λ table. refl }

pub finish_tells : (p : TaskFinishParams) → TellsOfTask (finish_said p)
unfolding finish_said
finish_tells p = record { of_server = refl; of_task = refl; no_publication = refl; publishes_none = refl; shows = λ table. refl }

pub tasks_show_nothing : (messages : List Said) (table : Table) → All TellsOfTask messages → table_behind messages table ≡ table
tasks_show_nothing [] table each = refl
tasks_show_nothing (m ∷ messages) table each =
    let tells : TellsOfTask m = All-head TellsOfTask m messages each in
    ap (table_behind messages) (tells.shows table) ∙ tasks_show_nothing messages table (All-tail TellsOfTask m messages each)

pub publication_of_no_task : (p : PublishDiagnosticsParams) → is_of_task (publication_said p) ≡ false
publication_of_no_task p = refl
