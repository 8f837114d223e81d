-- The messages of a build's tasks are printed in one way, and fit a frame.
use Rattle.std.proofs.Common.{◌≡◌, ◌≤◌, ◌<◌, ◌^◌, ◌+◌, ◌++◌, ℕ, List, [], ◌∷◌, length, Bool, false, Option, Some, None, option_map, lit≤, refl, arith, length-append, ◌/◌, ◌%◌, zero, suc}
use Rattle.std.specs.Prelude.{◌==◌, codes, decimal}
use Rattle.std.specs.Fmt.{digits, digits_onto, digit_glyph}
use Rattle.std.specs.Option.{IfSome}
use Rattle.std.specs.Str.{IsAscii, IsUtf8}
use Rattle.std.proofs.lemmas.Fmt.{IsAscii-decimal}
use Rattle.std.proofs.lemmas.List.Elements.{All-nil, All-cons}
use Rattle.std.proofs.lemmas.Str.{IsAscii-append, IsUtf8-from_ascii}
use Rattle.bsp_address.specs.Address.{IsAddress}
use Rattle.bsp_records.proofs.ShortLaws.{cond_short, field_room, object_short, array_short, text_short, flag_short}
use Rattle.bsp_records.specs.Identifiers.{identifier_data}
use Rattle.bsp_records.specs.Limits.{origin_limit}
use Rattle.bsp_records.specs.Results.{status_data}
use Rattle.bsp_records.specs.Tasks.{HasTaskIdTexts, compile_report_data, compile_task_data, count_data, task_finish_params_data, task_id_data, task_start_params_data}
use Rattle.bsp_records.specs.Writing.{object_with, array_with}
use Rattle.bsp_records.specs.declared.results.StatusCode.{StatusCode}
use Rattle.bsp_records.specs.declared.results.StatusCode.TheVariants as statuses
use Rattle.bsp_records.specs.declared.tasks.CompileReport.{CompileReport}
use Rattle.bsp_records.specs.declared.tasks.TaskFinishParams.{TaskFinishParams}
use Rattle.bsp_records.specs.declared.tasks.TaskStartParams.{TaskStartParams}
use Rattle.json_shape.specs.Shapes.{IsTextWithin}
use Rattle.ob_text.proofs.AsciiLaws.{ascii_from_test}
use Rattle.serde_json.specs.Data.{Data, boolean, string}
use Rattle.serde_json.specs.Written.{compact_text, has_float}
use Rattle.session_law.proofs.NoticeLaws.{framed_notice, params_limit}
use Rattle.session_law.specs.IsFramed.{IsFramed}
use Rattle.session_law.specs.Tasks.{Task, whole, compiling, checking, task_id, whole_name, compiling_name, checking_name, start_said, finish_said, build_starts, target_starts, check_starts, check_finishes, target_cancelled, target_finishes, build_finishes, report_status}

through : {a b c : ℕ} → a ≤ b → b ≤ c → a ≤ c
through h k = omega arith

-- ---- ids

digits_onto_short : (k base n : ℕ) (upper : Bool) (behind : List ℕ) → length (digits_onto k base upper n behind) ≤ k + length behind
digits_onto_short zero base n upper behind = omega arith
digits_onto_short (suc k) base n upper behind =
    let glyph : ℕ = digit_glyph upper (n % base) in
    cond_short (n / base == 0) (suc k + length behind) (glyph ∷ behind) (digits_onto k base upper (n / base) (glyph ∷ behind)) (omega arith)
    (omega (arith, digits_onto_short k base (n / base) upper (glyph ∷ behind)))

decimal_short : (n : ℕ) → length (decimal n) ≤ 64
unfolding digits
decimal_short n = digits_onto_short 64 10 n false []

whole_short : (n : ℕ) → length (whole_name n) ≤ 65
whole_short n = omega (arith, length-append (codes "r") (decimal n), decimal_short n)

inside_name_short : (mark : List ℕ) (n i : ℕ) → length mark ≤ 2 → length (whole_name n ++ (mark ++ decimal i)) ≤ 131
inside_name_short mark n i small = omega (arith, length-append (whole_name n) (mark ++ decimal i), length-append mark (decimal i), whole_short n, decimal_short i)

compiling_short : (n i : ℕ) → length (compiling_name n i) ≤ 131
compiling_short n i = inside_name_short (codes ".t") n i (lit≤ tt)

checking_short : (n j : ℕ) → length (checking_name n j) ≤ 131
checking_short n j = inside_name_short (codes ".c") n j (lit≤ tt)

-- a task that is inside another
inside_short : (id parent : List ℕ) → length id ≤ 131 → length parent ≤ 131 → length (compact_text (task_id_data (record { id = id; parents = Some (parent ∷ []) }))) ≤ 2000
inside_short id parent short above =
    through (object_short ((codes "id", Some (string id)) ∷ (codes "parents", Some (array_with (string parent ∷ []))) ∷ []))
    (omega (arith, array_short (string parent ∷ []), text_short id, text_short parent))

task_id_short : (n : ℕ) (task : Task) → length (compact_text (task_id_data (task_id n task))) ≤ 2000
task_id_short n whole =
    through (object_short ((codes "id", Some (string (whole_name n))) ∷ (codes "parents", None) ∷ [])) (omega (arith, text_short (whole_name n), whole_short n))
task_id_short n (compiling i) = inside_short (compiling_name n i) (whole_name n) (compiling_short n i) (omega (arith, whole_short n))
task_id_short n (checking j i) = inside_short (checking_name n j) (compiling_name n i) (checking_short n j) (compiling_short n i)

-- ---- their texts

numbered_ascii : (front : List ℕ) (n : ℕ) → IsAscii front → n < 2 ^ 64 → IsAscii (front ++ decimal n)
numbered_ascii front n plain small = IsAscii-append front (decimal n) plain (IsAscii-decimal n small)

whole_ascii : (n : ℕ) → n < 2 ^ 64 → IsAscii (whole_name n)
whole_ascii n small = numbered_ascii (codes "r") n (ascii_from_test (codes "r") refl) small

compiling_ascii : (n i : ℕ) → n < 2 ^ 64 → i < 2 ^ 64 → IsAscii (compiling_name n i)
compiling_ascii n i small few =
    IsAscii-append (whole_name n) (codes ".t" ++ decimal i) (whole_ascii n small) (numbered_ascii (codes ".t") i (ascii_from_test (codes ".t") refl) few)

checking_ascii : (n j : ℕ) → n < 2 ^ 64 → j < 2 ^ 64 → IsAscii (checking_name n j)
checking_ascii n j small few =
    IsAscii-append (whole_name n) (codes ".c" ++ decimal j) (whole_ascii n small) (numbered_ascii (codes ".c") j (ascii_from_test (codes ".c") refl) few)

inside_texts : (id parent : List ℕ) → IsAscii id → IsAscii parent → HasTaskIdTexts (record { id = id; parents = Some (parent ∷ []) })
inside_texts id parent plain above = record { id = IsUtf8-from_ascii id plain; parents = All-cons IsUtf8 parent [] (IsUtf8-from_ascii parent above) (All-nil IsUtf8) }

-- its numbers are of 64 bits
abbrev pub IsNumbered : Task → Type 0
IsNumbered whole = Unit {0}
IsNumbered (compiling i) = i < 2 ^ 64
IsNumbered (checking j i) = (j < 2 ^ 64) × (i < 2 ^ 64)

pub task_id_texts : (n : ℕ) (task : Task) → n < 2 ^ 64 → IsNumbered task → HasTaskIdTexts (task_id n task)
task_id_texts n whole small numbered = record { id = IsUtf8-from_ascii (whole_name n) (whole_ascii n small); parents = tt }
task_id_texts n (compiling i) small few = inside_texts (compiling_name n i) (whole_name n) (compiling_ascii n i small few) (whole_ascii n small)
task_id_texts n (checking j i) small few = inside_texts (checking_name n j) (compiling_name n i) (checking_ascii n j small few.0) (compiling_ascii n i small few.1)

-- ---- their params

identifier_short : (uri : List ℕ) → IsAddress uri → length (compact_text (identifier_data uri)) ≤ 26500
identifier_short uri address = through (object_short ((codes "uri", Some (string uri)) ∷ [])) (let text = text_short uri in let short = address.short in omega arith)

task_short : (uri : List ℕ) → IsAddress uri → length (compact_text (compile_task_data (record { target = record { uri = uri } }))) ≤ 27000
task_short uri address = through (object_short ((codes "target", Some (identifier_data uri)) ∷ [])) (omega (arith, identifier_short uri address))

origin_room : (origin : Option (List ℕ)) → IfSome origin (IsTextWithin origin_limit) → field_room (codes "originId") (option_map string origin) ≤ 7000
origin_room None within = lit≤ tt
origin_room (Some text) within = let quotes = text_short text in let short = within.within in omega arith

flag_room : (flag : Option Bool) → field_room (codes "noOp") (option_map boolean flag) ≤ 100
flag_room None = lit≤ tt
flag_room (Some flag) = omega (arith, flag_short flag)

report_short : (report : CompileReport) → IsAddress report.target.uri → IfSome report.origin_id (IsTextWithin origin_limit) → length (compact_text (compile_report_data report)) ≤ 40000
report_short report address within =
    through (object_short ((codes "target", Some (identifier_data report.target.uri)) ∷ (codes "originId", option_map string report.origin_id)
    ∷ (codes "errors", Some (count_data report.errors)) ∷ (codes "warnings", Some (count_data report.warnings)) ∷ (codes "noOp", option_map boolean report.no_op) ∷ []))
    (let target = identifier_short report.target.uri address in
    let origin = origin_room report.origin_id within in
    let errors = decimal_short report.errors in
    let warnings = decimal_short report.warnings in
    let flag = flag_room report.no_op in
    omega arith)

start_short : (id : Data) (message kind body : Option Data) → length (compact_text id) ≤ 2000 → field_room (codes "message") message ≤ 30000
    → field_room (codes "dataKind") kind ≤ 1000 → field_room (codes "data") body ≤ 50000
    → length (compact_text (object_with ((codes "taskId", Some id) ∷ (codes "message", message) ∷ (codes "dataKind", kind) ∷ (codes "data", body) ∷ []))) ≤ params_limit
start_short id message kind body a b c d =
    through (object_short ((codes "taskId", Some id) ∷ (codes "message", message) ∷ (codes "dataKind", kind) ∷ (codes "data", body) ∷ [])) (omega arith)

status_short : (status : StatusCode) → length (compact_text (status_data status)) ≤ 64
status_short statuses.Ok = decimal_short 1
status_short statuses.Error = decimal_short 2
status_short statuses.Cancelled = decimal_short 3

finish_short : (id : Data) (status : StatusCode) (kind body : Option Data) → length (compact_text id) ≤ 2000 → field_room (codes "dataKind") kind ≤ 1000
    → field_room (codes "data") body ≤ 50000
    → length (compact_text (object_with ((codes "taskId", Some id) ∷ (codes "status", Some (status_data status)) ∷ (codes "dataKind", kind) ∷ (codes "data", body) ∷ []))) ≤ params_limit
finish_short id status kind body a b c =
    through (object_short ((codes "taskId", Some id) ∷ (codes "status", Some (status_data status)) ∷ (codes "dataKind", kind) ∷ (codes "data", body) ∷ []))
    (omega (arith, status_short status))

-- ---- the messages

framed_start : (p : TaskStartParams) → has_float (task_start_params_data p) ≡ false → length (compact_text (task_start_params_data p)) ≤ params_limit → IsFramed (start_said p)
unfolding start_said
framed_start p exact short = framed_notice (codes "build/taskStart") (task_start_params_data p) refl refl (lit≤ tt) exact short

framed_finish : (p : TaskFinishParams) → has_float (task_finish_params_data p) ≡ false → length (compact_text (task_finish_params_data p)) ≤ params_limit → IsFramed (finish_said p)
unfolding finish_said
framed_finish p exact short = framed_notice (codes "build/taskFinish") (task_finish_params_data p) refl refl (lit≤ tt) exact short

pub framed_build_starts : (n : ℕ) → IsFramed (build_starts n)
framed_build_starts n =
    framed_start _ refl (start_short (task_id_data (task_id n whole)) None None None (task_id_short n whole) (lit≤ tt) (lit≤ tt) (lit≤ tt))

pub framed_target_starts : (n i : ℕ) (target : List ℕ) → IsAddress target → IsFramed (target_starts n i target)
framed_target_starts n i target address =
    framed_start _ refl
    (start_short (task_id_data (task_id n (compiling i))) None (Some (string (codes "compile-task"))) (Some (compile_task_data (record { target = record { uri = target } })))
    (task_id_short n (compiling i)) (lit≤ tt) (omega (arith, text_short (codes "compile-task"))) (omega (arith, task_short target address)))

pub framed_check_starts : (n j i : ℕ) (document : List ℕ) → IsAddress document → IsFramed (check_starts n j i document)
framed_check_starts n j i document address =
    framed_start _ refl
    (start_short (task_id_data (task_id n (checking j i))) (Some (string document)) None None (task_id_short n (checking j i))
    (let text = text_short document in let short = address.short in omega arith) (lit≤ tt) (lit≤ tt))

pub framed_check_finishes : (n j i : ℕ) (status : StatusCode) → IsFramed (check_finishes n j i status)
framed_check_finishes n j i status =
    framed_finish _ refl (finish_short (task_id_data (task_id n (checking j i))) status None None (task_id_short n (checking j i)) (lit≤ tt) (lit≤ tt))

report_exact : (report : CompileReport) (origin : Option (List ℕ)) (flag : Option Bool) → has_float (compile_report_data (record report { origin_id = origin; no_op = flag })) ≡ false
report_exact report None None = refl
report_exact report None (Some flag) = refl
report_exact report (Some text) None = refl
report_exact report (Some text) (Some flag) = refl

pub framed_target_finishes : (n i : ℕ) (report : CompileReport) → IsAddress report.target.uri → IfSome report.origin_id (IsTextWithin origin_limit) → IsFramed (target_finishes n i report)
framed_target_finishes n i report address within =
    framed_finish _ (rw (report_exact report report.origin_id report.no_op) refl)
    (finish_short (task_id_data (task_id n (compiling i))) (report_status report) (Some (string (codes "compile-report"))) (Some (compile_report_data report))
    (task_id_short n (compiling i)) (omega (arith, text_short (codes "compile-report"))) (omega (arith, report_short report address within)))

pub framed_build_finishes : (n : ℕ) (status : StatusCode) → IsFramed (build_finishes n status)
framed_build_finishes n status =
    framed_finish _ refl (finish_short (task_id_data (task_id n whole)) status None None (task_id_short n whole) (lit≤ tt) (lit≤ tt))

pub framed_target_cancelled : (n i : ℕ) → IsFramed (target_cancelled n i)
framed_target_cancelled n i =
    framed_finish _ refl
    (finish_short (task_id_data (task_id n (compiling i))) statuses.Cancelled None None (task_id_short n (compiling i)) (lit≤ tt) (lit≤ tt))
