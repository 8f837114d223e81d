-- The messages of the server are printed in one way, and fit a frame.
use Rattle.std.proofs.Common.{◌≡◌, ◌≤◌, ◌++◌, ℕ, suc, ◌+◌, ◌*◌, cond, lit≤, IfSome, ◌<◌, ◌^◌, ℤ, pos, negsuc, List, [], ◌∷◌, length, Bool, true, false, Some, None, decimal, refl, arith, length-append}
use Rattle.std.specs.Prelude.{codes, FitsSigned, Option}
use Rattle.std.specs.Int.{w64}
use Rattle.std.specs.Ordering.{int_eq}
use Rattle.std.specs.Str.{IsAscii, IsUtf8}
use Rattle.std.proofs.lemmas.Str.{IsUtf8-append, IsUtf8-from_ascii}
use Rattle.std.proofs.lemmas.Int.{ints}
use Rattle.std.proofs.lemmas.Fmt.{length-decimal-le}
use Rattle.json.specs.Print.{quoted}
use Rattle.serde_json.specs.View.{view}
use Rattle.serde_json.specs.Data.{Data, null, number, object, Members, member, no_members, string}
use Rattle.serde_json.specs.Find.{of_integer}
use Rattle.serde_json.specs.Written.{compact_text, members_text, comma_if, has_float}
use Rattle.serde_json.proofs.OnLiterals.{serde_json_on_literals}
use Rattle.rpc_peer.specs.declared.message.Id.{Id}
use Rattle.rpc_peer.specs.declared.message.Id.TheVariants.{Number, Text}
use Rattle.rpc_peer.specs.Said.{Said, IsId, HasText, id_data, id_limit, answered_data, error_data, version, body_of, result, failure}
use Rattle.rpc_frame.specs.Limits.{content_limit}
use Rattle.bsp_records.specs.Results.{clean_cache_result_data, compile_result_data, status_data}
use Rattle.bsp_records.specs.declared.results.StatusCode.{StatusCode}
use Rattle.bsp_records.specs.declared.results.StatusCode.TheVariants as statuses
use Rattle.json_shape.specs.Shapes.{IsTextWithin}
use Rattle.bsp_records.specs.ShortAnswers.{answer_limit}
use Rattle.bsp_records.proofs.ShortLaws.{length_member, text_short}
use Rattle.bsp_records.specs.Limits.{origin_limit}
use Rattle.session_law.specs.Builds.{build_said, build_status, cancelled_said}
use Rattle.session_law.specs.CancelsForCause.{refused_cancelled}
use Rattle.session_law.specs.IsFramed.{IsFramed}
use Rattle.session_law.specs.Methods.{initialize_result, null_message, kind_text, name_behind}
use Rattle.rpc_peer.specs.Meaning.{parse_error}
use Rattle.session_verdicts.specs.Judging.{reason_code, reason_text, IsPrinted, IsSaid}
use Rattle.session_verdicts.specs.declared.verdicts.Answer.{Answer}
use Rattle.session_verdicts.specs.declared.verdicts.Answer.TheVariants.{Result, Opening, Closing, Refused}
use Rattle.session_verdicts.specs.declared.verdicts.Reason.{Reason}
use Rattle.session_verdicts.specs.declared.verdicts.Reason.TheVariants as reasons
use Rattle.target_graph.specs.declared.fault.FaultKind.{FaultKind}
use Rattle.target_graph.specs.declared.fault.FaultKind.TheVariants.{NoFile, BadJson, BadField, TooMany, NameTwice, UnknownDependency, DependencyCycle, StemTwice}
use Rattle.ob_text.proofs.AsciiLaws.{graphic_ascii, text_from_test}

-- ---- how long the text of a value is

length_object : (k : List ℕ) (d : Data) (ms : Members)
    → length (compact_text (object (member k d ms))) ≡ suc (length (quoted k) + suc (length (compact_text d) + length (members_text true ms)))
length_object k d ms = let first : length (comma_if false) ≡ 0 = refl in let whole = length_member false k d ms in omega arith

length_members : (k : List ℕ) (d : Data) (ms : Members)
    → length (members_text true (member k d ms)) ≡ suc (length (quoted k) + suc (length (compact_text d) + length (members_text true ms)))
length_members k d ms = let later : length (comma_if true) ≡ 1 = refl in let whole = length_member true k d ms in omega arith

number_short : (z : ℤ) → FitsSigned w64 z → length (compact_text (number (of_integer z))) ≤ 20
number_short (pos n) h = let small : n < 2 ^ 63 = omega (arith, ints) in length-decimal-le 20 n (omega arith) (omega arith) (omega arith)
number_short (negsuc n) h =
    let small : n < 2 ^ 63 = omega (arith, ints) in
    let digits : length (decimal (suc n)) ≤ 19 = length-decimal-le 19 (suc n) (omega arith) (omega arith) (omega arith) in
    omega (arith, digits)

-- the most bytes of an id's text
abbrev id_text_limit : ℕ
id_text_limit = 6 * id_limit + 2

id_short : (id : Id) → IsId id → length (compact_text (id_data id)) ≤ id_text_limit
id_short (Number n) h = let short = number_short n h in omega (arith, short)
id_short (Text t) h = omega (arith, text_short t, h.1)

answered_short : (id : Option Id) → IfSome id IsId → length (compact_text (answered_data id)) ≤ id_text_limit
answered_short None h = lit≤ tt
answered_short (Some id) h = id_short id h

-- ---- what the text of each response is made of

id_key : length (quoted (codes "id")) ≡ 4
unfolding serde_json_on_literals
id_key = refl

error_key : length (quoted (codes "error")) ≡ 7
unfolding serde_json_on_literals
error_key = refl

code_key : length (quoted (codes "code")) ≡ 6
unfolding serde_json_on_literals
code_key = refl

abbrev behind_id : Data → Members
behind_id value = member (codes "jsonrpc") version (member (codes "result") value no_members)

abbrev behind_failed_id : Members
behind_failed_id = member (codes "jsonrpc") version no_members

behind_opening : length (members_text true (behind_id initialize_result)) ≤ 400
unfolding serde_json_on_literals initialize_result
behind_opening = lit≤ tt

behind_closing : length (members_text true (behind_id null)) ≤ 400
unfolding serde_json_on_literals
behind_closing = lit≤ tt

behind_failure : length (members_text true behind_failed_id) ≤ 20
unfolding serde_json_on_literals
behind_failure = lit≤ tt

-- ---- they hold no number that is printed in more ways than one, and their texts are UTF-8

integer_exact : (z : ℤ) → has_float (number (of_integer z)) ≡ false
integer_exact (pos n) = refl
integer_exact (negsuc n) = refl

id_exact : (id : Id) → has_float (id_data id) ≡ false
id_exact (Number n) = integer_exact n
id_exact (Text t) = refl

id_text : (id : Id) → IsId id → HasText id
id_text (Number n) h = tt
id_text (Text t) h = h.0

either_text : (b : Bool) → IsUtf8 (cond b (codes "parse error") (codes "invalid request"))
either_text true = text_from_test (codes "parse error") refl
either_text false = text_from_test (codes "invalid request") refl

-- ---- the responses

result_fits : (id : Id) (value : Data) → IsId id → length (members_text true (behind_id value)) ≤ 16500000 → length (body_of (result (Some id) value)) ≤ content_limit
unfolding body_of
result_fits id value h short =
    let whole = length_object (codes "id") (id_data id) (behind_id value) in
    let front = id_key in
    let middle = id_short id h in
    omega arith

framed_opening : (id : Id) → IsId id → IsFramed (result (Some id) initialize_result)
unfolding initialize_result
framed_opening id h =
    record { of_server = tt; texts = id_text id h; exact = rw (id_exact id); fits = result_fits id initialize_result h (omega (arith, behind_opening)) }

framed_closing : (id : Id) → IsId id → IsFramed (result (Some id) null)
framed_closing id h = record { of_server = tt; texts = id_text id h; exact = rw (id_exact id); fits = result_fits id null h (omega (arith, behind_closing)) }

-- ---- the response to a compile

abbrev compiled : Option (List ℕ) → StatusCode → Data
compiled origin status = compile_result_data (record { origin_id = origin; status_code = status })

compiled_exact : (origin : Option (List ℕ)) (status : StatusCode) → has_float (compiled origin status) ≡ false
unfolding serde_json_on_literals
compiled_exact None statuses.Ok = refl
compiled_exact None statuses.Error = refl
compiled_exact None statuses.Cancelled = refl
compiled_exact (Some text) statuses.Ok = refl
compiled_exact (Some text) statuses.Error = refl
compiled_exact (Some text) statuses.Cancelled = refl

status_key : length (quoted (codes "statusCode")) ≡ 12
unfolding serde_json_on_literals
status_key = refl

status_short : (status : StatusCode) → length (compact_text (status_data status)) ≤ 20
status_short statuses.Ok = number_short (pos 1) (omega (arith, ints))
status_short statuses.Error = number_short (pos 2) (omega (arith, ints))
status_short statuses.Cancelled = number_short (pos 3) (omega (arith, ints))

behind_origin : (status : StatusCode) → length (members_text true (member (codes "statusCode") (status_data status) no_members)) ≤ 40
behind_origin status =
    let whole = length_members (codes "statusCode") (status_data status) no_members in
    let key = status_key in
    let number = status_short status in
    let last : length (members_text true no_members) ≤ 1 = lit≤ tt in
    omega arith

without_origin : (status : StatusCode) → length (compact_text (object (member (codes "statusCode") (status_data status) no_members))) ≤ 7000
without_origin status =
    let whole = length_object (codes "statusCode") (status_data status) no_members in
    let key = status_key in
    let number = status_short status in
    let last : length (members_text true no_members) ≤ 1 = lit≤ tt in
    omega arith

origin_key : length (quoted (codes "originId")) ≡ 10
unfolding serde_json_on_literals
origin_key = refl

with_origin : (text : List ℕ) (status : StatusCode) → length text ≤ origin_limit
    → length (compact_text (object (member (codes "originId") (string text) (member (codes "statusCode") (status_data status) no_members)))) ≤ 7000
with_origin text status short =
    let whole = length_object (codes "originId") (string text) (member (codes "statusCode") (status_data status) no_members) in
    let quotes = text_short text in
    let key = origin_key in
    let last = behind_origin status in
    omega arith

compiled_short : (origin : Option (List ℕ)) (status : StatusCode) → IfSome origin (IsTextWithin origin_limit) → length (compact_text (compiled origin status)) ≤ 7000
unfolding serde_json_on_literals
compiled_short None statuses.Ok short = without_origin statuses.Ok
compiled_short None statuses.Error short = without_origin statuses.Error
compiled_short None statuses.Cancelled short = without_origin statuses.Cancelled
compiled_short (Some text) statuses.Ok short = with_origin text statuses.Ok short.within
compiled_short (Some text) statuses.Error short = with_origin text statuses.Error short.within
compiled_short (Some text) statuses.Cancelled short = with_origin text statuses.Cancelled short.within

result_key : length (quoted (codes "result")) ≡ 8
unfolding serde_json_on_literals
result_key = refl

version_key : length (quoted (codes "jsonrpc")) ≡ 9
unfolding serde_json_on_literals
version_key = refl

version_short : length (compact_text version) ≤ 5
unfolding serde_json_on_literals
version_short = lit≤ tt

behind_value : (value : Data) (limit : ℕ) → length (compact_text value) ≤ limit → length (members_text true (behind_id value)) ≤ limit + 100
behind_value value limit short =
    let whole = length_members (codes "jsonrpc") version (member (codes "result") value no_members) in
    let rest = length_members (codes "result") value no_members in
    let first = version_key in
    let second = result_key in
    let middle = version_short in
    let last : length (members_text true no_members) ≤ 1 = lit≤ tt in
    omega arith

-- ---- the response to a question

pub framed_result : (id : Id) (value : Data) → IsId id → IsPrinted value → IsFramed (result (Some id) value)
framed_result id value h printed =
    record {
      of_server = tt;
      texts = id_text id h;
      exact = rw (id_exact id, printed.exact);
      fits = result_fits id value h (let behind = behind_value value answer_limit printed.short in omega arith);
    }

compiled_framed : (id : Id) (origin : Option (List ℕ)) (status : StatusCode) → IsId id → IfSome origin (IsTextWithin origin_limit) → IsFramed (result (Some id) (compiled origin status))
compiled_framed id origin status h short =
    record {
      of_server = tt;
      texts = id_text id h;
      exact = rw (id_exact id, compiled_exact origin status);
      fits = result_fits id (compiled origin status) h (let behind = behind_value (compiled origin status) 7000 (compiled_short origin status short) in omega arith);
    }

pub framed_build : (id : Id) (origin : Option (List ℕ)) (failed : Bool) → IsId id → IfSome origin (IsTextWithin origin_limit) → IsFramed (build_said id origin failed)
unfolding build_said
framed_build id origin failed h short = compiled_framed id origin (build_status failed) h short

pub framed_cancelled : (id : Id) (origin : Option (List ℕ)) → IsId id → IfSome origin (IsTextWithin origin_limit) → IsFramed (cancelled_said id origin)
unfolding cancelled_said
framed_cancelled id origin h short = compiled_framed id origin statuses.Cancelled h short

-- a failure whose error object is short fits
failure_fits : (id : Option Id) (code : ℤ) (text : List ℕ) → length (compact_text (answered_data id)) ≤ id_text_limit
    → length (compact_text (error_data code text)) ≤ 40000 → length (body_of (failure id code text)) ≤ content_limit
unfolding body_of
failure_fits id code text answered short =
    let whole = length_object (codes "error") (error_data code text) (member (codes "id") (answered_data id) behind_failed_id) in
    let rest = length_members (codes "id") (answered_data id) behind_failed_id in
    let first = error_key in
    let second = id_key in
    let last = behind_failure in
    omega arith

message_key : length (quoted (codes "message")) ≡ 9
unfolding serde_json_on_literals
message_key = refl

error_short : (code : ℤ) (text : List ℕ) → FitsSigned w64 code → length text ≤ 6000 → length (compact_text (error_data code text)) ≤ 40000
error_short code text h short =
    let whole = length_object (codes "code") (number (of_integer code)) (member (codes "message") (string text) no_members) in
    let message = length_members (codes "message") (string text) no_members in
    let quotes = text_short text in
    let key = code_key in
    let second = message_key in
    let digits = number_short code h in
    omega arith

-- a refusal whose message is short
framed_refusal : (id : Id) (code : ℤ) (text : List ℕ) → IsId id → FitsSigned w64 code → IsUtf8 text → length text ≤ 6000 → IsFramed (failure (Some id) code text)
framed_refusal id code text h fits plain short =
    record {
      of_server = tt;
      texts = (id_text id h, plain);
      exact = rw (id_exact id, integer_exact code);
      fits = failure_fits (Some id) code text (id_short id h) (error_short code text fits short);
    }

-- ---- the message of each refusal is short, and plain

kind_plain : (kind : FaultKind) → IsUtf8 (kind_text kind)
kind_plain NoFile = text_from_test (codes "NoFile") refl
kind_plain BadJson = text_from_test (codes "BadJson") refl
kind_plain BadField = text_from_test (codes "BadField") refl
kind_plain TooMany = text_from_test (codes "TooMany") refl
kind_plain NameTwice = text_from_test (codes "NameTwice") refl
kind_plain UnknownDependency = text_from_test (codes "UnknownDependency") refl
kind_plain DependencyCycle = text_from_test (codes "DependencyCycle") refl
kind_plain StemTwice = text_from_test (codes "StemTwice") refl

kind_short : (kind : FaultKind) → length (kind_text kind) ≤ 20
kind_short NoFile = lit≤ tt
kind_short BadJson = lit≤ tt
kind_short BadField = lit≤ tt
kind_short TooMany = lit≤ tt
kind_short NameTwice = lit≤ tt
kind_short UnknownDependency = lit≤ tt
kind_short DependencyCycle = lit≤ tt
kind_short StemTwice = lit≤ tt

behind_plain : (name : List ℕ) → IsAscii name → IsUtf8 (name_behind name)
behind_plain [] plain = text_from_test [] refl
behind_plain (byte ∷ name) plain = IsUtf8-append (codes " ") (byte ∷ name) (text_from_test (codes " ") refl) (IsUtf8-from_ascii (byte ∷ name) plain)

behind_short : (name : List ℕ) → length (name_behind name) ≤ 1 + length name
behind_short [] = lit≤ tt
behind_short (byte ∷ name) = omega arith

code_fits : (reason : Reason) → FitsSigned w64 (reason_code reason)
code_fits reasons.ServerNotInitialized = omega (arith, ints)
code_fits reasons.InvalidRequest = omega (arith, ints)
code_fits reasons.MethodNotFound = omega (arith, ints)
code_fits (reasons.InvalidParams path) = omega (arith, ints)
code_fits reasons.InternalError = omega (arith, ints)
code_fits (reasons.WorkspaceRefused fault) = omega (arith, ints)
code_fits reasons.RequestCancelled = omega (arith, ints)

framed_reason : (id : Id) (reason : Reason) → IsId id → IsSaid (Refused reason) → IsFramed (failure (Some id) (reason_code reason) (reason_text reason))
framed_reason id reasons.ServerNotInitialized h said = framed_refusal id _ _ h (code_fits reasons.ServerNotInitialized) (text_from_test (codes "server not initialized") refl) (lit≤ tt)
framed_reason id reasons.InvalidRequest h said = framed_refusal id _ _ h (code_fits reasons.InvalidRequest) (text_from_test (codes "invalid request") refl) (lit≤ tt)
framed_reason id reasons.MethodNotFound h said = framed_refusal id _ _ h (code_fits reasons.MethodNotFound) (text_from_test (codes "method not found") refl) (lit≤ tt)
framed_reason id (reasons.InvalidParams path) h said =
    framed_refusal id _ _ h (code_fits (reasons.InvalidParams path))
    (IsUtf8-append (codes "invalid params: ") path (text_from_test (codes "invalid params: ") refl) (IsUtf8-from_ascii path said.ascii))
    (let l = length-append (codes "invalid params: ") path in let s = said.short in omega (arith, l, s))
framed_reason id reasons.InternalError h said = framed_refusal id _ _ h (code_fits reasons.InternalError) (text_from_test (codes "sources unreadable") refl) (lit≤ tt)
framed_reason id (reasons.WorkspaceRefused fault) h said =
    framed_refusal id _ _ h (code_fits (reasons.WorkspaceRefused fault))
    (IsUtf8-append (codes "workspace refused: ") (kind_text fault.kind ++ name_behind fault.name) (text_from_test (codes "workspace refused: ") refl)
    (IsUtf8-append (kind_text fault.kind) (name_behind fault.name) (kind_plain fault.kind) (behind_plain fault.name (graphic_ascii fault.name said.graphic))))
    (let l = length-append (codes "workspace refused: ") (kind_text fault.kind ++ name_behind fault.name) in
    let m = length-append (kind_text fault.kind) (name_behind fault.name) in
    let k = kind_short fault.kind in
    let n = behind_short fault.name in
    let s = said.short in
    omega (arith, l, m, k, n, s))
framed_reason id reasons.RequestCancelled h said = framed_refusal id _ _ h (code_fits reasons.RequestCancelled) (text_from_test (codes "request cancelled") refl) (lit≤ tt)

null_short : (b : Bool) → length (cond b (codes "parse error") (codes "invalid request")) ≤ 6000
null_short true = lit≤ tt
null_short false = lit≤ tt

pub framed_unread : (code : ℤ) → FitsSigned w64 code → IsFramed (failure None code (null_message code))
unfolding null_message
framed_unread code h =
    let parse : Bool = int_eq code parse_error in
    record {
      of_server = tt;
      texts = (tt, either_text parse);
      exact = rw (integer_exact code);
      fits = failure_fits None code _ (lit≤ tt) (error_short code _ h (null_short parse));
    }

pub framed_refused_cancelled : (id : Id) → IsId id → IsFramed (refused_cancelled id)
unfolding refused_cancelled
framed_refused_cancelled id h = framed_reason id reasons.RequestCancelled h tt

-- ---- the response to a cleaning

cleaned_exact : has_float (clean_cache_result_data (record { cleaned = true })) ≡ false
unfolding serde_json_on_literals
cleaned_exact = refl

cleaned_short : length (compact_text (clean_cache_result_data (record { cleaned = true }))) ≤ answer_limit
unfolding serde_json_on_literals
cleaned_short = lit≤ tt

pub framed_cleaned : (id : Id) → IsId id → IsFramed (result (Some id) (clean_cache_result_data (record { cleaned = true })))
framed_cleaned id h = framed_result id (clean_cache_result_data (record { cleaned = true })) h (record { exact = cleaned_exact; short = cleaned_short })

pub framed_null : (id : Id) → IsId id → IsFramed (result (Some id) null)
framed_null id h = framed_closing id h

-- the response that gives a request this answer
abbrev pub answer_to : Id → Answer → Said
answer_to id (Result value) = result (Some id) (view value)
answer_to id (Opening space) = result (Some id) initialize_result
answer_to id Closing = result (Some id) null
answer_to id (Refused reason) = failure (Some id) (reason_code reason) (reason_text reason)

pub framed_answer : (id : Id) (answer : Answer) → IsId id → IsSaid answer → IsFramed (answer_to id answer)
framed_answer id (Result value) h said = framed_result id (view value) h said
framed_answer id (Opening space) h said = framed_opening id h
framed_answer id Closing h said = framed_closing id h
framed_answer id (Refused reason) h said = framed_reason id reason h said
