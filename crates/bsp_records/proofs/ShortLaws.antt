-- How long records print at most.
use Rattle.std.proofs.Common.{◌≡◌, ◌≤◌, ◌<◌, ◌+◌, ◌*◌, ◌/◌, ◌%◌, ◌++◌, ◌∙◌, ℕ, suc, List, [], ◌∷◌, length, map, flat_map, take, Bool, true, false, cond, ltb, Option, Some, None, option_map, lit≤, sym, ap, subst, arith, length-append}
use Rattle.std.specs.Prelude.{codes}
use Rattle.std.specs.Char.{digit_char, is_ascii}
use Rattle.std.specs.List.{All, prefix_len}
use Rattle.std.specs.Option.{IfSome}
use Rattle.std.specs.Ordering.{match_ordering, nat_cmp}
use Rattle.std.specs.declared.cmp.Ordering.{Ordering}
use Rattle.std.specs.declared.cmp.Ordering.TheVariants.{Less, Equal, Greater}
use Rattle.std.specs.Cmp.Lexicographic.{slice_cmp}
use Rattle.std.proofs.Math.Nat.{add-mul}
use Rattle.std.proofs.lemmas.Fmt.{length-decimal-le}
use Rattle.std.proofs.lemmas.List.{length-take}
use Rattle.std.proofs.lemmas.List.Elements.{All-head, All-tail}
use Rattle.ob_text.specs.Code.{name_of, message_of}
use Rattle.ob_text.specs.declared.code.Code.{Code}
use Rattle.ob_text.specs.declared.code.Code.TheVariants.{DocumentAbsent}
use Rattle.ob_text.specs.declared.diagnostic.Diagnostic.{Diagnostic}
use Rattle.ob_text.specs.declared.position.Position.{Position}
use Rattle.ob_text.specs.declared.position.Range.{Range}
use Rattle.json.specs.Print.{quoted, escape, escape_byte, escape_letter}
use Rattle.serde_json.specs.Data.{Data, unsigned, number, string, boolean, Members, member, no_members, put}
use Rattle.serde_json.specs.View.{items_of}
use Rattle.serde_json.specs.Written.{compact_text, items_text, members_text, comma_if}
use Rattle.bsp_records.specs.Diagnostics.{position_data, range_data, severity_data, diagnostic_data, publish_diagnostics_params_data}
use Rattle.bsp_records.specs.Identifiers.{identifier_data}
use Rattle.ob_text.specs.Ascii.{IsWithin}
use Rattle.bsp_address.specs.Address.{address_limit, IsAddress}
use Rattle.bsp_records.specs.Short.{IsShortPosition, IsShortRecord, IsShortPublication, publication_limit}
use Rattle.bsp_records.specs.Shown.{name_shown, shown, shown_message}
use Rattle.bsp_records.specs.Writing.{with_member, with_members, object_with, array_with}
use Rattle.bsp_records.specs.declared.diagnostics.DiagnosticRecord.{DiagnosticRecord}
use Rattle.bsp_records.specs.declared.diagnostics.DiagnosticSeverity.{DiagnosticSeverity}
use Rattle.bsp_records.specs.declared.diagnostics.DiagnosticSeverity.TheVariants.{Error, Warning, Information, Hint}
use Rattle.bsp_records.specs.Limits.{origin_limit}
use Rattle.bsp_records.specs.declared.publishing.PublishDiagnosticsParams.{PublishDiagnosticsParams}

through : {a b c : ℕ} → a ≤ b → b ≤ c → a ≤ c
through h k = omega arith

-- ---- texts and numbers

pub cond_short : (b : Bool) (limit : ℕ) (xs ys : List ℕ) → length xs ≤ limit → length ys ≤ limit → length (cond b xs ys) ≤ limit
cond_short true limit xs ys h k = h
cond_short false limit xs ys h k = k

-- what is printed for a control character that has no letter
abbrev pub coded : ℕ → List ℕ
coded b = 92 ∷ 117 ∷ 48 ∷ 48 ∷ digit_char (b / 16) ∷ digit_char (b % 16) ∷ []

escaped_byte : (b : ℕ) → length (escape_byte b) ≤ 6
unfolding escape_byte
escaped_byte b =
    cond_short (ltb 0 (escape_letter b)) 6 (92 ∷ escape_letter b ∷ []) (cond (ltb b 32) (coded b) (b ∷ [])) (lit≤ tt)
    (cond_short (ltb b 32) 6 (coded b) (b ∷ []) (lit≤ tt) (lit≤ tt))

pub escaped : (text : List ℕ) → length (escape text) ≤ 6 * length text
escaped [] = lit≤ tt
escaped (b ∷ text) = rw (length-append (escape_byte b) (escape text)) (omega (arith, escaped_byte b, escaped text))

pub text_short : (text : List ℕ) → length (quoted text) ≤ 6 * length text + 2
text_short text = rw (length-append (escape text) (34 ∷ [])) (omega (arith, escaped text))

pub number_short : (n : ℕ) → n < 4294967296 → length (compact_text (number (unsigned n))) ≤ 10
number_short n small = length-decimal-le 10 n (omega arith) (omega arith) (omega arith)

-- ---- objects

pub length_member : (later : Bool) (k : List ℕ) (d : Data) (ms : Members)
    → length (members_text later (member k d ms)) ≡ length (comma_if later) + (length (quoted k) + suc (length (compact_text d) + length (members_text true ms)))
length_member later k d ms =
    length-append (comma_if later) _
    ∙ ap (λ n. length (comma_if later) + n) (length-append (quoted k) _ ∙ ap (λ n. length (quoted k) + suc n) (length-append (compact_text d) (members_text true ms)))

pub comma_short : (later : Bool) → length (comma_if later) ≤ 1
comma_short true = lit≤ tt
comma_short false = lit≤ tt

by_order : (o : Ordering) (later : Bool) (a b c : Members) (n : ℕ) → length (members_text later a) ≤ n → length (members_text later b) ≤ n → length (members_text later c) ≤ n
    → length (members_text later (match_ordering o a b c)) ≤ n
by_order Less later a b c n x y z = x
by_order Equal later a b c n x y z = y
by_order Greater later a b c n x y z = z

-- the most bytes that one more member adds
abbrev pub member_room : List ℕ → Data → ℕ
member_room name d = 6 * length name + (length (compact_text d) + 4)

pub put_short : (later : Bool) (k : List ℕ) (d : Data) (ms : Members) → length (members_text later (put k d ms)) ≤ member_room k d + length (members_text later ms)
put_short later k d no_members =
    let whole = length_member later k d no_members in
    let key = text_short k in
    let comma = comma_short later in
    omega arith
put_short later k d (member l e ms) =
    let key = text_short k in
    let comma = comma_short later in
    let old = length_member later l e ms in
    let inner = length_member true l e ms in
    let before = length_member later k d (member l e ms) in
    let instead = length_member later l d ms in
    let behind = length_member later l e (put k d ms) in
    let more = put_short true k d ms in
    by_order (slice_cmp nat_cmp k l) later (member k d (member l e ms)) (member l d ms) (member l e (put k d ms))
    (member_room k d + length (members_text later (member l e ms))) (omega arith) (omega arith) (omega arith)

abbrev pub field_room : List ℕ → Option Data → ℕ
field_room name None = 0
field_room name (Some d) = member_room name d

abbrev pub room : List (List ℕ × Option Data) → ℕ
room [] = 0
room (field ∷ fields) = field_room field.0 field.1 + room fields

with_member_short : (name : List ℕ) (value : Option Data) (ms : Members) → length (members_text false (with_member name value ms)) ≤ field_room name value + length (members_text false ms)
with_member_short name None ms = omega arith
with_member_short name (Some d) ms = put_short false name d ms

with_members_short : (fields : List (List ℕ × Option Data)) (ms : Members) → length (members_text false (with_members fields ms)) ≤ room fields + length (members_text false ms)
with_members_short [] ms = omega arith
with_members_short (field ∷ fields) ms =
    let one = with_member_short field.0 field.1 ms in
    let others = with_members_short fields (with_member field.0 field.1 ms) in
    omega arith

pub object_short : (fields : List (List ℕ × Option Data)) → length (compact_text (object_with fields)) ≤ room fields + 2
object_short fields = let all = with_members_short fields no_members in omega arith

-- ---- lists

-- the most bytes that the items add, each with a comma before it
abbrev pub items_room : List Data → ℕ
items_room [] = 0
items_room (d ∷ ds) = suc (length (compact_text d)) + items_room ds

items_short : (later : Bool) (ds : List Data) → length (items_text later (items_of ds)) ≤ items_room ds + 1
items_short later [] = lit≤ tt
items_short later (d ∷ ds) =
    let others = items_short true ds in
    let comma = comma_short later in
    let whole = length-append (comma_if later) (compact_text d ++ items_text true (items_of ds)) in
    let behind = length-append (compact_text d) (items_text true (items_of ds)) in
    omega arith

pub array_short : (ds : List Data) → length (compact_text (array_with ds)) ≤ items_room ds + 2
array_short ds = let items = items_short false ds in omega arith

-- a list of things, each of which takes less than some bytes of its own and some for each of its parts
pub parts_room : {X Y : Type 0} (to_data : X → Data) (parts : X → List Y) (P : X → Type 0) (each own : ℕ)
    → ((x : X) → P x → length (compact_text (to_data x)) < length (parts x) * each + own)
    → (xs : List X) → All P xs → items_room (map to_data xs) ≤ length (flat_map parts xs) * each + length xs * own
parts_room to_data parts P each own one [] all = omega arith
parts_room to_data parts P each own one (x ∷ xs) all =
    let first = one x (All-head P x xs all) in
    let others = parts_room to_data parts P each own one xs (All-tail P x xs all) in
    let joined = ap (λ n. n * each) (length-append (parts x) (flat_map parts xs)) in
    let apart = add-mul (length (parts x)) (length (flat_map parts xs)) each in
    let one_more = add-mul 1 (length xs) own in
    omega arith

abbrev no_parts : List Data
no_parts = []

pub list_room : {X : Type 0} (to_data : X → Data) (P : X → Type 0) (own : ℕ) → ((x : X) → P x → length (compact_text (to_data x)) < own)
    → (xs : List X) → All P xs → items_room (map to_data xs) ≤ length xs * own
list_room {X} to_data P own one xs all =
    let items = parts_room to_data (λ (x : X). no_parts) P 0 own (λ x h. omega (arith, one x h)) xs all in
    omega arith

-- ---- records

position_short : (p : Position) → IsShortPosition p → length (compact_text (position_data p)) ≤ 150
position_short p short =
    through (object_short ((codes "line", Some (number (unsigned p.line))) ∷ (codes "character", Some (number (unsigned p.character))) ∷ []))
    (omega (arith, number_short p.line short.line, number_short p.character short.character))

range_short : (r : Range) → IsShortPosition r.start → IsShortPosition r.end → length (compact_text (range_data r)) ≤ 400
range_short r start end =
    through (object_short ((codes "start", Some (position_data r.start)) ∷ (codes "end", Some (position_data r.end)) ∷ []))
    (omega (arith, position_short r.start start, position_short r.end end))

severity_short : (s : DiagnosticSeverity) → length (compact_text (severity_data s)) ≤ 10
severity_short Error = number_short 1 (omega arith)
severity_short Warning = number_short 2 (omega arith)
severity_short Information = number_short 3 (omega arith)
severity_short Hint = number_short 4 (omega arith)

severity_room : (found : Option DiagnosticSeverity) → field_room (codes "severity") (option_map severity_data found) ≤ 70
severity_room None = lit≤ tt
severity_room (Some s) = omega (arith, severity_short s)

-- a member that is a text, and may be absent
text_room : (name : List ℕ) (limit : ℕ) (found : Option (List ℕ)) → IfSome found (IsWithin limit) → field_room name (option_map string found) ≤ 6 * length name + (6 * limit + 6)
text_room name limit None within = omega arith
text_room name limit (Some text) within = omega (arith, text_short text, within)

-- the most bytes of a diagnostic
abbrev record_room : ℕ
record_room = 3000

diagnostic_short : (r : DiagnosticRecord) → IsShortRecord r → length (compact_text (diagnostic_data r)) ≤ record_room
diagnostic_short r short =
    through (object_short ((codes "range", Some (range_data r.range)) ∷ (codes "severity", option_map severity_data r.severity) ∷ (codes "code", option_map string r.code)
    ∷ (codes "source", option_map string r.source) ∷ (codes "message", Some (string r.message)) ∷ []))
    (let range = range_short r.range short.start short.end in
    let severity = severity_room r.severity in
    let code = text_room (codes "code") 40 r.code short.code in
    let source = text_room (codes "source") 10 r.source short.source in
    let message = text_room (codes "message") 200 (Some r.message) short.message in
    omega arith)

identifier_short : (uri : List ℕ) → IsAddress uri → length (compact_text (identifier_data uri)) ≤ 26500
identifier_short uri short =
    through (object_short ((codes "uri", Some (string uri)) ∷ [])) (let text = text_room (codes "uri") address_limit (Some uri) short.short in omega arith)

pub flag_short : (b : Bool) → length (compact_text (boolean b)) ≤ 5
flag_short true = lit≤ tt
flag_short false = lit≤ tt

pub publication_short : (p : PublishDiagnosticsParams) → IsShortPublication p → length (compact_text (publish_diagnostics_params_data p)) ≤ publication_limit
publication_short p short =
    through (object_short ((codes "textDocument", Some (identifier_data p.text_document.uri)) ∷ (codes "buildTarget", Some (identifier_data p.build_target.uri))
    ∷ (codes "originId", option_map string p.origin_id) ∷ (codes "diagnostics", Some (array_with (map diagnostic_data p.diagnostics))) ∷ (codes "reset", Some (boolean p.reset)) ∷ []))
    (let document = identifier_short p.text_document.uri short.document in
    let target = identifier_short p.build_target.uri short.target in
    let origin = text_room (codes "originId") origin_limit p.origin_id short.origin in
    let few = short.count in
    let items = list_room diagnostic_data IsShortRecord (suc record_room) (λ r short. omega (arith, diagnostic_short r short)) p.diagnostics short.diagnostics in
    let list = array_short (map diagnostic_data p.diagnostics) in
    let flag = flag_short p.reset in
    omega arith)

-- what is written for a short publication prints in a part of a frame
pub prints_short : (d : Data) (p : PublishDiagnosticsParams) → d ≡ publish_diagnostics_params_data p → IsShortPublication p → length (compact_text d) ≤ publication_limit
prints_short d p is short = subst (λ e. length (compact_text e) ≤ publication_limit) (sym is) (publication_short p short)

-- ---- a diagnostic of a text as the protocol has it

name_short : (code : Code) → IsWithin 40 (name_of code)
unfolding name_of
name_short DocumentAbsent = lit≤ tt
name_short _ = lit≤ tt

text_of_code_short : (code : Code) → IsWithin 60 (message_of code)
unfolding message_of
text_of_code_short DocumentAbsent = lit≤ tt
text_of_code_short _ = lit≤ tt

name_within : (name : Option (List ℕ)) → IsWithin 64 (name_shown name)
name_within None = lit≤ tt
name_within (Some name) =
    let whole = length-take 64 name in
    let front = length-take (prefix_len is_ascii (take 64 name)) (take 64 name) in
    omega (arith, whole, front)

message_short : (text : List ℕ) (name : Option (List ℕ)) → IsWithin 60 text → IsWithin 200 (shown_message text name)
message_short text name short = omega (arith, length-append text (name_shown name), name_within name)

pub shown_short : (d : Diagnostic) (r : DiagnosticRecord) → r ≡ shown d → IsShortPosition d.range.start → IsShortPosition d.range.end → IsShortRecord r
shown_short d r is start end =
    subst IsShortRecord (sym is)
    (record {
      start = start;
      end = end;
      code = name_short d.code;
      source = lit≤ tt;
      message = message_short (message_of d.code) d.name (text_of_code_short d.code);
    })
