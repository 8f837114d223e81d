-- What a client shows once publications were written as messages.
use Rattle.std.proofs.Common.{◌≡◌, ◌≢◌, lit≤, ◌<◌, ◌≤◌, ◌++◌, ◌&&◌, ℕ, List, [], ◌∷◌, length, get_or, take, map, Bool, true, false, Option, Some, None, refl, sym, ap, ◌∙◌, arith}
use Rattle.std.specs.Prelude.{codes, if◌then◌else◌}
use Rattle.std.specs.List.{All, AllPairs, list_any}
use Rattle.std.specs.Str.{bytes_eq}
use Rattle.std.proofs.lemmas.List.{get_or-map, get_or_default, get_or-take, length-map, length-take-le}
use Rattle.std.proofs.lemmas.List.Elements.{All-nil, All-head, All-tail, All-cons}
use Rattle.std.proofs.lemmas.Slice.Eq.{bytes_eq-Decides}
use Rattle.std.specs.Option.{IfSome}
use Rattle.serde_json.specs.Written.{compact_text, has_float}
use Rattle.bsp_records.specs.Diagnostics.{publish_diagnostics_params_data}
use Rattle.json_shape.specs.Shapes.{IsTextWithin}
use Rattle.ob_text.specs.Ascii.{IsWithin}
use Rattle.bsp_records.proofs.PublicationLaws.{publication_exact}
use Rattle.bsp_records.proofs.ShortLaws.{publication_short}
use Rattle.bsp_records.specs.Short.{IsShortPublication, publication_limit}
use Rattle.bsp_records.specs.Shown.{shown}
use Rattle.bsp_records.specs.Table as tables
use Rattle.bsp_records.specs.Table.{Table, is_about, published}
use Rattle.bsp_records.specs.declared.diagnostics.DiagnosticRecord.{DiagnosticRecord}
use Rattle.bsp_records.specs.declared.publishing.PublishDiagnosticsParams.{PublishDiagnosticsParams}
use Rattle.ob_text.specs.Code.{severity_of}
use Rattle.ob_text.specs.declared.diagnostic.Diagnostic.{Diagnostic}
use Rattle.rpc_peer.specs.Said.{Said}
use Rattle.session_law.specs.Builds.{Finding, Publishes, Shows, is_error_severity, publication_in, publication_said, published_if, shown_by, table_behind}
use Rattle.session_law.proofs.NoticeLaws.{framed_notice}
use Rattle.session_law.specs.IsFramed.{IsFramed}
use Rattle.session_law.specs.declared.BuildDocument.{BuildDocument}
use Rattle.build_messages.specs.Publishing.{IsPublication, IsPublishedOne}
use Rattle.build_messages.proofs.RoundTrip.{publication_back}
use Rattle.task_stream.specs.Pieces.{pieces}
use Rattle.task_stream.specs.Showing.{is_at}
use Rattle.task_stream.specs.declared.shown.TableKey.{TableKey}

-- ---- one message after another

said_shows : (p : PublishDiagnosticsParams) (table : Table) → shown_by (publication_said p) table ≡ published p table
said_shows p table = ap (λ q. published q table) (publication_back p)

-- messages of publications show what the publications do
pub all_shown : (ps : List PublishDiagnosticsParams) (table : Table) → table_behind (map publication_said ps) table ≡ tables.table_with ps table
all_shown [] table = refl
all_shown (p ∷ ps) table = ap (table_behind (map publication_said ps)) (said_shows p table) ∙ all_shown ps (published p table)

-- ---- tables that show the same

abbrev pub Same : Table → Table → Type 0
Same a b = (document target : List ℕ) → a document target ≡ b document target

if_same : (o : Option PublishDiagnosticsParams) (a b : Table) → Same a b → Same (published_if o a) (published_if o b)
if_same None a b same document target = same document target
if_same (Some p) a b same document target =
    ap (λ (list : List DiagnosticRecord). if is_about p document target then (if p.reset then p.diagnostics else list ++ p.diagnostics) else list) (same document target)

pub table_same : (messages : List Said) (a b : Table) → Same a b → Same (table_behind messages a) (table_behind messages b)
table_same [] a b same = same
table_same (m ∷ messages) a b same = table_same messages (shown_by m a) (shown_by m b) (if_same (publication_in m) a b same)

-- what is published is the same where the tables show the same
pub publishes_same : (a b : Table) (origin : Option (List ℕ)) (finding : Finding) (messages : List Said) → Same a b → Publishes a origin finding messages → Publishes b origin finding messages
publishes_same a b origin finding messages same publishes = record {
  same = λ shows. publishes.same (same finding.document.key.document finding.document.key.target ∙ shows);
  other = λ differs. publishes.other (λ shows. differs (sym (same finding.document.key.document finding.document.key.target) ∙ shows));
}

-- ---- a further document

abbrev pub IsApart : BuildDocument → BuildDocument → Type 0
IsApart it earlier = is_at it.key earlier.key.document earlier.key.target ≡ false

-- what was shown of the earlier documents still is
pub shows_on : (mid new : Table) (it : BuildDocument) (findings : List Finding) → ((document target : List ℕ) → is_at it.key document target ≡ false → new document target ≡ mid document target)
    → All (λ (f : Finding). IsApart it f.document) findings → All (Shows mid) findings → All (Shows new) findings
shows_on mid new it findings elsewhere apart shows k d h =
    elsewhere _ _ (apart k d h) ∙ shows k d h

pub at_itself : (a : TableKey) → is_at a a.document a.target ≡ true
at_itself a = ap (λ x. x && bytes_eq a.target a.target) ((bytes_eq-Decides a.document a.document).1 refl) ∙ (bytes_eq-Decides a.target a.target).1 refl

-- ---- which keys are apart

key_same : (a b : TableKey) → a.document ≡ b.document → a.target ≡ b.target → a ≡ b
key_same a b document target = rw (document, target) refl

pub apart_at : (a b : TableKey) → (a ≡ b → ⊥) → is_at a b.document b.target ≡ false
apart_at a b differs = by_tests (bytes_eq a.document b.document) (bytes_eq a.target b.target) refl refl
  where
    by_tests : (d t : Bool) → bytes_eq a.document b.document ≡ d → bytes_eq a.target b.target ≡ t → is_at a b.document b.target ≡ false
    by_tests true true h k = absurd (differs (key_same a b ((bytes_eq-Decides a.document b.document).0 h) ((bytes_eq-Decides a.target b.target).0 k)))
    by_tests true false h k = ap (λ x. x && bytes_eq a.target b.target) h ∙ k
    by_tests false t h k = ap (λ x. x && bytes_eq a.target b.target) h

-- a document is apart from each before it
pub apart_before : (documents : List BuildDocument) (i : ℕ) (it : BuildDocument) → i < length documents → it ≡ get_or documents i it → AllPairs ◌≢◌ (map (λ (p : BuildDocument). p.key) documents)
    → All (IsApart it) (take i documents)
apart_before documents i it h e distinct k d k_in =
    let size : length (map (λ (p : BuildDocument). p.key) documents) ≡ length documents = length-map documents (λ (p : BuildDocument). p.key) in
    let front : length (take i documents) ≡ i = length-take-le i documents (omega arith) in
    let below : k < i = omega (arith, front) in
    let earlier : BuildDocument = get_or (take i documents) k d in
    let is : earlier ≡ get_or documents k it = get_or-take i documents k d below ∙ get_or_default documents k d it (omega arith) in
    let this : get_or (map (λ (p : BuildDocument). p.key) documents) i it.key ≡ it.key =
    get_or-map (λ (p : BuildDocument). p.key) documents i it it.key h ∙ ap (λ (p : BuildDocument). p.key) (sym e) in
    let that : get_or (map (λ (p : BuildDocument). p.key) documents) k it.key ≡ earlier.key =
    get_or-map (λ (p : BuildDocument). p.key) documents k it it.key (omega arith) ∙ ap (λ (p : BuildDocument). p.key) (sym is) in
    apart_at it.key earlier.key (λ same. distinct k i it.key below (omega (arith, size)) (that ∙ (sym same ∙ sym this)))

-- ---- one document

notices_of : (ps : List PublishDiagnosticsParams) → All IsPublication (map publication_said ps)
notices_of [] = All-nil IsPublication
notices_of (p ∷ ps) = All-cons IsPublication (publication_said p) (map publication_said ps) refl (notices_of ps)

pub one_shown : (old new : Table) (it : BuildDocument) (origin : Option (List ℕ)) (list : List Diagnostic) (before after : List Said) (ps : List PublishDiagnosticsParams) (failed : Bool)
    → (old it.key.document it.key.target ≡ map shown list → ps ≡ [])
    → (old it.key.document it.key.target ≢ map shown list → ps ≡ pieces it.key origin (map shown list))
    → ((document target : List ℕ) → tables.table_with ps old document target ≡ (if is_at it.key document target then map shown list else old document target))
    → ((document target : List ℕ) → new document target ≡ (if is_at it.key document target then map shown list else old document target))
    → after ≡ before ++ map publication_said ps → All IsFramed (map publication_said ps)
    → failed ≡ list_any (λ (d : Diagnostic). is_error_severity (severity_of d.code)) list → IsPublishedOne old new it origin list before after failed
one_shown old new it origin list before after ps failed same other client table messages framed failed_is =
    record {
      own = map publication_said ps;
      publishes = record {
        same = λ shows. ap (map publication_said) (same shows);
        other = λ differs. ap (map publication_said) (other differs);
      };
      messages = messages;
      framed = framed;
      notices = notices_of ps;
      kept = λ document target.
          table document target ∙ (sym (client document target) ∙ ap (λ (t : Table). t document target) (sym (all_shown ps old)));
      shows = table it.key.document it.key.target
          ∙ ap (λ b. if b then map shown list else old it.key.document it.key.target) (at_itself it.key);
      elsewhere = λ document target apart. table document target ∙ ap (λ b. if b then map shown list else old document target) apart;
      failed_is = failed_is;
    }

-- ---- one publication fits a frame

pub origin_within : (origin : Option (List ℕ)) (limit : ℕ) → IfSome origin (IsTextWithin limit) → IfSome origin (IsWithin limit)
origin_within None limit h = tt
origin_within (Some text) limit h = h.within

framed_publication : (p : PublishDiagnosticsParams) → has_float (publish_diagnostics_params_data p) ≡ false
    → length (compact_text (publish_diagnostics_params_data p)) ≤ publication_limit → IsFramed (publication_said p)
framed_publication p exact short = framed_notice (codes "build/publishDiagnostics") (publish_diagnostics_params_data p) refl refl (lit≤ tt) exact (omega (arith, short))

-- each publication that is short is a message of the server
pub all_framed : (ps : List PublishDiagnosticsParams) → All IsShortPublication ps → All IsFramed (map publication_said ps)
all_framed [] all = All-nil IsFramed
all_framed (p ∷ ps) all =
    All-cons IsFramed (publication_said p) (map publication_said ps)
    (framed_publication p (publication_exact p) (publication_short p (All-head IsShortPublication p ps all)))
    (all_framed ps (All-tail IsShortPublication p ps all))
