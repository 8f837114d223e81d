-- The course of a build: all that it tells before its answer, in order. First the build and the targets of its closure
-- start. Then documents are settled, one after another: each once all that it imports is, or is on a cycle. Where its check
-- is known the document is settled at once, and else a check starts, and the document is settled as that finishes. A
-- document that is settled has its list published, unless the client shows it. Last the targets are reported.
use Rattle.std.specs.Prelude.{◌≡◌, ◌≤◌, ◌⊎◌, ◌==◌, ◌++◌, ℕ, suc, List, [], ◌∷◌, length, map, filter, Bool, true, not, Option, Some, None, Contains, if◌then◌else◌}
use Rattle.std.specs.List.{list_any, slice_get, sum_by}
use Rattle.std.specs.Str.{bytes_eq}
use Rattle.bsp_records.specs.Table.{Table}
use Rattle.bsp_records.specs.declared.tasks.CompileReport.{CompileReport}
use Rattle.build_rules.specs.World.{Imports, IsCyclic}
use Rattle.ob_text.specs.Code.{severity_of}
use Rattle.ob_text.specs.declared.diagnostic.Diagnostic.{Diagnostic}
use Rattle.rpc_peer.specs.Said.{Said}
use Rattle.session_law.specs.Builds.{AreDocuments, CleanBuild, Finding, IsFound, Publishes, build_status, has_error, is_error_severity, table_behind}
use Rattle.session_law.specs.History.{Told, Due, IsTaskOf, Known, world_in}
use Rattle.session_law.specs.Requests.{Active}
use Rattle.session_law.specs.Tasks.{build_starts, target_starts, check_starts, check_finishes, target_finishes, build_finishes}
use Rattle.session_law.specs.declared.BuildDocument.{BuildDocument}
use Rattle.target_graph.specs.Workspace.{IsClosure, id_of}

-- What a course goes by: the build, the documents that it is of and the targets that they are in, the builds before it, the
-- newest first, and what the client showed as it began.
pub record Given : Type 0 where
  pub active : Active
  pub documents : List BuildDocument
  pub closure : List ℕ
  pub earlier : List Told
  pub table : Table

pub record AreGiven (g : Given) : Type 0 where
  pub documents : AreDocuments g.active.build g.documents
  pub closed : IsClosure g.active.build.space.targets g.active.build.asked g.closure

-- How far a build is, by the pairs of its documents.
pub record Stage : Type 0 where
  -- those whose checks started, in this order
  pub begun : List ℕ
  -- those that were looked at: their checks started or were known
  pub taken : List ℕ
  -- the documents that are settled, each with its list, in this order
  pub settled : List Finding

abbrev pub first_stage : Stage
first_stage = record { begun = []; taken = []; settled = [] }

abbrev pub pairs_in : List Finding → List ℕ
pairs_in findings = map (λ finding. finding.document.pair) findings

-- ---- which document is next

-- The document wasn't looked at yet, and all that it imports is settled or on a cycle.
pub record IsReady (g : Given) (s : Stage) (document : BuildDocument) : Type 0 where
  pub there : Contains g.documents document
  pub is_new : ¬ (Contains s.taken document.pair)
  pub clear : (q : ℕ) → Imports (world_in g.active) document.pair q → Contains (pairs_in s.settled) q ⊎ IsCyclic (world_in g.active) q

-- it is the first of those that are ready
pub record IsNext (g : Given) (s : Stage) (document : BuildDocument) : Type 0 where
  pub ready : IsReady g s document
  pub least : (other : BuildDocument) → IsReady g s other → document.pair ≤ other.pair

abbrev pub NoneIsNext : Given → Stage → Type 0
NoneIsNext g s = (document : BuildDocument) → ¬ (IsReady g s document)

-- ---- steps

abbrev pub with_known : Stage → Finding → Stage
with_known s finding = record s { taken = s.taken ++ finding.document.pair ∷ []; settled = s.settled ++ finding ∷ [] }

abbrev pub with_begun : Stage → BuildDocument → Stage
with_begun s document = record s { begun = s.begun ++ document.pair ∷ []; taken = s.taken ++ document.pair ∷ [] }

abbrev pub with_checked : Stage → Finding → Stage
with_checked s finding = record s { settled = s.settled ++ finding ∷ [] }

-- the targets start in their order, from this number on
abbrev pub targets_start : Given → ℕ → List ℕ → List Said
targets_start g i [] = []
targets_start g i (target ∷ targets) = target_starts g.active.number i (id_of g.active.build.space target) ∷ targets_start g (suc i) targets

abbrev pub all_start : Given → List Said
all_start g = build_starts g.active.number ∷ targets_start g 1 g.closure

-- the j-th check, counted from 1, is of this document and hasn't finished
pub record Runs (s : Stage) (document : BuildDocument) (j : ℕ) : Type 0 where
  pub before : ℕ
  pub there : slice_get s.begun before ≡ Some document.pair
  pub number_is : j ≡ suc before
  pub unfinished : ¬ (Contains (pairs_in s.settled) document.pair)

-- what the document's list is, and what is published of it behind these messages
pub record Settles (g : Given) (messages : List Said) (finding : Finding) (own : List Said) : Type 0 where
  pub there : Contains g.documents finding.document
  pub found : IsFound (world_in g.active) finding
  pub publishes : Publishes (table_behind messages g.table) g.active.build.origin finding own

-- What a build told so far, and how far it is then.
pub data Course (g : Given) : Stage → List Said → Type 0 where
  starts : Course g first_stage (all_start g)
  -- a document whose check is known
  known : {s : Stage} {messages : List Said} (finding : Finding) (own : List Said) → Course g s messages → IsNext g s finding.document
      → Known g.earlier g.active finding.document → Settles g messages finding own → Course g (with_known s finding) (messages ++ own)
  -- a check that is due starts
  begins : {s : Stage} {messages : List Said} (document : BuildDocument) (i : ℕ) → Course g s messages → IsNext g s document
      → Due g.earlier g.active document → IsTaskOf g.active document.key.target i
      → Course g (with_begun s document) (messages ++ check_starts g.active.number (suc (length s.begun)) i document.key.document ∷ [])
  -- one that started finishes, once no further document is ready
  checked : {s : Stage} {messages : List Said} (finding : Finding) (j i : ℕ) (own : List Said) → Course g s messages → NoneIsNext g s
      → Runs s finding.document j → IsTaskOf g.active finding.document.key.target i
      → Settles g (messages ++ check_finishes g.active.number j i (build_status (has_error finding)) ∷ []) finding own
      → Course g (with_checked s finding) (messages ++ check_finishes g.active.number j i (build_status (has_error finding)) ∷ own)

-- ---- reports

-- how many diagnostics of a list are errors, and how many are none
abbrev pub is_error : Diagnostic → Bool
is_error diagnostic = is_error_severity (severity_of diagnostic.code)

abbrev pub count_errors : List Diagnostic → ℕ
count_errors list = length (filter is_error list)

abbrev pub count_warnings : List Diagnostic → ℕ
count_warnings list = length (filter (λ diagnostic. not (is_error diagnostic)) list)

-- the documents of the target with this id
abbrev pub of_target : List ℕ → List Finding → List Finding
of_target id findings = filter (λ finding. bytes_eq finding.document.key.target id) findings

-- a check of the pair started
abbrev pub has_begun : Stage → ℕ → Bool
has_begun s pair = list_any (λ begun. begun == pair) s.begun

-- Of a target no check started. The protocol says so by `noOp`, which is left out else.
abbrev pub no_op_of : Stage → List Finding → Option Bool
no_op_of s findings = if list_any (λ finding. has_begun s finding.document.pair) findings then None else Some true

abbrev pub report_of : Given → Stage → List Finding → List ℕ → CompileReport
report_of g s findings id =
    record {
      target = record { uri = id };
      origin_id = g.active.build.origin;
      errors = sum_by (λ finding. count_errors finding.list) (of_target id findings);
      warnings = sum_by (λ finding. count_warnings finding.list) (of_target id findings);
      no_op = no_op_of s (of_target id findings);
    }

-- the targets are reported in their order, from this number on
abbrev pub targets_finish : Given → Stage → List Finding → ℕ → List ℕ → List Said
targets_finish g s findings i [] = []
targets_finish g s findings i (target ∷ targets) =
    target_finishes g.active.number i (report_of g s findings (id_of g.active.build.space target)) ∷ targets_finish g s findings (suc i) targets

abbrev pub all_finish : Given → Stage → List Finding → List Said
all_finish g s findings =
    targets_finish g s findings 1 g.closure ++ build_finishes g.active.number (build_status (list_any has_error findings)) ∷ []

-- Once all documents are settled the targets are reported, by what the clean build finds, and the build finishes.
pub record HasEnded (g : Given) (messages : List Said) : Type 0 where
  pub stage : Stage
  pub settling : List Said
  pub course : Course g stage settling
  pub all_settled : (document : BuildDocument) → Contains g.documents document → Contains (pairs_in stage.settled) document.pair
  pub findings : List Finding
  pub clean : CleanBuild g.active.build g.active.entries findings
  pub are : messages ≡ settling ++ all_finish g stage findings

-- a build tells this so far
pub data Tells (g : Given) (messages : List Said) : Type 0 where
  settling : (s : Stage) → Course g s messages → Tells g messages
  ended : HasEnded g messages → Tells g messages
