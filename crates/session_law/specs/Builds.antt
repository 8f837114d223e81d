-- A build: the documents that it is of, what the clean build finds in them, and what is written of that.
use Rattle.std.specs.Prelude.{◌≡◌, ◌<◌, ◌++◌, Contains, ℕ, List, [], ◌∷◌, map, codes, Bool, true, false, not, Option, Some, None, if◌then◌else◌}
use Rattle.std.specs.List.{All, AllPairs, list_any, fold, slice_get, slice_index_or}
use Rattle.std.specs.Str.{bytes_eq}
use Rattle.ob_text.specs.Code.{severity_of}
use Rattle.ob_text.specs.Held.{Entries}
use Rattle.ob_text.specs.declared.code.Severity.{Severity}
use Rattle.ob_text.specs.declared.code.Severity.TheVariants.{Error, Warning}
use Rattle.ob_text.specs.declared.diagnostic.Diagnostic.{Diagnostic}
use Rattle.build_rules.specs.World.{World}
use Rattle.build_rules.specs.Views.{HasList}
use Rattle.bsp_records.specs.Diagnostics.{publish_diagnostics_params_in, publish_diagnostics_params_data}
use Rattle.bsp_records.specs.Results.{compile_result_data}
use Rattle.bsp_records.specs.Shown.{shown}
use Rattle.bsp_records.specs.Table.{Table, published}
use Rattle.bsp_records.specs.declared.diagnostics.DiagnosticRecord.{DiagnosticRecord}
use Rattle.bsp_records.specs.declared.publishing.PublishDiagnosticsParams.{PublishDiagnosticsParams}
use Rattle.bsp_records.specs.declared.results.StatusCode.{StatusCode}
use Rattle.bsp_records.specs.declared.results.StatusCode.TheVariants as statuses
use Rattle.rpc_peer.specs.Said.{Said, request, notification, result, failure}
use Rattle.rpc_peer.specs.declared.message.Id.{Id}
use Rattle.target_graph.specs.Address.{document_address}
use Rattle.target_graph.specs.Workspace.{Space, IsClosure, pairs_of, path_at, id_of}
use Rattle.target_graph.specs.declared.target.Pair.{Pair}
use Rattle.target_graph.specs.declared.target.Target.{Target}
use Rattle.task_stream.specs.Pieces.{pieces}
use Rattle.session_law.specs.Methods.{Build, is_named}
use Rattle.ob_text.specs.Once.{each_once}
use Rattle.session_law.specs.declared.BuildDocument.{BuildDocument}

-- ---- the documents that a build is of

-- the target of a pair
abbrev pub target_at : List Target → ℕ → ℕ
target_at targets q = slice_index_or (map (λ pair. pair.target) (pairs_of targets)) q 0

-- the document of a pair, in its target
abbrev pub build_document : Space → ℕ → BuildDocument
build_document space q =
    record {
      pair = q;
      path = path_at space.targets q;
      key = record { document = document_address space.root (path_at space.targets q); target = id_of space (target_at space.targets q) };
    }

-- the pair is one of these targets
pub record IsPairOf (targets : List Target) (closure : List ℕ) (q : ℕ) : Type 0 where
  pub pair : Pair
  pub there : slice_get (pairs_of targets) q ≡ Some pair
  pub among : Contains closure pair.target

-- The documents of the targets asked for and of all that they depend on: those of all their pairs, in the order of the
-- workspace file.
pub record AreDocuments (build : Build) (documents : List BuildDocument) : Type 0 where
  pub closure : List ℕ
  pub closed : IsClosure build.space.targets build.asked closure
  pub pairs : List ℕ
  pub ordered : AllPairs ◌<◌ pairs
  pub each : All (IsPairOf build.space.targets closure) pairs
  pub whole : (q : ℕ) → IsPairOf build.space.targets closure q → Contains pairs q
  pub are : documents ≡ map (build_document build.space) pairs

-- the paths that a build wants, each once
pub record WantsPaths (build : Build) (paths : List (List ℕ)) : Type 0 where
  pub documents : List BuildDocument
  pub of_build : AreDocuments build documents
  pub are : paths ≡ each_once bytes_eq (map (λ document. document.path) documents)

-- ---- what the clean build finds in what was handed out

-- the workspace of a build, and what was handed out of it
abbrev pub world_of : Space → Entries → World
world_of space entries = record { targets = space.targets; entries = entries }

-- a document with its diagnostics
pub record Finding : Type 0 where
  pub document : BuildDocument
  pub list : List Diagnostic

-- These are the diagnostics of the document in its target, by what was handed out for it and for all that it imports.
abbrev pub IsFound : World → Finding → Type 0
IsFound w finding = HasList w finding.document.pair finding.list

-- one of the documents of the build, with its diagnostics
pub record IsFindingOf (build : Build) (entries : Entries) (finding : Finding) : Type 0 where
  pub documents : List BuildDocument
  pub of_build : AreDocuments build documents
  pub there : Contains documents finding.document
  pub found : IsFound (world_of build.space entries) finding

-- each document of the build with its diagnostics, in order
pub record CleanBuild (build : Build) (entries : Entries) (findings : List Finding) : Type 0 where
  pub documents : AreDocuments build (map (λ finding. finding.document) findings)
  pub found : All (IsFound (world_of build.space entries)) findings

abbrev pub is_error_severity : Severity → Bool
is_error_severity Error = true
is_error_severity Warning = false

abbrev pub has_error : Finding → Bool
has_error finding = list_any (λ diagnostic. is_error_severity (severity_of diagnostic.code)) finding.list

-- the status of a build, which has an error or has none (Build Server Protocol 2.2, StatusCode)
abbrev pub build_status : Bool → StatusCode
build_status failed = if failed then statuses.Error else statuses.Ok

-- the response to a compile with this `originId`
unfoldable pub build_said : Id → Option (List ℕ) → Bool → Said
build_said id origin failed = result (Some id) (compile_result_data (record { origin_id = origin; status_code = build_status failed }))

-- the response to one that is cancelled
unfoldable pub cancelled_said : Id → Option (List ℕ) → Said
cancelled_said id origin = result (Some id) (compile_result_data (record { origin_id = origin; status_code = statuses.Cancelled }))

-- ---- what a client shows

-- what a message publishes, as a client reads it
abbrev pub publication_in : Said → Option PublishDiagnosticsParams
publication_in (notification method (Some params)) =
    if is_named (codes "build/publishDiagnostics") method then Some (publish_diagnostics_params_in params) else None
publication_in (notification method None) = None
publication_in (request id method params) = None
publication_in (result id value) = None
publication_in (failure id code text) = None

abbrev pub published_if : Option PublishDiagnosticsParams → Table → Table
published_if None table = table
published_if (Some p) table = published p table

-- what is shown once a message was written
abbrev pub shown_by : Said → Table → Table
shown_by m table = published_if (publication_in m) table

-- the same once these messages were written, the first of them first
abbrev pub table_behind : List Said → Table → Table
table_behind messages table = fold (λ shows m. shown_by m shows) table messages

-- ---- what is published

-- one publication as a message
abbrev pub publication_said : PublishDiagnosticsParams → Said
publication_said p = notification (codes "build/publishDiagnostics") (Some (publish_diagnostics_params_data p))

-- the list of a document as it is shown
abbrev pub records_of : List Diagnostic → List DiagnosticRecord
records_of list = map shown list

-- the table shows the document's list
abbrev pub Shows : Table → Finding → Type 0
Shows table finding = table finding.document.key.document finding.document.key.target ≡ records_of finding.list

-- a document's whole list, in its pieces
abbrev pub list_said : Option (List ℕ) → Finding → List Said
list_said origin finding = map publication_said (pieces finding.document.key origin (records_of finding.list))

-- what is published of one document: its list, unless the client shows it
pub record Publishes (table : Table) (origin : Option (List ℕ)) (finding : Finding) (messages : List Said) : Type 0 where
  pub same : Shows table finding → messages ≡ []
  pub other : ¬ (Shows table finding) → messages ≡ list_said origin finding

-- what is published of some documents, each at most once, one after the other
pub data PublishesSome (table : Table) (origin : Option (List ℕ)) : List Finding → List Said → Type 0 where
  none : PublishesSome table origin [] []
  one_more : {done : List Finding} {messages : List Said} (finding : Finding) (own : List Said) → PublishesSome table origin done messages
      → ¬ (Contains done finding) → Publishes (table_behind messages table) origin finding own → PublishesSome table origin (done ++ finding ∷ []) (messages ++ own)

abbrev pub goes_on_in : Option PublishDiagnosticsParams → Bool
goes_on_in None = false
goes_on_in (Some p) = not p.reset

-- the message publishes a piece of a list behind the first one
abbrev pub is_later_piece : Said → Bool
is_later_piece m = goes_on_in (publication_in m)

-- the message publishes a list, or a piece of one
abbrev pub is_publication : Said → Bool
is_publication (notification method params) = is_named (codes "build/publishDiagnostics") method
is_publication (request id method params) = false
is_publication (result id value) = false
is_publication (failure id code text) = false
