-- What a request is owed: at its take, at the head of the queue, and once its files were handed out.
use Rattle.std.specs.Prelude.{◌==◌, ◌+◌, ℕ, ℤ, negsuc, List, [], ◌∷◌, ◌++◌, codes, decimal, Bool, true, false, Option, Some, None, is_some, Result, Ok, Err, if◌then◌else◌}
use Rattle.std.specs.Cmp.Lexicographic.{pointwise}
use Rattle.std.specs.Ordering.{int_eq}
use Rattle.ob_text.specs.declared.held.Held.{Held}
use Rattle.bsp_records.specs.Requests.{method_named, request_in}
use Rattle.rpc_peer.specs.Meaning.{invalid_request, parse_error}
use Rattle.bsp_records.specs.declared.identifiers.BuildTargetIdentifier.{BuildTargetIdentifier}
use Rattle.bsp_records.specs.declared.requests.Method.{Method}
use Rattle.bsp_records.specs.declared.requests.Method.TheVariants as methods
use Rattle.bsp_records.specs.declared.requests.Request.{Request}
use Rattle.bsp_records.specs.declared.requests.Request.TheVariants as requests
use Rattle.target_graph.specs.Address.{root_at}
use Rattle.target_graph.specs.Workspace.{Space, named}
use Rattle.target_graph.specs.declared.fault.FaultKind.{FaultKind}
use Rattle.target_graph.specs.declared.fault.FaultKind.TheVariants as kinds
use Rattle.ob_text.specs.Held.{Entries}
use Rattle.session_law.specs.Questions.{Question, all_targets, sources_of, inverse_of}
use Rattle.serde_json.specs.Data.{Data, boolean, string, array, object, item, no_items, member, no_members}

abbrev pub is_named : List ℕ → List ℕ → Bool
is_named name method = pointwise ◌==◌ name method

-- ---- codes and their messages (JSON-RPC 2.0, section 5.1)

abbrev pub method_not_found : ℤ
method_not_found = negsuc 32600

abbrev pub sources_unreadable : ℤ
sources_unreadable = negsuc 32602

abbrev pub invalid_params : ℤ
invalid_params = negsuc 32601

-- RequestCancelled (Language Server Protocol 3.17, ErrorCodes)
abbrev pub request_cancelled : ℤ
request_cancelled = negsuc 32799

-- a code of this server's own
abbrev pub workspace_refused : ℤ
workspace_refused = negsuc 32009

-- ServerNotInitialized (Language Server Protocol 3.17, ErrorCodes)
abbrev pub not_initialized : ℤ
not_initialized = negsuc 32001

-- the message beside a code that is answered with the id null
unfoldable pub null_message : ℤ → List ℕ
null_message code = if int_eq code parse_error then codes "parse error" else codes "invalid request"

-- ---- what initialize is answered

abbrev pub languages : Data
languages = array (item (string (codes "oberon")) no_items)

abbrev pub provider : Data
provider = object (member (codes "languageIds") languages no_members)

abbrev pub capabilities : Data
capabilities =
    object (member (codes "buildTargetChangedProvider") (boolean true)
    (member (codes "canReload") (boolean true)
    (member (codes "compileProvider") provider
    (member (codes "inverseSourcesProvider") (boolean true)
    (member (codes "runProvider") provider
    (member (codes "testProvider") provider no_members))))))

unfoldable pub initialize_result : Data
initialize_result =
    object (member (codes "bspVersion") (string (codes "2.2.0"))
    (member (codes "capabilities") capabilities
    (member (codes "displayName") (string (codes "oberon-bsp"))
    (member (codes "version") (string (codes "1.0.0")) no_members))))

-- ---- why a workspace is refused

abbrev pub kind_text : FaultKind → List ℕ
kind_text kinds.NoFile = codes "NoFile"
kind_text kinds.BadJson = codes "BadJson"
kind_text kinds.BadField = codes "BadField"
kind_text kinds.TooMany = codes "TooMany"
kind_text kinds.NameTwice = codes "NameTwice"
kind_text kinds.UnknownDependency = codes "UnknownDependency"
kind_text kinds.DependencyCycle = codes "DependencyCycle"
kind_text kinds.StemTwice = codes "StemTwice"

-- a name stands behind a blank, where there is one
abbrev pub name_behind : List ℕ → List ℕ
name_behind [] = []
name_behind (byte ∷ name) = codes " " ++ byte ∷ name

abbrev pub refused_message : FaultKind → List ℕ → List ℕ
refused_message kind name = codes "workspace refused: " ++ (kind_text kind ++ name_behind name)

-- ---- what a request is owed: judged by its shape as it is taken, in the queue by its targets as it comes to the head,
-- ---- and once its files were handed out

-- What a compile is of: targets of the workspace in force, by their index in its file, and the `originId`
-- that was sent with it.
pub record Build : Type 0 where
  pub space : Space
  pub asked : List ℕ
  pub origin : Option (List ℕ)

-- What a request of the queue asks for.
pub data Call : Type 0 where
  -- a compile of these targets, with the `originId` that was sent with it
  to_build : List BuildTargetIdentifier → Option (List ℕ) → Call
  -- a reload
  to_reload : Call
  -- a cleaning of what is kept of these targets
  to_clean : List BuildTargetIdentifier → Call

-- What an open request is owed. At its take it is answered at once, or waits for files, or waits in the queue.
pub data Verdict : Type 0 where
  -- at once: a question about this workspace
  answering : Space → Question → Verdict
  -- a shutdown that closes the session
  closing : Verdict
  -- a refusal with this code and message
  refusal : ℤ → List ℕ → Verdict
  -- for files: an initialize with this root, that wants the workspace file
  asking : List ℕ → Verdict
  -- the same, once this was handed out for the file
  opening : List ℕ → Held → Verdict
  -- in the queue: it is judged by its targets as it comes to the head
  queued : Call → Verdict
  -- a compile that was taken up and wants its documents
  building : Build → Verdict
  -- the same, once they were handed out
  built : Build → Entries → Verdict
  -- a reload that was taken up where this workspace is in force, and wants the workspace file
  rereading : Space → Verdict
  -- the same, once this was handed out for the file
  reloading : Space → Held → Verdict
  -- a cleaning that was taken up, of these targets of this workspace, by their index in its file
  cleaning : Space → List ℕ → Verdict

-- the path of the workspace file
unfoldable pub workspace_path : List ℕ
workspace_path = codes "oberon-build.json"

-- the request can't be served, since the tree failed
abbrev pub unreadable : Verdict
unreadable = refusal sources_unreadable (codes "sources unreadable")

-- the params are bad at this path
abbrev pub bad_at : List ℕ → Verdict
bad_at path = refusal invalid_params (codes "invalid params: " ++ path)

-- ---- lists of targets

-- the path of the target that stands at this index of a list
unfoldable pub target_path : ℕ → List ℕ
target_path index = codes "targets[" ++ (decimal index ++ codes "].uri")

-- the targets that a list names, or the index of the first address that names none
pub data Found : Type 0 where
  all_found : List ℕ → Found
  unknown_at : ℕ → Found

abbrev pub found_first : Option ℕ → ℕ → Found → Found
found_first None index others = unknown_at index
found_first (Some target) index (all_found targets) = all_found (target ∷ targets)
found_first (Some target) index (unknown_at later) = unknown_at later

abbrev pub found_from : Space → ℕ → List BuildTargetIdentifier → Found
found_from space index [] = all_found []
found_from space index (id ∷ ids) = found_first (named space id.uri) index (found_from space (index + 1) ids)

-- ---- at its take: whether it may come, then the shape of its params, then what it asks

-- a request that comes before an initialize was answered with a result
abbrev pub too_early : Verdict
too_early = refusal not_initialized (codes "server not initialized")

-- one that comes behind an answered shutdown, or an initialize behind another
abbrev pub too_late : Verdict
too_late = refusal invalid_request (codes "invalid request")

-- an initialize needs a root
abbrev pub rooted : Option (List ℕ) → Verdict
rooted None = bad_at (codes "rootUri")
rooted (Some root) = asking root

abbrev pub sourced : Space → Found → Verdict
sourced space (all_found targets) = answering space (sources_of targets)
sourced space (unknown_at index) = bad_at (target_path index)

-- what a request asks where no workspace is in force
abbrev pub first_asked : Request → Verdict
first_asked (requests.Initialize p) = rooted (root_at p.root_uri)
first_asked request = too_early

-- What a request asks of the workspace in force. One of the queue waits in it, whichever targets it names.
abbrev pub asked_of : Space → Request → Verdict
asked_of space (requests.Initialize p) = too_late
asked_of space requests.Shutdown = closing
asked_of space requests.BuildTargets = answering space all_targets
asked_of space requests.Reload = queued to_reload
asked_of space (requests.Sources p) = sourced space (found_from space 0 p.targets)
asked_of space (requests.InverseSources p) = answering space (inverse_of p.text_document.uri)
asked_of space (requests.Compile p) = queued (to_build p.targets p.origin_id)
asked_of space (requests.CleanCache p) = queued (to_clean p.targets)

abbrev pub asked_in : Option Space → Request → Verdict
asked_in None request = first_asked request
asked_in (Some space) request = asked_of space request

abbrev pub read_in : Option Space → Result Request (List ℕ) → Verdict
read_in force (Err path) = bad_at path
read_in force (Ok request) = asked_in force request

abbrev pub is_initialize : Option Method → Bool
is_initialize (Some methods.Initialize) = true
is_initialize method = false

-- its method has to be known
abbrev pub known_in : Space → Option Method → Option Data → Verdict
known_in space None params = refusal method_not_found (codes "method not found")
known_in space (Some method) params = read_in (Some space) (request_in method params)

-- nothing is served behind an answered shutdown
abbrev pub served_in : Option Space → Option Method → Option Data → Bool → Verdict
served_in None method params closed = too_early
served_in (Some space) method params closed = if closed then too_late else known_in space method params

-- Before an initialize was answered with a result no workspace is in force and nothing else is served, and behind it no
-- other initialize.
abbrev pub verdict_for : Option Method → Option Data → Option Space → Bool → Verdict
verdict_for method params force closed =
    if is_initialize method then (if is_some force then too_late else read_in None (request_in methods.Initialize params))
    else served_in force method params closed

abbrev pub verdict : List ℕ → Option Data → Option Space → Bool → Verdict
verdict name params force closed = verdict_for (method_named name) params force closed

-- ---- at the head of the queue: its targets

abbrev pub found_build : Space → Option (List ℕ) → Found → Verdict
found_build space origin (all_found targets) = building (record { space = space; asked = targets; origin = origin })
found_build space origin (unknown_at index) = bad_at (target_path index)

abbrev pub found_clean : Space → Found → Verdict
found_clean space (all_found targets) = cleaning space targets
found_clean space (unknown_at index) = bad_at (target_path index)

-- what a call is owed that is taken up in this workspace
abbrev pub taken_up : Call → Space → Verdict
taken_up (to_build targets origin) space = found_build space origin (found_from space 0 targets)
taken_up to_reload space = rereading space
taken_up (to_clean targets) space = found_clean space (found_from space 0 targets)

abbrev pub taken_in : Option Space → Call → Verdict
taken_in (Some space) call = taken_up call space
taken_in None call = queued call

-- what the request at the head is owed, by the workspace in force
abbrev pub due_in : Option Space → Verdict → Verdict
due_in force (queued call) = taken_in force call
due_in force v = v
