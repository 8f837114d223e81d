-- The requests that are open: what each is owed, which of them comes first, and how events change them.
use Rattle.std.specs.Prelude.{◌≡◌, ◌||◌, ◌&&◌, ℕ, ℤ, List, [], ◌∷◌, ◌++◌, codes, Bool, true, false, Option, Some, None, is_some, option_and_then, Result, Ok, Err, if◌then◌else◌}
use Rattle.json_shape.specs.Shapes.{at}
use Rattle.rpc_peer.specs.declared.message.Id.{Id}
use Rattle.rpc_peer.specs.Meaning.{id_in}
use Rattle.rpc_peer.specs.OpenIds.{same_id}
use Rattle.rpc_peer.specs.Said.{Said, request, notification, result, failure}
use Rattle.serde_json.specs.Data.{Data}
use Rattle.target_graph.specs.Workspace.{Space}
use Rattle.build_rules.specs.World.{handed_at}
use Rattle.session_law.specs.Builds.{WantsPaths}
use Rattle.session_law.specs.Methods.{Build, Verdict, asking, opening, queued, building, built, rereading, reloading, cleaning, answering, closing, refusal, verdict, due_in, unreadable, workspace_path, is_named}
use Rattle.ob_text.specs.Held.{Entries}

-- A request that is open: it was taken, wasn't refused with the id null, and has no response yet.
pub record Asked : Type 0 where
  pub id : Id
  -- the ordinal of its message among the frames of the input, from 1
  pub number : ℕ
  pub verdict : Verdict
  -- It is of the queue, and its cancel, a shutdown that closes the session, an exit or an end of the input was taken
  -- since.
  pub cancelled : Bool

-- what the open request with this id is owed
abbrev pub owed_to : Id → List Asked → Option Verdict
owed_to id [] = None
owed_to id (asked ∷ others) = if same_id id asked.id then Some asked.verdict else owed_to id others

abbrev pub is_open : Id → List Asked → Bool
is_open id requests = is_some (owed_to id requests)

-- the requests without the first that has this id
abbrev pub without : Id → List Asked → List Asked
without id [] = []
without id (asked ∷ others) = if same_id id asked.id then others else asked ∷ without id others

-- ---- the queue

-- The first request is judged by the workspace in force: so a request of the queue is taken up. Those behind it wait.
abbrev pub first_up : Option Space → List Asked → List Asked
first_up force [] = []
first_up force (asked ∷ others) = record asked { verdict = due_in force asked.verdict } ∷ others

-- a request that is owed this is of the queue
abbrev pub is_of_queue : Verdict → Bool
is_of_queue (queued call) = true
is_of_queue (building build) = true
is_of_queue (built build entries) = true
is_of_queue (rereading space) = true
is_of_queue (reloading space file) = true
is_of_queue (cleaning space targets) = true
is_of_queue (asking root) = false
is_of_queue (opening root file) = false
is_of_queue (answering space question) = false
is_of_queue closing = false
is_of_queue (refusal code text) = false

-- A build that was handed its documents.
pub record Active : Type 0 where
  pub id : Id
  -- the ordinal of its message
  pub number : ℕ
  pub build : Build
  pub entries : Entries

abbrev pub active_as : Asked → Verdict → Option Active
active_as asked (built build entries) = Some (record { id = asked.id; number = asked.number; build = build; entries = entries })
active_as asked v = None

-- the build that the first request is
abbrev pub active_of : List Asked → Option Active
active_of [] = None
active_of (asked ∷ others) = active_as asked asked.verdict

-- ---- marks

abbrev pub marked_if : Bool → Asked → Asked
marked_if cancels asked = record asked { cancelled = asked.cancelled || (cancels && is_of_queue asked.verdict) }

-- those requests of the queue are to be cancelled for which this holds
abbrev pub marked_where : (Asked → Bool) → List Asked → List Asked
marked_where cancels [] = []
marked_where cancels (asked ∷ others) = marked_if (cancels asked) asked ∷ marked_where cancels others

abbrev pub all_marked : List Asked → List Asked
all_marked requests = marked_where (λ asked. true) requests

-- the first request that is to be cancelled
abbrev pub first_marked : List Asked → Option Asked
first_marked [] = None
first_marked (asked ∷ others) = if asked.cancelled then Some asked else first_marked others

abbrev pub has_this_id : Option Id → Asked → Bool
has_this_id None asked = false
has_this_id (Some id) asked = same_id id asked.id

-- the id that a cancel names (Language Server Protocol 3.17, CancelParams)
abbrev pub cancelled_id : Option Data → Option Id
cancelled_id params = option_and_then (λ d. id_in (at (codes "id") d)) params

-- a notification cancels the request
abbrev pub cancels : List ℕ → Option Data → Asked → Bool
cancels method params asked =
    is_named (codes "build/exit") method || (is_named (codes "$/cancelRequest") method && has_this_id (cancelled_id params) asked)

abbrev pub is_closing : Verdict → Bool
is_closing closing = true
is_closing v = false

-- ---- what the tree is asked for

-- a request that is owed this wants these paths
abbrev pub Wants : Verdict → List (List ℕ) → Type 0
Wants (asking root) paths = paths ≡ workspace_path ∷ []
Wants (building build) paths = WantsPaths build paths
Wants (rereading space) paths = paths ≡ workspace_path ∷ []
Wants v paths = ⊥

-- the request wants these paths, and isn't to be cancelled
pub record IsWanted (asked : Asked) (paths : List (List ℕ)) : Type 0 where
  pub wants : Wants asked.verdict paths
  pub goes_on : asked.cancelled ≡ false

-- the first request wants these paths
abbrev pub WantedBy : List Asked → List (List ℕ) → Type 0
WantedBy [] paths = ⊥
WantedBy (asked ∷ others) paths = IsWanted asked paths

-- ---- the requests behind an event

-- One more request is open. A shutdown that closes the session cancels those of the queue.
abbrev pub joined : Asked → List Asked → List Asked
joined asked requests = marked_where (λ other. is_closing asked.verdict) requests ++ asked ∷ []

-- a body was taken that means this, as the message of this ordinal
abbrev pub opened_by : Result Said ℤ → ℕ → Option Space → Bool → List Asked → List Asked
opened_by (Ok (request id method params)) n force closed requests =
    if is_open id requests then requests
    else joined (record { id = id; number = n; verdict = verdict method params force closed; cancelled = false }) requests
opened_by (Ok (notification method params)) n force closed requests = marked_where (cancels method params) requests
opened_by (Ok (result id value)) n force closed requests = requests
opened_by (Ok (failure id code text)) n force closed requests = requests
opened_by (Err code) n force closed requests = requests

-- what the first request is owed once the tree answered
abbrev pub handed_over : Option Entries → Verdict → Verdict
handed_over None (asking root) = unreadable
handed_over (Some entries) (asking root) = opening root (handed_at entries workspace_path)
handed_over None (building build) = unreadable
handed_over (Some entries) (building build) = built build entries
handed_over None (rereading space) = unreadable
handed_over (Some entries) (rereading space) = reloading space (handed_at entries workspace_path)
handed_over handed v = v

-- the tree answered the first request, judged by the workspace in force
abbrev pub handed_by : Option Entries → List Asked → List Asked
handed_by handed [] = []
handed_by handed (asked ∷ others) = record asked { verdict = handed_over handed asked.verdict } ∷ others

-- a message was written
abbrev pub closed_by : Said → List Asked → List Asked
closed_by (result (Some id) value) requests = without id requests
closed_by (failure (Some id) code text) requests = without id requests
closed_by m requests = requests

-- what the open request is owed that a message answers with a result
abbrev pub granted_by : Said → List Asked → Option Verdict
granted_by (result (Some id) value) requests = owed_to id requests
granted_by m requests = None
