-- What is so of the requests that are open, at each moment of a lawful session: an initialize is open only where no workspace is
-- in force; one that was judged by the workspace in force is at the head; and those behind it changed nothing yet.
use Rattle.std.proofs.Common.{◌≡◌, ℕ, ℤ, List, [], ◌∷◌, Bool, true, false, All, Option, Some, None, Result, Ok, Err, is_some, refl, ap, subst}
use Rattle.std.specs.Prelude.{if◌then◌else◌}
use Rattle.std.proofs.lemmas.Bool.{false≢true}
use Rattle.std.proofs.lemmas.List.Elements.{All-append, All-cons, All-head, All-nil, All-tail}
use Rattle.bsp_records.specs.Requests.{method_named, request_in}
use Rattle.bsp_records.specs.Table.{Table}
use Rattle.bsp_records.specs.declared.requests.Method.{Method}
use Rattle.bsp_records.specs.declared.requests.Method.TheVariants as methods
use Rattle.bsp_records.specs.declared.requests.Request.{Request}
use Rattle.bsp_records.specs.declared.requests.Request.TheVariants as requests
use Rattle.ob_text.specs.Held.{Entries}
use Rattle.reload_rows.specs.Own.{ShowsOwn}
use Rattle.rpc_peer.specs.OpenIds.{same_id}
use Rattle.rpc_peer.specs.Said.{Said, request, notification, result, failure}
use Rattle.rpc_peer.specs.declared.message.Id.{Id}
use Rattle.serde_json.specs.Data.{Data}
use Rattle.session_law.specs.AnswersAtOnce.{MayWait, Waits}
use Rattle.session_law.specs.Methods.{Call, Found, Verdict, all_found, unknown_at, answering, asked_of, asking, building, built, cleaning, closing, due_in, first_asked, found_build, found_clean, found_from, is_initialize, known_in, opening, queued, read_in, refusal, reloading, rereading, rooted, served_in, sourced, taken_up, to_build, to_clean, to_reload, too_late, verdict, verdict_for}
use Rattle.session_law.specs.Requests.{Asked, cancels, handed_by, handed_over, first_up, is_closing, is_open, joined, marked_where, opened_by, without}
use Rattle.target_graph.specs.Address.{root_at}
use Rattle.target_graph.specs.Workspace.{Space}

-- ---- what is so of them

-- Of the request at the head. Where it is a reload that was handed its file, what was shown then is of that workspace.
abbrev pub Fits : Option Space → Table → Verdict → Type 0
Fits force hand (queued call) = is_some force ≡ true
Fits force hand (asking root) = force ≡ None
Fits force hand (opening root file) = force ≡ None
Fits force hand (building build) = force ≡ Some build.space
Fits force hand (built build entries) = force ≡ Some build.space
Fits force hand (rereading space) = force ≡ Some space
Fits force hand (reloading space file) = (force ≡ Some space) × ShowsOwn (Some space) hand
Fits force hand (cleaning space targets) = Unit {0}
Fits force hand (answering space question) = Unit {0}
Fits force hand closing = Unit {0}
Fits force hand (refusal code text) = Unit {0}

-- of one behind it
abbrev pub FitsBehind : Option Space → Verdict → Type 0
FitsBehind force (queued call) = is_some force ≡ true
FitsBehind force (answering space question) = Unit {0}
FitsBehind force closing = Unit {0}
FitsBehind force (refusal code text) = Unit {0}
FitsBehind force v = ⊥

abbrev pub IsBehind : Option Space → Asked → Type 0
IsBehind force asked = FitsBehind force asked.verdict

abbrev pub Stands : Option Space → Table → List Asked → Type 0
Stands force hand [] = Unit {0}
Stands force hand (asked ∷ others) = Fits force hand asked.verdict × All (IsBehind force) others

-- ---- at the head

-- one from behind may come to the head
pub comes_up : (force : Option Space) (hand : Table) (v : Verdict) → FitsBehind force v → Fits force hand v
comes_up force hand (queued call) fits = fits
comes_up force hand (answering space question) fits = tt
comes_up force hand closing fits = tt
comes_up force hand (refusal code text) fits = tt
comes_up force hand (asking root) fits = absurd fits
comes_up force hand (opening root file) fits = absurd fits
comes_up force hand (building build) fits = absurd fits
comes_up force hand (built build entries) fits = absurd fits
comes_up force hand (rereading space) fits = absurd fits
comes_up force hand (reloading space file) fits = absurd fits
comes_up force hand (cleaning space targets) fits = absurd fits

pub all_come_up : (force : Option Space) (hand : Table) (requests : List Asked) → All (IsBehind force) requests → Stands force hand requests
all_come_up force hand [] all = tt
all_come_up force hand (asked ∷ others) all =
    (comes_up force hand asked.verdict (All-head (IsBehind force) asked others all), All-tail (IsBehind force) asked others all)

-- another workspace changes nothing of those behind
pub behind_anew : (force : Option Space) (space : Space) (v : Verdict) → FitsBehind force v → FitsBehind (Some space) v
behind_anew force space (queued call) fits = refl
behind_anew force space (answering s question) fits = tt
behind_anew force space closing fits = tt
behind_anew force space (refusal code text) fits = tt
behind_anew force space (asking root) fits = absurd fits
behind_anew force space (opening root file) fits = absurd fits
behind_anew force space (building build) fits = absurd fits
behind_anew force space (built build entries) fits = absurd fits
behind_anew force space (rereading s) fits = absurd fits
behind_anew force space (reloading s file) fits = absurd fits
behind_anew force space (cleaning s targets) fits = absurd fits

-- ---- it is judged

found_fits : (space : Space) (hand : Table) (origin : Option (List ℕ)) (found : Found) → Fits (Some space) hand (found_build space origin found)
found_fits space hand origin (all_found targets) = refl
found_fits space hand origin (unknown_at index) = tt

cleaned_fits : (space : Space) (hand : Table) (found : Found) → Fits (Some space) hand (found_clean space found)
cleaned_fits space hand (all_found targets) = tt
cleaned_fits space hand (unknown_at index) = tt

taken_fits : (space : Space) (hand : Table) (call : Call) → Fits (Some space) hand (taken_up call space)
taken_fits space hand (to_build targets origin) = found_fits space hand origin (found_from space 0 targets)
taken_fits space hand to_reload = refl
taken_fits space hand (to_clean targets) = cleaned_fits space hand (found_from space 0 targets)

pub due_fits : (force : Option Space) (hand : Table) (v : Verdict) → Fits force hand v → Fits force hand (due_in force v)
due_fits None hand (queued call) fits = fits
due_fits (Some space) hand (queued call) fits = taken_fits space hand call
due_fits force hand (asking root) fits = fits
due_fits force hand (opening root file) fits = fits
due_fits force hand (building build) fits = fits
due_fits force hand (built build entries) fits = fits
due_fits force hand (rereading space) fits = fits
due_fits force hand (reloading space file) fits = fits
due_fits force hand (cleaning space targets) fits = fits
due_fits force hand (answering space question) fits = fits
due_fits force hand closing fits = fits
due_fits force hand (refusal code text) fits = fits

-- and the tree answers it, where this is shown
pub handed_fits : (force : Option Space) (hand table : Table) → ShowsOwn force table → (handed : Option Entries) (v : Verdict) → Fits force hand v → Fits force table (handed_over handed v)
handed_fits force hand table own None (asking root) fits = tt
handed_fits force hand table own (Some entries) (asking root) fits = fits
handed_fits force hand table own None (building build) fits = tt
handed_fits force hand table own (Some entries) (building build) fits = fits
handed_fits force hand table own None (rereading space) fits = tt
handed_fits force hand table own (Some entries) (rereading space) fits = (fits, subst (λ f. ShowsOwn f table) fits own)
handed_fits force hand table own None (reloading space file) fits = (fits.0, subst (λ f. ShowsOwn f table) fits.0 own)
handed_fits force hand table own (Some entries) (reloading space file) fits = (fits.0, subst (λ f. ShowsOwn f table) fits.0 own)
handed_fits force hand table own None (opening root file) fits = fits
handed_fits force hand table own (Some entries) (opening root file) fits = fits
handed_fits force hand table own None (queued call) fits = fits
handed_fits force hand table own (Some entries) (queued call) fits = fits
handed_fits force hand table own None (built build given) fits = fits
handed_fits force hand table own (Some entries) (built build given) fits = fits
handed_fits force hand table own None (cleaning space targets) fits = fits
handed_fits force hand table own (Some entries) (cleaning space targets) fits = fits
handed_fits force hand table own None (answering space question) fits = fits
handed_fits force hand table own (Some entries) (answering space question) fits = fits
handed_fits force hand table own None closing fits = fits
handed_fits force hand table own (Some entries) closing fits = fits
handed_fits force hand table own None (refusal code text) fits = fits
handed_fits force hand table own (Some entries) (refusal code text) fits = fits

pub handed_stands : (force : Option Space) (hand table : Table) → ShowsOwn force table → (handed : Option Entries) (requests : List Asked) → Stands force hand requests
    → Stands force table (handed_by handed (first_up force requests))
handed_stands force hand table own handed [] stands = tt
handed_stands force hand table own handed (asked ∷ others) stands =
    (handed_fits force hand table own handed (due_in force asked.verdict) (due_fits force hand asked.verdict stands.0), stands.1)

-- ---- marks

marked_behind : (force : Option Space) (test : Asked → Bool) (requests : List Asked) → All (IsBehind force) requests → All (IsBehind force) (marked_where test requests)
marked_behind force test [] all = All-nil (IsBehind force)
marked_behind force test (asked ∷ others) all =
    All-cons (IsBehind force) (_) (marked_where test others) (All-head (IsBehind force) asked others all) (marked_behind force test others (All-tail (IsBehind force) asked others all))

pub marked_stands : (force : Option Space) (hand : Table) (test : Asked → Bool) (requests : List Asked) → Stands force hand requests → Stands force hand (marked_where test requests)
marked_stands force hand test [] stands = tt
marked_stands force hand test (asked ∷ others) stands = (stands.0, marked_behind force test others stands.1)

-- ---- a request is taken

sourced_fits : (space : Space) (found : Found) → FitsBehind (Some space) (sourced space found)
sourced_fits space (all_found targets) = tt
sourced_fits space (unknown_at index) = tt

asked_fits : (space : Space) (r : Request) → FitsBehind (Some space) (asked_of space r)
asked_fits space (requests.Initialize p) = tt
asked_fits space requests.Shutdown = tt
asked_fits space requests.BuildTargets = tt
asked_fits space requests.Reload = refl
asked_fits space (requests.Sources p) = sourced_fits space (found_from space 0 p.targets)
asked_fits space (requests.InverseSources p) = tt
asked_fits space (requests.Compile p) = refl
asked_fits space (requests.CleanCache p) = refl

read_fits : (space : Space) (r : Result Request (List ℕ)) → FitsBehind (Some space) (read_in (Some space) r)
read_fits space (Err path) = tt
read_fits space (Ok r) = asked_fits space r

known_fits : (space : Space) (method : Option Method) (params : Option Data) → FitsBehind (Some space) (known_in space method params)
known_fits space None params = tt
known_fits space (Some method) params = read_fits space (request_in method params)

served_fits : (space : Space) (method : Option Method) (params : Option Data) (closed : Bool) → FitsBehind (Some space) (served_in (Some space) method params closed)
served_fits space method params true = tt
served_fits space method params false = known_fits space method params

behind_fits : (space : Space) (method : Option Method) (params : Option Data) (closed : Bool) → FitsBehind (Some space) (verdict_for method params (Some space) closed)
behind_fits space method params closed = by (is_initialize method)
  where
    by : (b : Bool) → FitsBehind (Some space) (if b then too_late else served_in (Some space) method params closed)
    by true = tt
    by false = served_fits space method params closed

-- where a workspace is in force
pub taken_behind : (force : Option Space) → is_some force ≡ true → (name : List ℕ) (params : Option Data) (closed : Bool) → FitsBehind force (verdict name params force closed)
taken_behind None some name params closed = absurd (false≢true some)
taken_behind (Some space) some name params closed = behind_fits space (method_named name) params closed

rooted_fits : (hand : Table) (root : Option (List ℕ)) → Fits None hand (rooted root)
rooted_fits hand None = tt
rooted_fits hand (Some root) = refl

first_asked_fits : (hand : Table) (r : Request) → Fits None hand (first_asked r)
first_asked_fits hand (requests.Initialize p) = rooted_fits hand (root_at p.root_uri)
first_asked_fits hand requests.Shutdown = tt
first_asked_fits hand requests.BuildTargets = tt
first_asked_fits hand requests.Reload = tt
first_asked_fits hand (requests.Sources p) = tt
first_asked_fits hand (requests.InverseSources p) = tt
first_asked_fits hand (requests.Compile p) = tt
first_asked_fits hand (requests.CleanCache p) = tt

first_read_fits : (hand : Table) (r : Result Request (List ℕ)) → Fits None hand (read_in None r)
first_read_fits hand (Err path) = tt
first_read_fits hand (Ok r) = first_asked_fits hand r

first_fits : (hand : Table) (method : Option Method) (params : Option Data) (closed : Bool) → Fits None hand (verdict_for method params None closed)
first_fits hand method params closed = by (is_initialize method)
  where
    by : (b : Bool) → Fits None hand (if b then read_in None (request_in methods.Initialize params) else served_in None method params closed)
    by true = first_read_fits hand (request_in methods.Initialize params)
    by false = tt

pub taken_first : (force : Option Space) (hand : Table) (name : List ℕ) (params : Option Data) (closed : Bool) → Fits force hand (verdict name params force closed)
taken_first None hand name params closed = first_fits hand (method_named name) params closed
taken_first (Some space) hand name params closed = comes_up (Some space) hand (verdict name params (Some space) closed) (taken_behind (Some space) refl name params closed)

-- a request that waits as a body is taken waits where a workspace is in force
waits_in : (force : Option Space) (hand : Table) (v : Verdict) → MayWait v → Fits force hand v → is_some force ≡ true
waits_in force hand (queued call) may fits = fits
waits_in force hand (built build entries) may fits = ap is_some fits
waits_in force hand (asking root) may fits = absurd may
waits_in force hand (opening root file) may fits = absurd may
waits_in force hand (building build) may fits = absurd may
waits_in force hand (rereading space) may fits = absurd may
waits_in force hand (reloading space file) may fits = absurd may
waits_in force hand (cleaning space targets) may fits = absurd may
waits_in force hand (answering space question) may fits = absurd may
waits_in force hand closing may fits = absurd may
waits_in force hand (refusal code text) may fits = absurd may

joined_stands : (force : Option Space) (hand : Table) (asked : Asked) (requests : List Asked) → Fits force hand asked.verdict → (is_some force ≡ true → FitsBehind force asked.verdict)
    → All Waits requests → Stands force hand requests → Stands force hand (joined asked requests)
joined_stands force hand asked [] first behind waits stands = (first, All-nil (IsBehind force))
joined_stands force hand asked (head ∷ others) first behind waits stands =
    let some : is_some force ≡ true = waits_in force hand head.verdict (All-head Waits head others waits).may stands.0 in (
      stands.0,
      All-append (IsBehind force) (marked_where (λ other. is_closing asked.verdict) others) (asked ∷ [])
          (marked_behind force (λ other. is_closing asked.verdict) others stands.1)
          (All-cons (IsBehind force) asked [] (behind some) (All-nil (IsBehind force))),
    )

pub opened_stands : (force : Option Space) (hand : Table) (closed : Bool) (n : ℕ) (requests : List Asked) → All Waits requests → Stands force hand requests → (meant : Result Said ℤ)
    → Stands force hand (opened_by meant n force closed requests)
opened_stands force hand closed n requests waits stands (Ok (request id method params)) = by (is_open id requests)
  where
    asked : Asked
    asked = record { id = id; number = n; verdict = verdict method params force closed; cancelled = false }

    by : (b : Bool) → Stands force hand (if b then requests else joined asked requests)
    by true = stands
    by false = joined_stands force hand asked requests (taken_first force hand method params closed) (λ some. taken_behind force some method params closed) waits stands
opened_stands force hand closed n requests waits stands (Ok (notification method params)) = marked_stands force hand (cancels method params) requests stands
opened_stands force hand closed n requests waits stands (Ok (result id value)) = stands
opened_stands force hand closed n requests waits stands (Ok (failure id code text)) = stands
opened_stands force hand closed n requests waits stands (Err code) = stands

-- ---- a request is answered

pub behind_without : (force : Option Space) (id : Id) (requests : List Asked) → All (IsBehind force) requests → All (IsBehind force) (without id requests)
behind_without force id [] all = All-nil (IsBehind force)
behind_without force id (asked ∷ others) all = by (same_id id asked.id) (behind_without force id others)
  where
    rest : All (IsBehind force) others
    rest = All-tail (IsBehind force) asked others all

    by : (b : Bool) → (All (IsBehind force) others → All (IsBehind force) (without id others)) → All (IsBehind force) (if b then others else asked ∷ without id others)
    by true later = rest
    by false later = All-cons (IsBehind force) asked (without id others) (All-head (IsBehind force) asked others all) (later rest)

pub without_stands : (force : Option Space) (hand : Table) (id : Id) (requests : List Asked) → Stands force hand requests → Stands force hand (without id requests)
without_stands force hand id [] stands = tt
without_stands force hand id (asked ∷ others) stands = by (same_id id asked.id)
  where
    by : (b : Bool) → Stands force hand (if b then others else asked ∷ without id others)
    by true = all_come_up force hand others stands.1
    by false = (stands.0, behind_without force id others stands.1)
