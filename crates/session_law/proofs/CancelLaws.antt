-- A build that was cancelled: what is told by its cancel starts nothing and publishes nothing, and the build checked just those
-- documents whose checks started in its course and that are settled in it.
use Rattle.std.proofs.Common.{◌≡◌, ◌≢◌, ◌⊎◌, inl, inr, ◌++◌, ◌<◌, ◌^◌, ℕ, zero, suc, List, [], ◌∷◌, length, Bool, true, false, All, Contains, Option, Some, None, refl, sym, ap, subst, ◌∙◌, arith, slice_get}
use Rattle.std.specs.Prelude.{codes, option_and_then}
use Rattle.std.proofs.lemmas.Bool.{false≢true}
use Rattle.std.proofs.lemmas.List.Elements.{All-append, All-cons, All-contains, All-nil, Contains-append_cases, Contains-append_left, Contains-push, Contains-push_cases}
use Rattle.std.proofs.lemmas.Option.{none-some, same_Some, slice_get_within}
use Rattle.bsp_records.specs.Results.{status_data}
use Rattle.bsp_records.specs.declared.results.StatusCode.{StatusCode}
use Rattle.bsp_records.specs.declared.results.StatusCode.TheVariants as statuses
use Rattle.rpc_peer.specs.Said.{Said}
use Rattle.serde_json.specs.Data.{Data}
use Rattle.serde_json.specs.Find.{get}
use Rattle.session_law.proofs.ClosureLaws.{IdsDiffer, one_target}
use Rattle.session_law.proofs.CourseLaws.{OnePair, checked_told, if_earlier, no_finish_list, no_publication}
use Rattle.session_law.proofs.HistoryLaws.{checked_still, key_same, told_by, told_checked}
use Rattle.session_law.proofs.ListLaws.{contains_at, contains_cases, place_of}
use Rattle.session_law.proofs.PublishedLaws.{IsOther, IsPublication, all_publications}
use Rattle.session_law.proofs.StageLaws.{pairs_push}
use Rattle.session_law.proofs.StartLaws.{NumbersFit, StartsNone, no_start, none_starts}
use Rattle.session_law.proofs.TaskLaws.{TellsOfTask, build_finishes_in, build_starts_in, check_finishes_in, check_starts_in, finish_in, finish_tells, params_named, same_checking, same_compiling, same_finishes, same_start_names, same_starts, target_starts_in, target_starts_none}
use Rattle.session_law.specs.Builds.{Finding, build_status, has_error, table_behind}
use Rattle.session_law.specs.Cancelling.{ChecksCancelled, IsCancelledBy, cancelled, finished, none, targets_cancelled}
use Rattle.session_law.specs.Course.{Course, Given, Runs, Stage, all_start, begins, checked, known, pairs_in, starts, targets_start, with_begun, with_checked, with_known}
use Rattle.session_law.specs.History.{HasChecked, IsTaskOf}
use Rattle.session_law.specs.Tasks.{build_finishes, build_starts, check_finishes, check_starts, checking, checking_name, compiling, finish_said, target_cancelled, target_starts, task_id, whole}
use Rattle.session_law.specs.declared.BuildDocument.{BuildDocument}
use Rattle.target_graph.specs.Workspace.{id_of}
use Rattle.task_stream.specs.declared.shown.TableKey.{TableKey}

-- ---- the status that a finish tells

abbrev pub status_in : Said → Option Data
status_in m = option_and_then (λ params. get (codes "status") params) (params_named (codes "build/taskFinish") m)

-- the message finishes a task as cancelled
abbrev pub IsCancel : Said → Type 0
IsCancel m = status_in m ≡ Some (status_data statuses.Cancelled)

check_status_in : (n j i : ℕ) (status : StatusCode) → status_in (check_finishes n j i status) ≡ Some (status_data status)
unfolding finish_said
check_status_in n j i status = refl

target_status_in : (n i : ℕ) → IsCancel (target_cancelled n i)
unfolding finish_said
target_status_in n i = refl

build_status_in : (n : ℕ) (status : StatusCode) → status_in (build_finishes n status) ≡ Some (status_data status)
unfolding finish_said
build_status_in n status = refl

no_cancel : (failed : Bool) → status_data (build_status failed) ≢ status_data statuses.Cancelled
no_cancel true same = cc
no_cancel false same = cc

-- a check that finishes with the status 1 or 2 isn't among messages that cancel
pub none_checked : (messages : List Said) (n j i : ℕ) (failed : Bool) → All IsCancel messages → ¬ (Contains messages (check_finishes n j i (build_status failed)))
none_checked messages n j i failed all there =
    no_cancel failed
    (same_Some (status_data (build_status failed)) (status_data statuses.Cancelled)
    (sym (check_status_in n j i (build_status failed)) ∙ All-contains IsCancel messages (check_finishes n j i (build_status failed)) all there))

-- ---- messages that finish no check

-- the message doesn't finish a check
abbrev FinishesNone : Said → Type 0
FinishesNone m = finish_in m ≡ None

no_finish : (messages : List Said) (n j i : ℕ) (status : StatusCode) → All FinishesNone messages → ¬ (Contains messages (check_finishes n j i status))
no_finish messages n j i status all there =
    none-some (checking_name n j)
    (sym (All-contains FinishesNone messages (check_finishes n j i status) all there) ∙ (check_finishes_in n j i status).1)

targets_finish_none : (g : Given) (i : ℕ) (targets : List ℕ) → All FinishesNone (targets_start g i targets)
targets_finish_none g i [] = All-nil FinishesNone
targets_finish_none g i (target ∷ targets) =
    All-cons FinishesNone (target_starts g.active.number i (id_of g.active.build.space target)) (targets_start g (suc i) targets)
    (target_starts_in g.active.number i (id_of g.active.build.space target)).1 (targets_finish_none g (suc i) targets)

starts_finish_none : (g : Given) → All FinishesNone (all_start g)
starts_finish_none g =
    All-cons FinishesNone (build_starts g.active.number) (targets_start g 1 g.closure) (build_starts_in g.active.number).1 (targets_finish_none g 1 g.closure)

-- publications finish no check
published_finish_none : (messages : List Said) (n j i : ℕ) (status : StatusCode) → All IsPublication messages → ¬ (Contains messages (check_finishes n j i status))
published_finish_none messages n j i status all there =
    false≢true
    (sym (finish_tells (record { task_id = task_id n (checking j i); status = status; body = None })).no_publication
    ∙ All-contains IsPublication messages (check_finishes n j i status) all there)

start_is_no_finish : (n k l : ℕ) (address : List ℕ) (j i : ℕ) (status : StatusCode) → check_starts n k l address ≡ check_finishes n j i status → ⊥
start_is_no_finish n k l address j i status same =
    none-some (checking_name n j) (sym (check_starts_in n k l address).1 ∙ (ap finish_in same ∙ (check_finishes_in n j i status).1))

-- ---- places

still_at : {X : Type 0} (xs ys : List X) (k : ℕ) (x : X) → slice_get xs k ≡ Some x → slice_get (xs ++ ys) k ≡ Some x
still_at [] ys k x at = absurd (none-some x at)
still_at (y ∷ xs) ys zero x at = at
still_at (y ∷ xs) ys (suc k) x at = still_at xs ys k x at

last_at : {X : Type 0} (xs : List X) (x : X) → slice_get (xs ++ x ∷ []) (length xs) ≡ Some x
last_at [] x = refl
last_at (y ∷ xs) x = last_at xs x

-- ---- where a check stands that a message starts

-- the document of a check that started, with its place among those that did
pub record IsStartedAt (g : Given) (begun : List ℕ) (j i : ℕ) (address : List ℕ) : Type 0 where
  pub document : BuildDocument
  pub there : Contains g.documents document
  pub before : ℕ
  pub at : slice_get begun before ≡ Some document.pair
  pub name_is : checking_name g.active.number (suc before) ≡ checking_name g.active.number j
  pub address_is : document.key.document ≡ address
  pub of_target : IsTaskOf g.active document.key.target i

started_more : (g : Given) (begun : List ℕ) (more j i : ℕ) (address : List ℕ) → IsStartedAt g begun j i address → IsStartedAt g (begun ++ more ∷ []) j i address
started_more g begun more j i address told = record {
  document = told.document;
  there = told.there;
  before = told.before;
  at = still_at begun (more ∷ []) told.before told.document.pair told.at;
  name_is = told.name_is;
  address_is = told.address_is;
  of_target = told.of_target;
}

started_now : (g : Given) (begun : List ℕ) (messages : List Said) (document : BuildDocument) (k j i : ℕ) (address : List ℕ) → NumbersFit g.active → i < 2 ^ 64
    → Contains g.documents document → IsTaskOf g.active document.key.target k
    → (Contains messages (check_starts g.active.number j i address) → IsStartedAt g begun j i address)
    → Contains messages (check_starts g.active.number j i address) ⊎ (check_starts g.active.number (suc (length begun)) k document.key.document ≡ check_starts g.active.number j i address)
    → IsStartedAt g (begun ++ document.pair ∷ []) j i address
started_now g begun messages document k j i address fit small there task earlier (inl told) = started_more g begun document.pair j i address (earlier told)
started_now g begun messages document k j i address fit small there task earlier (inr same) =
    let parts = same_starts g.active.number (suc (length begun)) k g.active.number j i document.key.document address same in
    let number : k ≡ i = same_compiling g.active.number k i (fit document.key.target k task) small parts.1 in
    record {
      document = document;
      there = there;
      before = length begun;
      at = last_at begun document.pair;
      name_is = same_start_names g.active.number (suc (length begun)) k g.active.number j i document.key.document address same;
      address_is = parts.0;
      of_target = subst (λ n. IsTaskOf g.active document.key.target n) number task;
    }

pub started_at : {g : Given} {s : Stage} {messages : List Said} → Course g s messages → NumbersFit g.active → (j i : ℕ) (address : List ℕ) → i < 2 ^ 64
    → Contains messages (check_starts g.active.number j i address) → IsStartedAt g s.begun j i address
started_at {g} starts fit j i address small told = absurd (no_start (all_start g) g.active.number j i address (none_starts g) told)
started_at {g} (known {messages = messages} finding own course next is_known settles) fit j i address small told =
    started_at course fit j i address small
    (if_earlier (no_publication own g.active.number j i address (all_publications (table_behind messages g.table) g.active.build.origin finding own settles.publishes))
    (Contains-append_cases messages own (check_starts g.active.number j i address) told))
started_at {g} (begins {s = stage} {messages = messages} document k course next due task) fit j i address small told =
    started_now g stage.begun messages document k j i address fit small next.ready.there task (started_at course fit j i address small)
    (Contains-push_cases messages (check_starts g.active.number (suc (length stage.begun)) k document.key.document) (check_starts g.active.number j i address) told)
started_at {g} (checked {messages = messages} finding n k own course waiting runs task settles) fit j i address small told =
    let finish : Said = check_finishes g.active.number n k (build_status (has_error finding)) in
    started_at course fit j i address small
    (if_earlier
    (no_finish_list g.active.number n k (has_error finding) own j i address
    (all_publications (table_behind (messages ++ finish ∷ []) g.table) g.active.build.origin finding own settles.publishes))
    (Contains-append_cases messages (finish ∷ own) (check_starts g.active.number j i address) told))

-- ---- where a check stands that a message finishes

-- the document of a check that finished is settled
pub record IsFinishedAt (g : Given) (s : Stage) (j : ℕ) : Type 0 where
  pub before : ℕ
  pub pair : ℕ
  pub at : slice_get s.begun before ≡ Some pair
  pub settled : Contains (pairs_in s.settled) pair
  pub name_is : checking_name g.active.number (suc before) ≡ checking_name g.active.number j

settled_more : (settled : List Finding) (finding : Finding) (p : ℕ) → Contains (pairs_in settled) p → Contains (pairs_in (settled ++ finding ∷ [])) p
settled_more settled finding p there =
    subst (λ ps. Contains ps p) (sym (pairs_push settled finding)) (Contains-append_left (pairs_in settled) (finding.document.pair ∷ []) p there)

settled_last : (settled : List Finding) (finding : Finding) → Contains (pairs_in (settled ++ finding ∷ [])) finding.document.pair
settled_last settled finding =
    subst (λ ps. Contains ps finding.document.pair) (sym (pairs_push settled finding)) (Contains-push (pairs_in settled) finding.document.pair)

finished_known : (g : Given) (s : Stage) (finding : Finding) (j : ℕ) → IsFinishedAt g s j → IsFinishedAt g (with_known s finding) j
finished_known g s finding j told = record {
  before = told.before;
  pair = told.pair;
  at = told.at;
  settled = settled_more s.settled finding told.pair told.settled;
  name_is = told.name_is;
}

finished_begun : (g : Given) (s : Stage) (document : BuildDocument) (j : ℕ) → IsFinishedAt g s j → IsFinishedAt g (with_begun s document) j
finished_begun g s document j told = record {
  before = told.before;
  pair = told.pair;
  at = still_at s.begun (document.pair ∷ []) told.before told.pair told.at;
  settled = told.settled;
  name_is = told.name_is;
}

finished_now : (g : Given) (s : Stage) (messages own : List Said) (finding : Finding) (k l j i : ℕ) (failed : Bool) → Runs s finding.document k → All IsPublication own
    → (Contains messages (check_finishes g.active.number j i (build_status failed)) → IsFinishedAt g s j)
    → Contains messages (check_finishes g.active.number j i (build_status failed))
    ⊎ Contains (check_finishes g.active.number k l (build_status (has_error finding)) ∷ own) (check_finishes g.active.number j i (build_status failed))
    → IsFinishedAt g (with_checked s finding) j
finished_now g s messages own finding k l j i failed runs published earlier (inl told) =
    let before = earlier told in
    record {
      before = before.before;
      pair = before.pair;
      at = before.at;
      settled = settled_more s.settled finding before.pair before.settled;
      name_is = before.name_is;
    }
finished_now g s messages own finding k l j i failed runs published earlier (inr there) =
    by (contains_cases (check_finishes g.active.number k l (build_status (has_error finding))) own (check_finishes g.active.number j i (build_status failed)) there)
  where
    by : (check_finishes g.active.number k l (build_status (has_error finding)) ≡ check_finishes g.active.number j i (build_status failed))
        ⊎ Contains own (check_finishes g.active.number j i (build_status failed)) → IsFinishedAt g (with_checked s finding) j
    by (inl same) = record {
      before = runs.before;
      pair = finding.document.pair;
      at = runs.there;
      settled = settled_last s.settled finding;
      name_is =
          ap (λ n. checking_name g.active.number n) (sym runs.number_is)
          ∙ same_finishes g.active.number k l g.active.number j i (build_status (has_error finding)) (build_status failed) same;
    }
    by (inr h) = absurd (published_finish_none own g.active.number j i (build_status failed) published h)

pub finished_at : {g : Given} {s : Stage} {messages : List Said} → Course g s messages → (j i : ℕ) (failed : Bool)
    → Contains messages (check_finishes g.active.number j i (build_status failed)) → IsFinishedAt g s j
finished_at {g} starts j i failed told = absurd (no_finish (all_start g) g.active.number j i (build_status failed) (starts_finish_none g) told)
finished_at {g} (known {s = stage} {messages = messages} finding own course next is_known settles) j i failed told =
    finished_known g stage finding j
    (finished_at course j i failed
    (if_earlier
    (published_finish_none own g.active.number j i (build_status failed) (all_publications (table_behind messages g.table) g.active.build.origin finding own settles.publishes))
    (Contains-append_cases messages own (check_finishes g.active.number j i (build_status failed)) told)))
finished_at {g} (begins {s = stage} {messages = messages} document k course next due task) j i failed told =
    finished_begun g stage document j
    (finished_at course j i failed
    (if_earlier
    (start_is_no_finish g.active.number (suc (length stage.begun)) k document.key.document j i (build_status failed))
    (Contains-push_cases messages (check_starts g.active.number (suc (length stage.begun)) k document.key.document)
    (check_finishes g.active.number j i (build_status failed)) told)))
finished_at {g} (checked {s = stage} {messages = messages} finding n k own course waiting runs task settles) j i failed told =
    let finish : Said = check_finishes g.active.number n k (build_status (has_error finding)) in
    finished_now g stage messages own finding n k j i failed runs
    (all_publications (table_behind (messages ++ finish ∷ []) g.table) g.active.build.origin finding own settles.publishes)
    (finished_at course j i failed)
    (Contains-append_cases messages (finish ∷ own) (check_finishes g.active.number j i (build_status failed)) told)

-- ---- what a cancel tells

-- a message of a cancel
pub record IsOfCancel (m : Said) : Type 0 where
  pub cancels : IsCancel m
  pub starts_none : StartsNone m
  pub tells : TellsOfTask m

check_of_cancel : (n j i : ℕ) → IsOfCancel (check_finishes n j i statuses.Cancelled)
check_of_cancel n j i = record {
  cancels = check_status_in n j i statuses.Cancelled;
  starts_none = (check_finishes_in n j i statuses.Cancelled).0;
  tells = finish_tells (record { task_id = task_id n (checking j i); status = statuses.Cancelled; body = None });
}

checks_of_cancel : {g : Given} {s : Stage} {before : ℕ} {begun : List ℕ} {messages : List Said} → ChecksCancelled g s before begun messages → All IsOfCancel messages
checks_of_cancel (none before) = All-nil IsOfCancel
checks_of_cancel (finished there rest) = checks_of_cancel rest
checks_of_cancel {g} (cancelled {before = before} {messages = messages} i unfinished rest) =
    All-cons IsOfCancel (check_finishes g.active.number (suc before) i statuses.Cancelled) messages (check_of_cancel g.active.number (suc before) i) (checks_of_cancel rest)

targets_of_cancel : (g : Given) (i : ℕ) (targets : List ℕ) → All IsOfCancel (targets_cancelled g i targets)
targets_of_cancel g i [] = All-nil IsOfCancel
targets_of_cancel g i (target ∷ targets) =
    All-cons IsOfCancel (target_cancelled g.active.number i) (targets_cancelled g (suc i) targets)
    (record {
      cancels = target_status_in g.active.number i;
      starts_none = target_starts_none g.active.number i;
      tells = finish_tells (record { task_id = task_id g.active.number (compiling i); status = statuses.Cancelled; body = None });
    })
    (targets_of_cancel g (suc i) targets)

pub all_of_cancel : {g : Given} {messages cancels : List Said} → IsCancelledBy g messages cancels → All IsOfCancel cancels
all_of_cancel {g} by =
    let last : Said = build_finishes g.active.number statuses.Cancelled in
    subst (All IsOfCancel) (sym by.are)
    (All-append IsOfCancel by.checks (targets_cancelled g 1 g.closure ++ last ∷ []) (checks_of_cancel by.of_checks)
    (All-append IsOfCancel (targets_cancelled g 1 g.closure) (last ∷ []) (targets_of_cancel g 1 g.closure)
    (All-cons IsOfCancel last []
    (record {
      cancels = build_status_in g.active.number statuses.Cancelled;
      starts_none = (build_finishes_in g.active.number statuses.Cancelled).0;
      tells = finish_tells (record { task_id = task_id g.active.number whole; status = statuses.Cancelled; body = None });
    })
    (All-nil IsOfCancel))))

-- nothing is published by it
pub cancels_other : {g : Given} {messages cancels : List Said} → IsCancelledBy g messages cancels → All IsOther cancels
cancels_other by k d h = (all_of_cancel by k d h).tells.no_publication

-- and no check starts
pub cancels_start : {g : Given} {messages cancels : List Said} → IsCancelledBy g messages cancels → All StartsNone cancels
cancels_start by k d h = (all_of_cancel by k d h).starts_none

-- ---- which documents were checked

-- a document that is settled and whose check started was checked
pub has_checked_cancelled : {g : Given} {messages cancels : List Said} → (by : IsCancelledBy g messages cancels) (document : BuildDocument) → OnePair g.documents → IdsDiffer g.active
    → Contains g.documents document → Contains by.stage.begun document.pair → Contains (pairs_in by.stage.settled) document.pair
    → HasChecked (told_by g (messages ++ cancels)) document.key
has_checked_cancelled {g} {messages} {cancels} by document one differ there begun settled =
    checked_still g messages cancels document.key
    (told_checked g messages document begun.0 one there
    (checked_told by.course one differ begun.0 document.pair (place_of by.stage.begun document.pair begun) settled))

-- a check that started is of one of these documents
pub cancelled_started : {g : Given} {messages cancels : List Said} → (by : IsCancelledBy g messages cancels) (j i : ℕ) (address : List ℕ) → NumbersFit g.active → i < 2 ^ 64
    → Contains (messages ++ cancels) (check_starts g.active.number j i address) → IsStartedAt g by.stage.begun j i address
cancelled_started {g} {messages} {cancels} by j i address fit small told =
    started_at by.course fit j i address small
    (if_earlier (no_start cancels g.active.number j i address (cancels_start by))
    (Contains-append_cases messages cancels (check_starts g.active.number j i address) told))

-- and no other was
pub not_checked_cancelled : {g : Given} {messages cancels : List Said} → (by : IsCancelledBy g messages cancels) (key : TableKey) → NumbersFit g.active → length by.stage.begun < 2 ^ 64
    → ((document : BuildDocument) → Contains g.documents document → Contains by.stage.begun document.pair → Contains (pairs_in by.stage.settled) document.pair → document.key ≢ key)
    → ¬ (HasChecked (told_by g (messages ++ cancels)) key)
not_checked_cancelled {g} {messages} {cancels} by key fit few other was =
    let started : IsStartedAt g by.stage.begun was.j was.i key.document =
    cancelled_started by was.j was.i key.document fit (fit key.target was.i was.of_target) was.started in
    let ended : IsFinishedAt g by.stage was.j =
    finished_at by.course was.j was.i was.failed
    (if_earlier (none_checked cancels g.active.number was.j was.i was.failed (λ k d h. (all_of_cancel by k d h).cancels))
    (Contains-append_cases messages cancels (check_finishes g.active.number was.j was.i (build_status was.failed)) was.finished)) in
    let place : suc started.before ≡ suc ended.before =
    same_checking g.active.number (suc started.before) (suc ended.before)
    (omega (arith, few, slice_get_within by.stage.begun started.before started.document.pair started.at))
    (omega (arith, few, slice_get_within by.stage.begun ended.before ended.pair ended.at))
    (started.name_is ∙ sym ended.name_is) in
    let pair : started.document.pair ≡ ended.pair =
    same_Some started.document.pair ended.pair
    (sym started.at ∙ (ap (slice_get by.stage.begun) (suc_same place) ∙ ended.at)) in
    other started.document started.there (contains_at by.stage.begun started.before started.document.pair started.at)
    (subst (λ p. Contains (pairs_in by.stage.settled) p) (sym pair) ended.settled)
    (key_same started.document.key key started.address_is
    (one_target g.active started.document.key.target key.target was.i started.of_target was.of_target))
  where
    suc_same : {a b : ℕ} → suc a ≡ suc b → a ≡ b
    suc_same same = omega (arith, same)
