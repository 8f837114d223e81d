-- What the messages of a build tell of its checks: each that started is of a document whose pair stands where the number of
-- the check says, and once that document is settled the check has finished.
use Rattle.std.proofs.Common.{◌≡◌, ◌≢◌, ◌⊎◌, inl, inr, ◌++◌, ◌<◌, ◌^◌, ℕ, suc, List, [], ◌∷◌, length, Bool, All, AllPairs, Contains, Some, None, sym, ap, subst, ◌∙◌, slice_get}
use Rattle.std.proofs.lemmas.Bool.{false≢true}
use Rattle.std.proofs.lemmas.List.Elements.{All-contains, Contains-append_cases, Contains-append_left, Contains-append_right, Contains-push, Contains-push_cases}
use Rattle.std.proofs.lemmas.Option.{none-some}
use Rattle.rpc_peer.specs.Said.{Said}
use Rattle.session_law.proofs.ClosureLaws.{IdsDiffer, one_number}
use Rattle.session_law.proofs.ListLaws.{contains_at, contains_cases, contains_first, contains_map_back, one_place, pushed_at}
use Rattle.session_law.proofs.PublishedLaws.{IsPublication, all_publications}
use Rattle.session_law.proofs.StageLaws.{pairs_cases, stage_sound}
use Rattle.session_law.proofs.StartLaws.{NumbersFit, no_start, none_starts}
use Rattle.session_law.proofs.TaskLaws.{check_finishes_in, check_starts_in, same_compiling, same_starts, start_in, start_tells}
use Rattle.session_law.specs.Builds.{AreDocuments, Finding, build_document, build_status, has_error, table_behind}
use Rattle.session_law.specs.Course.{Course, Given, Runs, Stage, all_start, begins, checked, known, pairs_in, starts}
use Rattle.session_law.specs.History.{IsTaskOf}
use Rattle.session_law.specs.Methods.{Build}
use Rattle.session_law.specs.Tasks.{check_finishes, check_starts, checking, compiling_name, task_id}
use Rattle.session_law.specs.declared.BuildDocument.{BuildDocument}

-- ---- the documents

-- those of one pair are one
abbrev pub OnePair : List BuildDocument → Type 0
OnePair documents = (a b : BuildDocument) → Contains documents a → Contains documents b → a.pair ≡ b.pair → a ≡ b

pub one_pair : (build : Build) (documents : List BuildDocument) → AreDocuments build documents → OnePair documents
one_pair build documents are a b a_there b_there same = at_pair a a_there ∙ (ap (build_document build.space) same ∙ sym (at_pair b b_there))
  where
    at_pair : (document : BuildDocument) → Contains documents document → document ≡ build_document build.space document.pair
    at_pair document there =
        let from = contains_map_back (build_document build.space) are.pairs document (subst (λ ds. Contains ds document) are.are there) in
        sym from.2 ∙ ap (build_document build.space) (ap (λ (d : BuildDocument). d.pair) from.2)

-- ---- a check that started

-- the check with this number, less one, is of the document of this pair
pub record IsBegun (g : Given) (messages : List Said) (before p : ℕ) : Type 0 where
  pub document : BuildDocument
  pub there : Contains g.documents document
  pub pair_is : document.pair ≡ p
  pub i : ℕ
  pub of_target : IsTaskOf g.active document.key.target i
  pub started : Contains messages (check_starts g.active.number (suc before) i document.key.document)

begun_still : (g : Given) (messages more : List Said) (before p : ℕ) → IsBegun g messages before p → IsBegun g (messages ++ more) before p
begun_still g messages more before p begun = record {
  document = begun.document;
  there = begun.there;
  pair_is = begun.pair_is;
  i = begun.i;
  of_target = begun.of_target;
  started = Contains-append_left messages more (check_starts g.active.number (suc before) begun.i begun.document.key.document) begun.started;
}

begun_last : (g : Given) (s : Stage) (messages : List Said) (document : BuildDocument) (i before p : ℕ) → Contains g.documents document → IsTaskOf g.active document.key.target i
    → (slice_get s.begun before ≡ Some p → IsBegun g messages before p) → (slice_get s.begun before ≡ Some p) ⊎ ((before ≡ length s.begun) × (document.pair ≡ p))
    → IsBegun g (messages ++ check_starts g.active.number (suc (length s.begun)) i document.key.document ∷ []) before p
begun_last g s messages document i before p there task earlier (inl at) =
    begun_still g messages (check_starts g.active.number (suc (length s.begun)) i document.key.document ∷ []) before p (earlier at)
begun_last g s messages document i before p there task earlier (inr last) =
    let start : ℕ → Said = λ n. check_starts g.active.number (suc n) i document.key.document in
    record {
      document = document;
      there = there;
      pair_is = last.1;
      i = i;
      of_target = task;
      started = subst (λ n. Contains (messages ++ start (length s.begun) ∷ []) (start n)) (sym last.0) (Contains-push messages (start (length s.begun)));
    }

pub begun_told : {g : Given} {s : Stage} {messages : List Said} → Course g s messages → (before p : ℕ) → slice_get s.begun before ≡ Some p → IsBegun g messages before p
begun_told starts before p at = absurd (none-some p at)
begun_told {g} (known {messages = messages} finding own course next is_known settles) before p at = begun_still g messages own before p (begun_told course before p at)
begun_told {g} (begins {s = stage} {messages = messages} document i course next due task) before p at =
    begun_last g stage messages document i before p next.ready.there task (begun_told course before p) (pushed_at stage.begun document.pair before p at)
begun_told {g} (checked {messages = messages} finding j i own course waiting runs task settles) before p at =
    begun_still g messages (check_finishes g.active.number j i (build_status (has_error finding)) ∷ own) before p (begun_told course before p at)

-- ---- a check that finished

-- and it finished with a status of its own
pub record IsFinished (g : Given) (messages : List Said) (before p : ℕ) : Type 0 where
  pub begun : IsBegun g messages before p
  pub failed : Bool
  pub finished : Contains messages (check_finishes g.active.number (suc before) begun.i (build_status failed))

finished_still : (g : Given) (messages more : List Said) (before p : ℕ) → IsFinished g messages before p → IsFinished g (messages ++ more) before p
unfolding begun_still
finished_still g messages more before p told = record {
  begun = begun_still g messages more before p told.begun;
  failed = told.failed;
  finished = Contains-append_left messages more (check_finishes g.active.number (suc before) told.begun.i (build_status told.failed)) told.finished;
}

finished_last : (g : Given) (s : Stage) (messages own : List Said) (finding : Finding) (j i before : ℕ) → OnePair g.documents → IdsDiffer g.active → AllPairs ◌≢◌ s.begun
    → (runs : Runs s finding.document j) → Contains g.documents finding.document → IsTaskOf g.active finding.document.key.target i → slice_get s.begun before ≡ Some finding.document.pair
    → IsBegun g messages before finding.document.pair
    → IsFinished g (messages ++ check_finishes g.active.number j i (build_status (has_error finding)) ∷ own) before finding.document.pair
unfolding begun_still
finished_last g s messages own finding j i before one differ once runs there task at begun =
    let finish : ℕ → ℕ → Said = λ n k. check_finishes g.active.number n k (build_status (has_error finding)) in
    let document : begun.document ≡ finding.document = one begun.document finding.document begun.there there begun.pair_is in
    let target : IsTaskOf g.active finding.document.key.target begun.i =
    subst (λ (d : BuildDocument). IsTaskOf g.active d.key.target begun.i) document begun.of_target in
    let number : i ≡ begun.i = one_number g.active finding.document.key.target i begun.i differ task target in
    let place : j ≡ suc before = runs.number_is ∙ ap (λ n. suc n) (one_place s.begun finding.document.pair runs.before before once runs.there at) in
    let here : Contains (messages ++ finish j i ∷ own) (finish j i) =
    Contains-append_right messages (finish j i ∷ own) (finish j i) (contains_first (finish j i) own) in
    record {
      begun = begun_still g messages (finish j i ∷ own) before finding.document.pair begun;
      failed = has_error finding;
      finished =
          subst (λ n. Contains (messages ++ finish j i ∷ own) (finish n begun.i)) place
          (subst (λ k. Contains (messages ++ finish j i ∷ own) (finish j k)) number here);
    }

-- it was settled before, or is the one that finishes
finished_either : (g : Given) (s : Stage) (messages own : List Said) (finding : Finding) (j i before p : ℕ) → OnePair g.documents → IdsDiffer g.active → AllPairs ◌≢◌ s.begun
    → Runs s finding.document j → Contains g.documents finding.document → IsTaskOf g.active finding.document.key.target i → slice_get s.begun before ≡ Some p
    → IsBegun g messages before p → (Contains (pairs_in s.settled) p → IsFinished g messages before p) → Contains (pairs_in s.settled) p ⊎ (finding.document.pair ≡ p)
    → IsFinished g (messages ++ check_finishes g.active.number j i (build_status (has_error finding)) ∷ own) before p
finished_either g s messages own finding j i before p one differ once runs there task at begun earlier (inl settled) =
    finished_still g messages (check_finishes g.active.number j i (build_status (has_error finding)) ∷ own) before p (earlier settled)
finished_either g s messages own finding j i before p one differ once runs there task at begun earlier (inr same) =
    subst (λ q. IsFinished g (messages ++ check_finishes g.active.number j i (build_status (has_error finding)) ∷ own) before q) same
    (finished_last g s messages own finding j i before one differ once runs there task
    (subst (λ q. slice_get s.begun before ≡ Some q) (sym same) at) (subst (λ q. IsBegun g messages before q) (sym same) begun))

-- what is true if it was there before, where the last one wasn't
pub if_earlier : {A B : Type 0} → ¬ B → A ⊎ B → A
if_earlier other (inl a) = a
if_earlier other (inr b) = absurd (other b)

pub checked_told : {g : Given} {s : Stage} {messages : List Said} → Course g s messages → OnePair g.documents → IdsDiffer g.active
    → (before p : ℕ) → slice_get s.begun before ≡ Some p → Contains (pairs_in s.settled) p → IsFinished g messages before p
checked_told starts one differ before p at settled = absurd (none-some p at)
checked_told {g} (known {s = stage} {messages = messages} finding own course next is_known settles) one differ before p at settled =
    let taken : Contains stage.taken p = (stage_sound course).begun_taken p (contains_at stage.begun before p at) in
    finished_still g messages own before p
    (checked_told course one differ before p at
    (if_earlier (λ same. next.ready.is_new (subst (λ q. Contains stage.taken q) (sym same) taken)) (pairs_cases stage.settled finding p settled)))
checked_told {g} (begins {s = stage} {messages = messages} document i course next due task) one differ before p at settled =
    let taken : Contains stage.taken p = (stage_sound course).settled_taken p settled in
    finished_still g messages (check_starts g.active.number (suc (length stage.begun)) i document.key.document ∷ []) before p
    (checked_told course one differ before p
    (if_earlier (λ (last : (before ≡ length stage.begun) × (document.pair ≡ p)). next.ready.is_new (subst (λ q. Contains stage.taken q) (sym last.1) taken)) (pushed_at stage.begun document.pair before p at))
    settled)
checked_told {g} (checked {s = stage} {messages = messages} finding j i own course waiting runs task settles) one differ before p at settled =
    finished_either g stage messages own finding j i before p one differ (stage_sound course).begun_once runs settles.there task at
    (begun_told course before p at) (checked_told course one differ before p at) (pairs_cases stage.settled finding p settled)

-- ---- what a start tells

-- a check that started is of one of these documents
pub record IsStarted (g : Given) (begun : List ℕ) (i : ℕ) (address : List ℕ) : Type 0 where
  pub document : BuildDocument
  pub there : Contains g.documents document
  pub has_begun : Contains begun document.pair
  pub address_is : document.key.document ≡ address
  pub of_target : IsTaskOf g.active document.key.target i

-- publications are no starts
pub no_publication : (messages : List Said) (n j i : ℕ) (address : List ℕ) → All IsPublication messages → ¬ (Contains messages (check_starts n j i address))
no_publication messages n j i address all there =
    false≢true
    (sym (start_tells (record { task_id = task_id n (checking j i); message = Some address; body = None })).no_publication
    ∙ All-contains IsPublication messages (check_starts n j i address) all there)

-- nor are finishes
no_finish : (n k l : ℕ) (failed : Bool) (j i : ℕ) (address : List ℕ) → check_finishes n k l (build_status failed) ≡ check_starts n j i address → ⊥
no_finish n k l failed j i address same =
    none-some (address, compiling_name n i) (sym (check_finishes_in n k l (build_status failed)).0 ∙ (ap start_in same ∙ (check_starts_in n j i address).0))

pub no_finish_list : (n k l : ℕ) (failed : Bool) (own : List Said) (j i : ℕ) (address : List ℕ) → All IsPublication own
    → ¬ (Contains (check_finishes n k l (build_status failed) ∷ own) (check_starts n j i address))
no_finish_list n k l failed own j i address all there =
    by (contains_cases (check_finishes n k l (build_status failed)) own (check_starts n j i address) there)
  where
    by : (check_finishes n k l (build_status failed) ≡ check_starts n j i address) ⊎ Contains own (check_starts n j i address) → ⊥
    by (inl same) = no_finish n k l failed j i address same
    by (inr h) = no_publication own n j i address all h

started_still : (g : Given) (begun : List ℕ) (more i : ℕ) (address : List ℕ) → IsStarted g begun i address → IsStarted g (begun ++ more ∷ []) i address
started_still g begun more i address told = record {
  document = told.document;
  there = told.there;
  has_begun = Contains-append_left begun (more ∷ []) told.document.pair told.has_begun;
  address_is = told.address_is;
  of_target = told.of_target;
}

started_last : (g : Given) (begun : List ℕ) (messages : List Said) (document : BuildDocument) (l k j i : ℕ) (address : List ℕ) → NumbersFit g.active → i < 2 ^ 64
    → Contains g.documents document → IsTaskOf g.active document.key.target k
    → (Contains messages (check_starts g.active.number j i address) → IsStarted g begun i address)
    → Contains messages (check_starts g.active.number j i address) ⊎ (check_starts g.active.number l k document.key.document ≡ check_starts g.active.number j i address)
    → IsStarted g (begun ++ document.pair ∷ []) i address
started_last g begun messages document l k j i address fit small there task earlier (inl told) = started_still g begun document.pair i address (earlier told)
started_last g begun messages document l k j i address fit small there task earlier (inr same) =
    let parts = same_starts g.active.number l k g.active.number j i document.key.document address same in
    let number : k ≡ i = same_compiling g.active.number k i (fit document.key.target k task) small parts.1 in
    record {
      document = document;
      there = there;
      has_begun = Contains-push begun document.pair;
      address_is = parts.0;
      of_target = subst (λ n. IsTaskOf g.active document.key.target n) number task;
    }

pub told_begun : {g : Given} {s : Stage} {messages : List Said} → Course g s messages → NumbersFit g.active → (j i : ℕ) (address : List ℕ) → i < 2 ^ 64
    → Contains messages (check_starts g.active.number j i address) → IsStarted g s.begun i address
told_begun {g} starts fit j i address small told = absurd (no_start (all_start g) g.active.number j i address (none_starts g) told)
told_begun {g} (known {s = stage} {messages = messages} finding own course next is_known settles) fit j i address small told =
    told_begun course fit j i address small
    (if_earlier (no_publication own g.active.number j i address (all_publications (table_behind messages g.table) g.active.build.origin finding own settles.publishes))
    (Contains-append_cases messages own (check_starts g.active.number j i address) told))
told_begun {g} (begins {s = stage} {messages = messages} document k course next due task) fit j i address small told =
    started_last g stage.begun messages document (suc (length stage.begun)) k j i address fit small next.ready.there task (told_begun course fit j i address small)
    (Contains-push_cases messages (check_starts g.active.number (suc (length stage.begun)) k document.key.document) (check_starts g.active.number j i address) told)
told_begun {g} (checked {s = stage} {messages = messages} finding n k own course waiting runs task settles) fit j i address small told =
    let finish : Said = check_finishes g.active.number n k (build_status (has_error finding)) in
    told_begun course fit j i address small
    (if_earlier
    (no_finish_list g.active.number n k (has_error finding) own j i address
    (all_publications (table_behind (messages ++ finish ∷ []) g.table) g.active.build.origin finding own settles.publishes))
    (Contains-append_cases messages (finish ∷ own) (check_starts g.active.number j i address) told))
