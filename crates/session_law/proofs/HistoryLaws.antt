-- Which documents a build checked, where it told its whole course: those whose checks started in it.
use Rattle.std.proofs.Common.{◌≡◌, ◌≢◌, ◌⊎◌, inl, inr, ◌++◌, ◌<◌, ◌^◌, ℕ, suc, List, [], ◌∷◌, Bool, Contains, refl, sym, subst}
use Rattle.std.proofs.lemmas.List.Elements.{Contains-append_cases, Contains-append_left, Contains-append_right}
use Rattle.rpc_peer.specs.Said.{Said}
use Rattle.session_law.proofs.ClosureLaws.{IdsDiffer, one_target}
use Rattle.session_law.proofs.CourseLaws.{IsFinished, IsStarted, OnePair, checked_told, told_begun}
use Rattle.session_law.proofs.ListLaws.{contains_first, contains_later, contains_none, place_of}
use Rattle.session_law.proofs.StartLaws.{NumbersFit, no_start, none_finishes}
use Rattle.session_law.specs.Builds.{build_status}
use Rattle.session_law.specs.Course.{Given, HasEnded, all_finish}
use Rattle.session_law.specs.History.{HasChecked, HasStarted, IsTaskOf, LastChecked, Told, newest, older}
use Rattle.session_law.specs.Tasks.{check_finishes, check_starts}
use Rattle.session_law.specs.declared.BuildDocument.{BuildDocument}
use Rattle.task_stream.specs.declared.shown.TableKey.{TableKey}

-- ---- what was checked had started

pub checked_started : (told : Told) (key : TableKey) → HasChecked told key → HasStarted told key
checked_started told key checked = record { j = checked.j; i = checked.i; of_target = checked.of_target; started = checked.started; uncleaned = checked.uncleaned }

pub last_checked : {key : TableKey} {builds : List Told} {last : Told} → LastChecked key builds last → Contains builds last × HasChecked last key
last_checked (newest {told = told} {earlier = earlier} checked) = (contains_first told earlier, checked)
last_checked (older {told = told} {last = last} {earlier = earlier} other rest) =
    let found = last_checked rest in
    (contains_later told earlier last found.0, found.1)

-- one build at most is the last that checked it
last_cases : {key : TableKey} {told last : Told} {earlier : List Told} → LastChecked key (told ∷ earlier) last
    → (HasChecked told key × (told ≡ last)) ⊎ ((¬ (HasChecked told key)) × LastChecked key earlier last)
last_cases (newest checked) = inl (checked, refl)
last_cases (older other rest) = inr (other, rest)

pub last_one : {key : TableKey} {builds : List Told} {one other : Told} → LastChecked key builds one → LastChecked key builds other → one ≡ other
last_one {key} (newest {told = told} checked) last = by (last_cases last)
  where
    by : {a : Told} {earlier : List Told} → (HasChecked told key × (told ≡ a)) ⊎ ((¬ (HasChecked told key)) × LastChecked key earlier a) → told ≡ a
    by (inl both) = both.1
    by (inr both) = absurd (both.0 checked)
last_one {key} (older {told = told} {last = one} {earlier = earlier} unchecked rest) last = by (last_cases last) (last_one rest)
  where
    by : {a : Told} → (HasChecked told key × (told ≡ a)) ⊎ ((¬ (HasChecked told key)) × LastChecked key earlier a) → (LastChecked key earlier a → one ≡ a) → one ≡ a
    by (inl both) same = absurd (unchecked both.0)
    by (inr both) same = same both.1

-- ---- a whole course

abbrev pub told_by : Given → List Said → Told
told_by g messages = record { active = g.active; notices = messages; cleaned = [] }

-- A check that started has finished. What is told later changes nothing.
pub checked_now : (g : Given) (messages own : List Said) (key : TableKey) (j i : ℕ) (failed : Bool) → IsTaskOf g.active key.target i
    → Contains messages (check_starts g.active.number j i key.document)
    → HasChecked (told_by g (messages ++ check_finishes g.active.number j i (build_status failed) ∷ own)) key
checked_now g messages own key j i failed task started =
    let finish : Said = check_finishes g.active.number j i (build_status failed) in
    record {
      j = j;
      i = i;
      failed = failed;
      of_target = task;
      started = Contains-append_left messages (finish ∷ own) (check_starts g.active.number j i key.document) started;
      finished = Contains-append_right messages (finish ∷ own) finish (contains_first finish own);
      uncleaned = contains_none key;
    }

pub checked_still : (g : Given) (messages more : List Said) (key : TableKey) → HasChecked (told_by g messages) key → HasChecked (told_by g (messages ++ more)) key
checked_still g messages more key checked = record {
  j = checked.j;
  i = checked.i;
  failed = checked.failed;
  of_target = checked.of_target;
  started = Contains-append_left messages more (check_starts g.active.number checked.j checked.i key.document) checked.started;
  finished = Contains-append_left messages more (check_finishes g.active.number checked.j checked.i (build_status checked.failed)) checked.finished;
  uncleaned = contains_none key;
}

pub told_checked : (g : Given) (messages : List Said) (document : BuildDocument) (before : ℕ) → OnePair g.documents → Contains g.documents document
    → IsFinished g messages before document.pair → HasChecked (told_by g messages) document.key
told_checked g messages document before one there told =
    let same : told.begun.document ≡ document = one told.begun.document document told.begun.there there told.begun.pair_is in
    record {
      j = suc before;
      i = told.begun.i;
      failed = told.failed;
      of_target = subst (λ (d : BuildDocument). IsTaskOf g.active d.key.target told.begun.i) same told.begun.of_target;
      started = subst (λ (d : BuildDocument). Contains messages (check_starts g.active.number (suc before) told.begun.i d.key.document)) same told.begun.started;
      finished = told.finished;
      uncleaned = contains_none document.key;
    }

-- a document whose check started in the build was checked in it
pub has_checked : {g : Given} {messages : List Said} → (ended : HasEnded g messages) (document : BuildDocument) → OnePair g.documents → IdsDiffer g.active
    → Contains g.documents document → Contains ended.stage.begun document.pair → HasChecked (told_by g messages) document.key
has_checked {g} ended document one differ there begun =
    subst (λ ms. HasChecked (told_by g ms) document.key) (sym ended.are)
    (checked_still g ended.settling (all_finish g ended.stage ended.findings) document.key
    (told_checked g ended.settling document begun.0 one there
    (checked_told ended.course one differ begun.0 document.pair (place_of ended.stage.begun document.pair begun) (ended.all_settled document there))))

pub key_same : (a b : TableKey) → a.document ≡ b.document → a.target ≡ b.target → a ≡ b
key_same a b document target = (λ i. record { document = document i; target = target i })

-- a check that started is of one of the documents whose checks started
pub started_of : {g : Given} {messages : List Said} → (ended : HasEnded g messages) (key : TableKey) → NumbersFit g.active → HasStarted (told_by g messages) key
    → (document : BuildDocument) × Contains g.documents document × Contains ended.stage.begun document.pair × (document.key ≡ key)
started_of {g} {messages} ended key fit started =
    let start : Said = check_starts g.active.number started.j started.i key.document in
    let within : Contains (ended.settling ++ all_finish g ended.stage ended.findings) start = subst (λ ms. Contains ms start) ended.are started.started in
    by (Contains-append_cases ended.settling (all_finish g ended.stage ended.findings) start within)
  where
    small : started.i < 2 ^ 64
    small = fit key.target started.i started.of_target

    by : Contains ended.settling (check_starts g.active.number started.j started.i key.document) ⊎ Contains (all_finish g ended.stage ended.findings) (check_starts g.active.number started.j started.i key.document)
        → (document : BuildDocument) × Contains g.documents document × Contains ended.stage.begun document.pair × (document.key ≡ key)
    by (inl told) =
        let it : IsStarted g ended.stage.begun started.i key.document = told_begun ended.course fit started.j started.i key.document small told in
        (it.document, it.there, it.has_begun, key_same it.document.key key it.address_is (one_target g.active it.document.key.target key.target started.i it.of_target started.of_target))
    by (inr told) = absurd (no_start (all_finish g ended.stage ended.findings) g.active.number started.j started.i key.document (none_finishes g ended.stage ended.findings) told)

-- and no other was
pub not_checked : {g : Given} {messages : List Said} → (ended : HasEnded g messages) (key : TableKey) → NumbersFit g.active
    → ((document : BuildDocument) → Contains g.documents document → Contains ended.stage.begun document.pair → document.key ≢ key) → ¬ (HasChecked (told_by g messages) key)
not_checked {g} {messages} ended key fit other checked =
    let found = started_of ended key fit (checked_started (told_by g messages) key checked) in
    other found.0 found.1 found.2 found.3
