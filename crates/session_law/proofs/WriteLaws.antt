-- What each kind of write needs: one lemma for each kind, with one line for each sentence.
use Rattle.std.proofs.Common.{◌≡◌, ◌++◌, ◌||◌, ◌&&◌, ℕ, ℤ, List, [], ◌∷◌, Bool, true, false, All, Option, Some, None, refl, ap, sym, ◌∙◌, subst, true≢false}
use Rattle.std.specs.Prelude.{drop, if◌then◌else◌, is_some}
use Rattle.std.proofs.lemmas.List.Elements.{All-head, All-tail}
use Rattle.rpc_peer.specs.declared.message.Id.{Id}
use Rattle.rpc_peer.specs.OpenIds.{same_id}
use Rattle.rpc_peer.specs.Said.{Said, request, notification, result, failure}
use Rattle.serde_json.specs.Data.{Data}
use Rattle.target_graph.specs.Workspace.{Space}
use Rattle.session_law.proofs.RequestLaws.{HasOther, IsOfQueue, none_at_once, one_at_once, owed_behind, same_id_refl, without_behind}
use Rattle.session_law.specs.AnswersFirst.{AnswersFirst, AnswersIt, AnswersNulls, OwesNoOther, first_at_once}
use Rattle.session_law.specs.Builds.{build_said, cancelled_said, is_publication}
use Rattle.session_law.specs.CancelsForCause.{CancelsAs, CancelsForCause, CancelsNext, HasCancelledAll}
use Rattle.session_law.specs.History.{Told}
use Rattle.session_law.specs.If.{If}
use Rattle.session_law.specs.IsFramed.{IsFramed}
use Rattle.session_law.specs.Lawful.{GoesOn, GoesOnOrCancels, WriteAllowed}
use Rattle.session_law.specs.Methods.{Build, Verdict, asking, opening, queued, building, built, rereading, reloading, cleaning, answering, closing, refusal, Call, to_build, due_in, null_message}
use Rattle.session_law.specs.Past.{Now, builds_by, standing}
use Rattle.session_law.specs.PublishesInBuildsOnly.{TellsAs, TellsBy}
use Rattle.session_law.specs.RefusesExactly.{IsGranted, IsRefused}
use Rattle.session_law.specs.Reloading.{Reloads}
use Rattle.session_law.specs.Requests.{Active, Asked, active_as, active_of, first_marked, first_up, is_of_queue, is_open, owed_to, without}
use Rattle.session_law.specs.ShowsCleanBuild.{PublishesNext, ShowsAll, ShowsFor}
use Rattle.session_law.specs.ShowsOldOrNew.{ShowsEither, ShowsEitherFor}
use Rattle.session_law.specs.TakesUpInOrder.{AnswersBuild, AnswersFor}
use Rattle.session_law.specs.TasksInOrder.{HasToldAll, TellsFor, TellsNext}

-- ---- claims behind a test

pub if_so : (b : Bool) (A : Type 0) → A → If b A
if_so true A a = a
if_so false A a = tt

if_then : (b : Bool) (A : Type 0) → (b ≡ true → A) → If b A
if_then true A a = a refl
if_then false A a = tt

pub if_not : (b : Bool) (A : Type 0) → b ≡ false → If b A
if_not true A other = absurd (true≢false other)
if_not false A other = tt

-- ---- the request at the head

abbrev pub is_built : Verdict → Bool
is_built (built build entries) = true
is_built v = false

-- a request that is owed this may tell something before it is answered
abbrev pub is_telling : Verdict → Bool
is_telling (built build entries) = true
is_telling (reloading space file) = true
is_telling v = false

pub untelling : (v : Verdict) → is_telling v ≡ false → is_built v ≡ false
untelling (built build entries) other = other
untelling (queued call) other = refl
untelling (asking root) other = refl
untelling (opening root file) other = refl
untelling (building build) other = refl
untelling (rereading space) other = refl
untelling (reloading space file) other = refl
untelling (cleaning space targets) other = refl
untelling (answering space question) other = refl
untelling closing other = refl
untelling (refusal code text) other = refl

-- no build is active that has this id
abbrev pub IsOtherThan : Id → Option Active → Type 0
IsOtherThan id None = Unit {0}
IsOtherThan id (Some active) = same_id id active.id ≡ false

pub unbuilt : (asked : Asked) (v : Verdict) → is_built v ≡ false → active_as asked v ≡ None
unbuilt asked (built build entries) other = absurd (true≢false other)
unbuilt asked (rereading space) other = refl
unbuilt asked (reloading space file) other = refl
unbuilt asked (cleaning space targets) other = refl
unbuilt asked (queued call) other = refl
unbuilt asked (asking root) other = refl
unbuilt asked (opening root file) other = refl
unbuilt asked (building build) other = refl
unbuilt asked (answering space question) other = refl
unbuilt asked closing other = refl
unbuilt asked (refusal code text) other = refl

first_other : (id : Id) (first : Asked) (v : Verdict) → HasOther id first → IsOtherThan id (active_as first v)
first_other id first (built build entries) other = other
first_other id first (queued call) other = tt
first_other id first (rereading space) other = tt
first_other id first (reloading space file) other = tt
first_other id first (cleaning space targets) other = tt
first_other id first (asking root) other = tt
first_other id first (opening root file) other = tt
first_other id first (building build) other = tt
first_other id first (answering space question) other = tt
first_other id first closing other = tt
first_other id first (refusal code text) other = tt

pub active_behind : (before rest : List Asked) (asked : Asked) → All (HasOther asked.id) before → is_built asked.verdict ≡ false
    → IsOtherThan asked.id (active_of (before ++ asked ∷ rest))
active_behind [] rest asked others other = subst (IsOtherThan asked.id) (sym (unbuilt asked asked.verdict other)) tt
active_behind (first ∷ before) rest asked others other = first_other asked.id first first.verdict (All-head (HasOther asked.id) first before others)

-- a response to another request says nothing of the active build
module _ (id : Id) (value : Data) (now : Now) where
  abbrev m : Said
  m = result (Some id) value

  answers_other : (active : Option Active) → IsOtherThan id active → AnswersFor m active
  answers_other None other = tt
  answers_other (Some active) other = if_not (same_id id active.id) (AnswersBuild active value) other

  shows_other : (active : Option Active) → IsOtherThan id active → ShowsFor m active now
  shows_other None other = tt
  shows_other (Some active) other = if_not (same_id id active.id) (ShowsAll active now.table) other

  tells_other : (active : Option Active) → IsOtherThan id active → TellsFor m active now
  tells_other None other = tt
  tells_other (Some active) other = if_not (same_id id active.id) (HasToldAll active now) other

  either_other : (active : Option Active) → IsOtherThan id active → ShowsEitherFor m active now
  either_other None other = tt
  either_other (Some active) other = if_not (same_id id active.id) (ShowsEither active now.table_at_hand now.table) other

  pub builds_other : (active : Option Active) (notices : List Said) (builds : List Told) → IsOtherThan id active → builds_by m active notices builds ≡ builds
  builds_other None notices builds other = refl
  builds_other (Some active) notices builds other = ap (λ same. if same then record { active = active; notices = notices; cleaned = [] } ∷ builds else builds) other

-- ---- what is told

-- a response to a request that waits for nothing tells nothing, whatever is at the head
quiet_as : (id : Id) (v : Verdict) (now : Now) (asked : Id) (value : Data) → same_id asked id ≡ false → TellsAs id v now (result (Some asked) value)
quiet_as id (built build entries) now asked value other = tt
quiet_as id (reloading space file) now asked value other = if_not (same_id asked id) (Reloads space file now.table_at_hand now.notices) other
quiet_as id (queued call) now asked value other = refl
quiet_as id (asking root) now asked value other = refl
quiet_as id (opening root file) now asked value other = refl
quiet_as id (building build) now asked value other = refl
quiet_as id (rereading space) now asked value other = refl
quiet_as id (cleaning space targets) now asked value other = refl
quiet_as id (answering space question) now asked value other = refl
quiet_as id closing now asked value other = refl
quiet_as id (refusal code text) now asked value other = refl

-- so does one to a request that tells nothing itself
quiet_own : (id : Id) (v : Verdict) (now : Now) (value : Data) → is_telling v ≡ false → TellsAs id v now (result (Some id) value)
quiet_own id (built build entries) now value other = tt
quiet_own id (reloading space file) now value other = absurd (true≢false other)
quiet_own id (queued call) now value other = refl
quiet_own id (asking root) now value other = refl
quiet_own id (opening root file) now value other = refl
quiet_own id (building build) now value other = refl
quiet_own id (rereading space) now value other = refl
quiet_own id (cleaning space targets) now value other = refl
quiet_own id (answering space question) now value other = refl
quiet_own id closing now value other = refl
quiet_own id (refusal code text) now value other = refl

pub quiet_result : (before rest : List Asked) (asked : Asked) (now : Now) (value : Data) → All (HasOther asked.id) before → is_telling asked.verdict ≡ false
    → TellsBy (before ++ asked ∷ rest) now (result (Some asked.id) value)
quiet_result [] rest asked now value others other = quiet_own asked.id asked.verdict now value other
quiet_result (first ∷ before) rest asked now value others other = quiet_as first.id first.verdict now asked.id value (All-head (HasOther asked.id) first before others)

-- a refusal tells nothing
failed_as : (id : Id) (v : Verdict) (now : Now) (refused : Option Id) (code : ℤ) (text : List ℕ) → TellsAs id v now (failure refused code text)
failed_as id (built build entries) now refused code text = tt
failed_as id (reloading space file) now refused code text = tt
failed_as id (queued call) now refused code text = refl
failed_as id (asking root) now refused code text = refl
failed_as id (opening root file) now refused code text = refl
failed_as id (building build) now refused code text = refl
failed_as id (rereading space) now refused code text = refl
failed_as id (cleaning space targets) now refused code text = refl
failed_as id (answering space question) now refused code text = refl
failed_as id closing now refused code text = refl
failed_as id (refusal owed message) now refused code text = refl

quiet_failure : (requests : List Asked) (now : Now) (refused : Option Id) (code : ℤ) (text : List ℕ) → TellsBy requests now (failure refused code text)
quiet_failure [] now refused code text = refl
quiet_failure (asked ∷ others) now refused code text = failed_as asked.id asked.verdict now refused code text

-- what a build tells isn't told by this
built_as : (asked : Asked) (v : Verdict) (active : Active) (now : Now) (m : Said) → active_as asked v ≡ Some active → TellsAs asked.id v now m
built_as asked (built build entries) active now m is = tt
built_as asked (queued call) active now m is = absurd (cc)
built_as asked (asking root) active now m is = absurd (cc)
built_as asked (opening root file) active now m is = absurd (cc)
built_as asked (building build) active now m is = absurd (cc)
built_as asked (rereading space) active now m is = absurd (cc)
built_as asked (reloading space file) active now m is = absurd (cc)
built_as asked (cleaning space targets) active now m is = absurd (cc)
built_as asked (answering space question) active now m is = absurd (cc)
built_as asked closing active now m is = absurd (cc)
built_as asked (refusal code text) active now m is = absurd (cc)

by_build : (requests : List Asked) (active : Active) (now : Now) (m : Said) → active_of requests ≡ Some active → TellsBy requests now m
by_build [] active now m is = absurd (cc)
by_build (asked ∷ others) active now m is = built_as asked asked.verdict active now m is

-- ---- what the request is owed that a response answers

pub owed_first : (force : Option Space) (rest : List Asked) (asked : Asked) → owed_to asked.id (first_up force (asked ∷ rest)) ≡ Some (due_in force asked.verdict)
owed_first force rest asked = ap (λ b. if b then Some (due_in force asked.verdict) else owed_to asked.id rest) (same_id_refl asked.id)

-- one that isn't of the queue is owed the same wherever it stands
pub owed_anywhere : (force : Option Space) (before rest : List Asked) (asked : Asked) → All (HasOther asked.id) before → due_in force asked.verdict ≡ asked.verdict
    → owed_to asked.id (first_up force (before ++ asked ∷ rest)) ≡ Some asked.verdict
owed_anywhere force [] rest asked others same = owed_first force rest asked ∙ ap Some same
owed_anywhere force (first ∷ before) rest asked others same =
    ap (λ b. if b then Some (due_in force first.verdict) else owed_to asked.id (before ++ asked ∷ rest)) (All-head (HasOther asked.id) first before others)
    ∙ owed_behind asked.id before rest asked (All-tail (HasOther asked.id) first before others) (same_id_refl asked.id)

-- one that may be judged at the head: it is owed this or that
pub owed_up : (force : Option Space) (before rest : List Asked) (asked : Asked) → All (HasOther asked.id) before → (P : Option Verdict → Type 0)
    → P (Some (due_in force asked.verdict)) → P (Some asked.verdict) → P (owed_to asked.id (first_up force (before ++ asked ∷ rest)))
owed_up force [] rest asked others P up waits = subst P (sym (owed_first force rest asked)) up
owed_up force (first ∷ before) rest asked others P up waits =
    subst P
    (sym (ap (λ b. if b then Some (due_in force first.verdict) else owed_to asked.id (before ++ asked ∷ rest)) (All-head (HasOther asked.id) first before others)
    ∙ owed_behind asked.id before rest asked (All-tail (HasOther asked.id) first before others) (same_id_refl asked.id)))
    waits

-- ---- what is owed at once

-- nothing is
pub record IsFree (now : Now) : Type 0 where
  pub requests : first_at_once now.requests ≡ None
  pub nulls : now.nulls ≡ []

pub first_free : (now : Now) (m : Said) → IsFree now → AnswersFirst now m
first_free now m free =
    record { requests = subst (λ o. AnswersIt o m) (sym free.requests) tt; nulls = subst (λ ns. AnswersNulls ns m) (sym free.nulls) tt }

-- the first request is of the queue, and no other is owed something at once
pub free_by : (now : Now) (asked : Asked) (others : List Asked) → now.requests ≡ asked ∷ others → is_of_queue asked.verdict ≡ true → OwesNoOther now → IsFree now
free_by now asked others are queue no_other =
    record {
      requests =
          ap first_at_once are
          ∙ (ap (λ b. if b then first_at_once others else Some asked) queue ∙ (ap (λ requests. first_at_once (drop 1 requests)) (sym are) ∙ no_other.requests));
      nulls = no_other.nulls;
    }

-- to no other request
pub record IsFreeBut (now : Now) (before rest : List Asked) : Type 0 where
  pub earlier : All IsOfQueue before
  pub later : All IsOfQueue rest
  pub nulls : now.nulls ≡ []

-- ---- responses to one of the requests that are there

module _ (now : Now) (before rest : List Asked) (asked : Asked) (are : now.requests ≡ before ++ asked ∷ rest) (others : All (HasOther asked.id) before) where
  is_open_one : is_open asked.id now.requests ≡ true
  is_open_one =
      ap (λ requests. is_some (owed_to asked.id requests)) are
      ∙ ap is_some (owed_behind asked.id before rest asked others (same_id_refl asked.id))

  -- it isn't open any more
  pub left_open : without asked.id now.requests ≡ before ++ rest
  left_open = ap (without asked.id) are ∙ without_behind asked.id before rest asked others (same_id_refl asked.id)

  -- what it is owed
  pub owed_open : owed_to asked.id now.requests ≡ Some asked.verdict
  owed_open = ap (owed_to asked.id) are ∙ owed_behind asked.id before rest asked others (same_id_refl asked.id)

  pub other_active : is_built asked.verdict ≡ false → IsOtherThan asked.id (active_of now.requests)
  other_active other = subst (λ requests. IsOtherThan asked.id (active_of requests)) (sym are) (active_behind before rest asked others other)

  first_own : IsFreeBut now before rest → (m : Said) → AnswersIt (Some asked) m → AnswersFirst now m
  first_own free m own =
      record {
        requests = subst (λ requests. AnswersIt (first_at_once requests) m) (sym are) (one_at_once before rest asked free.earlier free.later (λ o. AnswersIt o m) tt own);
        nulls = subst (λ ns. AnswersNulls ns m) (sym free.nulls) tt;
      }

  -- no request is to be cancelled
  module _ (v : Verdict) (free : IsFreeBut now before rest) (unmarked : first_marked now.requests ≡ None) (stands : owed_to asked.id (standing now) ≡ Some v) where
    pub allowed_result : (value : Data) → IsGranted (Some v) value → is_telling asked.verdict ≡ false → IsFramed (result (Some asked.id) value)
        → WriteAllowed now (result (Some asked.id) value)
    allowed_result value granted other framed =
        let m = result (Some asked.id) value in
        let apart = other_active (untelling asked.verdict other) in
        record {
          framed = framed;
          once = is_open_one;
          in_builds = subst (λ requests. TellsBy requests now m) (sym are) (quiet_result before rest asked now value others other);
          by_marks = subst (λ o. GoesOnOrCancels o now m) (sym unmarked) (record {
            first = first_own free m (same_id_refl asked.id);
            exact = subst (λ o. IsGranted o value) (sym stands) granted;
            in_order = answers_other asked.id value now (active_of now.requests) apart;
            shows = shows_other asked.id value now (active_of now.requests) apart;
            tasks = tells_other asked.id value now (active_of now.requests) apart;
          });
        }

    pub allowed_refusal : (code : ℤ) (text : List ℕ) → IsRefused (Some v) code text → IsFramed (failure (Some asked.id) code text)
        → WriteAllowed now (failure (Some asked.id) code text)
    allowed_refusal code text refused framed =
        let m = failure (Some asked.id) code text in
        record {
          framed = framed;
          once = is_open_one;
          in_builds = quiet_failure now.requests now (Some asked.id) code text;
          by_marks = subst (λ o. GoesOnOrCancels o now m) (sym unmarked) (record {
            first = first_own free m (same_id_refl asked.id);
            exact = subst (λ o. IsRefused o code text) (sym stands) refused;
            in_order = tt;
            shows = tt;
            tasks = tt;
          });
        }

  -- it is the first that is to be cancelled, and waits
  pub allowed_cancel : (call : Call) (m : Said) → asked.verdict ≡ queued call → first_marked now.requests ≡ Some asked → CancelsForCause asked now m
      → (value : Data) → m ≡ result (Some asked.id) value → IsFramed m → WriteAllowed now m
  allowed_cancel call m waits marked owes value is framed =
      let untold : is_telling asked.verdict ≡ false = ap is_telling waits in
      let apart = other_active (ap is_built waits) in
      let response = result (Some asked.id) value in
      subst (WriteAllowed now) (sym is)
      (record {
        framed = subst IsFramed is framed;
        once = is_open_one;
        in_builds = subst (λ requests. TellsBy requests now response) (sym are) (quiet_result before rest asked now value others untold);
        by_marks = subst (λ o. GoesOnOrCancels o now response) (sym marked) (record {
          for_cause = subst (CancelsForCause asked now) is owes;
          old_or_new = either_other asked.id value now (active_of now.requests) apart;
        });
      })

  -- the same where it is refused as cancelled
  pub allowed_refused_cancel : (call : Call) (code : ℤ) (text : List ℕ) → asked.verdict ≡ queued call → first_marked now.requests ≡ Some asked
      → CancelsForCause asked now (failure (Some asked.id) code text) → IsFramed (failure (Some asked.id) code text) → WriteAllowed now (failure (Some asked.id) code text)
  allowed_refused_cancel call code text waits marked owes framed =
      let m = failure (Some asked.id) code text in
      record {
        framed = framed;
        once = is_open_one;
        in_builds = quiet_failure now.requests now (Some asked.id) code text;
        by_marks = subst (λ o. GoesOnOrCancels o now m) (sym marked) (record { for_cause = owes; old_or_new = tt });
      }

-- ---- the response with the id null

pub allowed_null : (now : Now) (code : ℤ) (others : List ℤ) → now.nulls ≡ code ∷ others → All IsOfQueue now.requests → first_marked now.requests ≡ None
    → IsFramed (failure None code (null_message code)) → WriteAllowed now (failure None code (null_message code))
allowed_null now code others are all unmarked framed =
    let m = failure None code (null_message code) in
    record {
      framed = framed;
      once = record { first = code; others = others; are = are };
      in_builds = quiet_failure now.requests now None code (null_message code);
      by_marks = subst (λ o. GoesOnOrCancels o now m) (sym unmarked) (record {
        first = record {
          requests = subst (λ o. AnswersIt o m) (sym (none_at_once now.requests all)) tt;
          nulls = subst (λ ns. AnswersNulls ns m) (sym are) tt;
        };
        exact = rw are (refl, refl);
        in_order = tt;
        shows = tt;
        tasks = tt;
      });
    }

-- ---- what the active build writes

module _ (now : Now) (active : Active) (is_active : active_of now.requests ≡ Some active) where
  -- where no request is to be cancelled
  module _ (free : IsFree now) (unmarked : first_marked now.requests ≡ None) where
    pub allowed_notice : (method : List ℕ) (params : Option Data) → TellsNext active now (notification method params)
        → (is_publication (notification method params) ≡ true → PublishesNext active now (notification method params)) → IsFramed (notification method params)
        → WriteAllowed now (notification method params)
    allowed_notice method params tells next framed =
        let m = notification method params in
        record {
          framed = framed;
          once = tt;
          in_builds = by_build now.requests active now m is_active;
          by_marks = subst (λ o. GoesOnOrCancels o now m) (sym unmarked) (record {
            first = first_free now m free;
            exact = tt;
            in_order = tt;
            shows = subst (λ a. ShowsFor m a now) (sym is_active) (if_then (is_publication m) (PublishesNext active now m) next);
            tasks = subst (λ a. TellsFor m a now) (sym is_active) tells;
          });
        }

    pub allowed_build : (value : Data) → is_open active.id now.requests ≡ true → IsGranted (owed_to active.id (standing now)) value → AnswersBuild active value
        → ShowsAll active now.table → HasToldAll active now → IsFramed (result (Some active.id) value) → WriteAllowed now (result (Some active.id) value)
    allowed_build value there granted answers shows told framed =
        let m = result (Some active.id) value in
        record {
          framed = framed;
          once = there;
          in_builds = by_build now.requests active now m is_active;
          by_marks = subst (λ o. GoesOnOrCancels o now m) (sym unmarked) (record {
            first = first_free now m free;
            exact = granted;
            in_order = subst (AnswersFor m) (sym is_active) (if_so (same_id active.id active.id) (AnswersBuild active value) answers);
            shows = subst (λ a. ShowsFor m a now) (sym is_active) (if_so (same_id active.id active.id) (ShowsAll active now.table) shows);
            tasks = subst (λ a. TellsFor m a now) (sym is_active) (if_so (same_id active.id active.id) (HasToldAll active now) told);
          });
        }

  -- where it is to be cancelled
  module _ (asked : Asked) (marked : first_marked now.requests ≡ Some asked) where
    pub allowed_cancels : (method : List ℕ) (params : Option Data) → CancelsForCause asked now (notification method params)
        → IsFramed (notification method params) → WriteAllowed now (notification method params)
    allowed_cancels method params cancels framed =
        let m = notification method params in
        record {
          framed = framed;
          once = tt;
          in_builds = by_build now.requests active now m is_active;
          by_marks = subst (λ o. GoesOnOrCancels o now m) (sym marked) (record { for_cause = cancels; old_or_new = tt });
        }

    pub allowed_cancelled : (value : Data) → is_open active.id now.requests ≡ true → CancelsForCause asked now (result (Some active.id) value)
        → ShowsEither active now.table_at_hand now.table → IsFramed (result (Some active.id) value) → WriteAllowed now (result (Some active.id) value)
    allowed_cancelled value there cancels shows framed =
        let m = result (Some active.id) value in
        record {
          framed = framed;
          once = there;
          in_builds = by_build now.requests active now m is_active;
          by_marks = subst (λ o. GoesOnOrCancels o now m) (sym marked) (record {
            for_cause = cancels;
            old_or_new = subst (λ a. ShowsEitherFor m a now) (sym is_active) (if_so (same_id active.id active.id) (ShowsEither active now.table_at_hand now.table) shows);
          });
        }
