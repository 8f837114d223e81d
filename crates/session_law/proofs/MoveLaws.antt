-- How what is open moves as messages are written: what is allowed, and what is open behind it.
use Rattle.std.proofs.Common.{◌≡◌, ◌++◌, ◌||◌, ℕ, ℤ, List, [], ◌∷◌, Bool, true, false, All, Option, Some, None, refl, ap, sym, ◌∙◌, subst, append-nil, append_assoc, true≢false}
use Rattle.std.specs.Prelude.{drop, if◌then◌else◌}
use Rattle.std.proofs.lemmas.List.Elements.{All-append, All-cons, All-head, All-nil, All-tail}
use Rattle.rpc_peer.specs.declared.message.Id.{Id}
use Rattle.rpc_peer.specs.Said.{Said, result, failure}
use Rattle.bsp_records.specs.declared.identifiers.BuildTargetIdentifier.{BuildTargetIdentifier}
use Rattle.bsp_records.specs.Results.{compile_result_data}
use Rattle.bsp_records.specs.declared.results.StatusCode.TheVariants as statuses
use Rattle.serde_json.specs.Data.{Data}
use Rattle.target_graph.specs.Workspace.{Space}
use Rattle.session_law.proofs.OpenLaws.{GoOn, GoesOn, all_queued, apart_without, due_first, due_last, due_null, marked_waiting, others_before, queued_before, unmarked, waiting_queued}
use Rattle.session_law.proofs.RequestLaws.{HasOther, IsOfQueue, IsUnmarked}
use Rattle.session_law.proofs.WriteLaws.{IsFreeBut, allowed_cancel, allowed_null, allowed_refused_cancel, allowed_refusal, allowed_result, builds_other, is_built, is_telling, left_open, other_active, owed_anywhere, owed_first, owed_up, untelling}
use Rattle.session_law.specs.Builds.{cancelled_said}
use Rattle.session_law.specs.CancelsForCause.{CancelsAs, call_cancelled, refused_cancelled}
use Rattle.session_law.specs.History.{Told}
use Rattle.session_law.specs.IsFramed.{IsFramed}
use Rattle.session_law.specs.Lawful.{WriteAllowed}
use Rattle.session_law.specs.Methods.{Call, Found, Verdict, all_found, unknown_at, asking, opening, queued, building, built, rereading, reloading, cleaning, answering, closing, refusal, due_in, found_build, found_from, null_message, request_cancelled, to_build, to_reload, to_clean}
use Rattle.session_law.specs.Open.{AreApart, First, IsFirst, IsOneDue, IsOpen, IsUp, IsWaiting, Open, Owes, none, owing, working, asking_for}
use Rattle.session_law.specs.Order.{write}
use Rattle.session_law.specs.Past.{Now, by_event, builds_by, cleaned_by, closes, force_by, granted_in}
use Rattle.session_law.specs.RefusesExactly.{IsGranted, IsRefused}
use Rattle.session_law.specs.Requests.{Asked, active_of, first_up, owed_to}

waits_without : (ws rest : List Asked) (asked : Asked) → All IsWaiting (ws ++ asked ∷ rest) → All IsWaiting (ws ++ rest)
waits_without [] rest asked all = All-tail IsWaiting asked rest all
waits_without (w ∷ ws) rest asked all =
    All-cons IsWaiting w (ws ++ rest) (All-head IsWaiting w (ws ++ asked ∷ rest) all) (waits_without ws rest asked (All-tail IsWaiting w (ws ++ asked ∷ rest) all))

-- ---- what a request at the head goes by stays

pub record Keeps (old new : Now) : Type 0 where
  pub force : new.force ≡ old.force
  pub builds : new.builds ≡ old.builds
  pub table : new.table_at_hand ≡ old.table_at_hand

pub same_first : (first : First) (old new : Now) (head : List Asked) → Keeps old new → IsFirst first old head → IsFirst first new head
same_first none old new head keeps is = is
same_first (owing id number v) old new head keeps is = record { judged = is.judged; are = is.are; stands = ap (λ f. due_in f is.judged) keeps.force ∙ is.stands }
same_first (working g marked) old new head keeps is =
    (is.0, record { are = is.1.are; active_is = is.1.active_is; earlier_is = is.1.earlier_is ∙ sym keeps.builds; table_is = is.1.table_is ∙ sym keeps.table })

-- ---- the request that was taken last is answered

module _ (o : Open) (now : Now) (is : IsOpen o now) (id : Id) (number : ℕ) (v : Verdict) (last : o.last ≡ asking_for id number v ∷ []) where
  abbrev before : List Asked
  before = is.head ++ o.waiting

  abbrev one : Asked
  one = asking_for id number v

  whole : now.requests ≡ before ++ one ∷ []
  whole = is.requests_are ∙ (ap (λ l. is.head ++ (o.waiting ++ l)) last ∙ sym (append_assoc is.head o.waiting (one ∷ [])))

  apart : AreApart (before ++ one ∷ [])
  apart = subst AreApart whole is.apart

  others : All (HasOther id) before
  others = others_before before [] one apart

  -- what is open behind a response to it, where that changes nothing that the head goes by
  pub closed_last : (new : Now) → Keeps now new → new.requests ≡ before ++ [] → new.nulls ≡ now.nulls → IsOpen (record o { last = [] }) new
  closed_last new keeps requests nulls =
      record {
        head = is.head;
        first_is = same_first o.first now new is.head keeps is.first_is;
        requests_are = requests ∙ append_assoc is.head o.waiting [];
        waits = is.waits;
        apart = subst AreApart (sym requests) (apart_without before [] one apart);
        nulls_are = nulls ∙ is.nulls_are;
      }

  pub same_builds_last : (value : Data) → is_built v ≡ false → builds_by (result (Some id) value) (active_of now.requests) now.notices now.builds ≡ now.builds
  same_builds_last value other = builds_other id value now (active_of now.requests) now.notices now.builds (other_active now before [] one whole others other)

  pub last_granted : (value : Data) → due_in now.force v ≡ v → granted_in (result (Some id) value) now ≡ Some v
  last_granted value at_once = ap (λ requests. owed_to id (first_up now.force requests)) whole ∙ owed_anywhere now.force before [] one others at_once

  module _ (go : GoOn o) (at_once : due_in now.force v ≡ v) (other : is_telling v ≡ false) where
    due : (o.nulls ≡ []) × IsUp o.first
    due = due_last o.first one o.nulls (subst (λ l. IsOneDue o.first l o.nulls) last go.one)

    free : IsFreeBut now before []
    free = record { earlier = queued_before o now is due.1; later = All-nil IsOfQueue; nulls = is.nulls_are ∙ due.0 }

    stands : owed_to id (first_up now.force now.requests) ≡ Some v
    stands = ap (λ requests. owed_to id (first_up now.force requests)) whole ∙ owed_anywhere now.force before [] one others at_once

    pub answers_last : (value : Data) → IsGranted (Some v) value → IsFramed (result (Some id) value) → WriteAllowed now (result (Some id) value)
    answers_last value granted framed = allowed_result now before [] one whole others v free (unmarked o now is go) stands value granted other framed

    pub refuses_last : (code : ℤ) (text : List ℕ) → IsRefused (Some v) code text → IsFramed (failure (Some id) code text) → WriteAllowed now (failure (Some id) code text)
    refuses_last code text refused framed = allowed_refusal now before [] one whole others v free (unmarked o now is go) stands code text refused framed

  -- nothing is cleaned by it
  pub builds_last : (value : Data) → due_in now.force v ≡ v → is_telling v ≡ false → cleaned_by (Some v) now.builds ≡ now.builds
      → (by_event (write (result (Some id) value)) now).builds ≡ now.builds
  builds_last value at_once other cleans =
      ap (λ bs. cleaned_by (granted_in (result (Some id) value) now) bs) (same_builds_last value (untelling v other))
      ∙ (ap (λ w. cleaned_by w now.builds) (last_granted value at_once) ∙ cleans)

  -- a result that grants no workspace and cleans nothing keeps what the head goes by
  pub result_last : (value : Data) → due_in now.force v ≡ v → is_telling v ≡ false → force_by (Some v) now.force ≡ now.force → cleaned_by (Some v) now.builds ≡ now.builds
      → IsOpen (record o { last = [] }) (by_event (write (result (Some id) value)) now)
  result_last value at_once other same cleans =
      closed_last (by_event (write (result (Some id) value)) now)
      (record {
        force = ap (λ v'. force_by v' now.force) (last_granted value at_once) ∙ same;
        builds = builds_last value at_once other cleans;
        table = refl;
      })
      (left_open now before [] one whole others) refl

  pub failure_last : (code : ℤ) (text : List ℕ) → IsOpen (record o { last = [] }) (by_event (write (failure (Some id) code text)) now)
  failure_last code text =
      closed_last (by_event (write (failure (Some id) code text)) now) (record { force = refl; builds = refl; table = refl })
      (left_open now before [] one whole others) refl

-- ---- a code is answered with the id null

pub answers_null : (o : Open) (now : Now) (is : IsOpen o now) (code : ℤ) (later : List ℤ) → GoOn o → o.nulls ≡ code ∷ later
    → IsFramed (failure None code (null_message code)) → WriteAllowed now (failure None code (null_message code))
answers_null o now is code later go nulls framed =
    let due = due_null o.first o.last code later (subst (λ ns. IsOneDue o.first o.last ns) nulls go.one) in
    allowed_null now code later (is.nulls_are ∙ nulls) (all_queued o now is due.1 due.0) (unmarked o now is go) framed

pub answered_null : (o : Open) (now : Now) (is : IsOpen o now) (code : ℤ) (later : List ℤ) → o.nulls ≡ code ∷ later
    → IsOpen (record o { nulls = later }) (by_event (write (failure None code (null_message code))) now)
answered_null o now is code later nulls =
    record {
      head = is.head;
      first_is = same_first o.first now (by_event (write (failure None code (null_message code))) now) is.head (record { force = refl; builds = refl; table = refl }) is.first_is;
      requests_are = is.requests_are;
      waits = is.waits;
      apart = is.apart;
      nulls_are = ap (drop 1) (is.nulls_are ∙ nulls);
    }

-- ---- the request at the head is answered

-- what is a build at the head was one before it was judged there
unbuilt_judged : (force : Option Space) (judged v : Verdict) → due_in force judged ≡ v → is_built v ≡ false → is_built judged ≡ false
unbuilt_judged force (built build entries) v is other = ap is_built is ∙ other
unbuilt_judged force (rereading space) v is other = refl
unbuilt_judged force (reloading space file) v is other = refl
unbuilt_judged force (cleaning space targets) v is other = refl
unbuilt_judged force (queued call) v is other = refl
unbuilt_judged force (asking root) v is other = refl
unbuilt_judged force (opening root file) v is other = refl
unbuilt_judged force (building build) v is other = refl
unbuilt_judged force (answering space question) v is other = refl
unbuilt_judged force closing v is other = refl
unbuilt_judged force (refusal code text) v is other = refl

-- and so it is with what tells something
untelling_judged : (force : Option Space) (judged v : Verdict) → due_in force judged ≡ v → is_telling v ≡ false → is_telling judged ≡ false
untelling_judged force (built build entries) v is other = ap is_telling is ∙ other
untelling_judged force (reloading space file) v is other = ap is_telling is ∙ other
untelling_judged force (queued call) v is other = refl
untelling_judged force (asking root) v is other = refl
untelling_judged force (opening root file) v is other = refl
untelling_judged force (building build) v is other = refl
untelling_judged force (rereading space) v is other = refl
untelling_judged force (cleaning space targets) v is other = refl
untelling_judged force (answering space question) v is other = refl
untelling_judged force closing v is other = refl
untelling_judged force (refusal code text) v is other = refl

module _ (o : Open) (now : Now) (is : IsOpen o now) (id : Id) (number : ℕ) (v : Verdict) (first : o.first ≡ owing id number v) where
  pub owes : Owes now.force id number v is.head
  owes = subst (λ f. IsFirst f now is.head) first is.first_is

  abbrev behind : List Asked
  behind = o.waiting ++ o.last

  abbrev own : Asked
  own = asking_for id number owes.judged

  pub at_head : now.requests ≡ own ∷ behind
  at_head = is.requests_are ∙ ap (λ h. h ++ behind) owes.are

  none_before : All (HasOther id) []
  none_before = All-nil (HasOther id)

  -- what is open behind a response to it
  closed_first : (new : Now) → new.requests ≡ behind → new.nulls ≡ now.nulls → IsOpen (record o { first = none }) new
  closed_first new requests nulls =
      record {
        head = [];
        first_is = refl;
        requests_are = requests;
        waits = is.waits;
        apart = subst AreApart (sym requests) (apart_without [] behind own (subst AreApart at_head is.apart));
        nulls_are = nulls ∙ is.nulls_are;
      }

  pub stands_first : owed_to id (first_up now.force now.requests) ≡ Some v
  stands_first = ap (λ requests. owed_to id (first_up now.force requests)) at_head ∙ (owed_first now.force behind own ∙ ap Some owes.stands)

  pub granted_first : (value : Data) → granted_in (result (Some id) value) now ≡ Some v
  granted_first value = stands_first

  module _ (other : is_built v ≡ false) where
    pub same_builds_first : (value : Data) → builds_by (result (Some id) value) (active_of now.requests) now.notices now.builds ≡ now.builds
    same_builds_first value =
        builds_other id value now (active_of now.requests) now.notices now.builds
        (other_active now [] behind own at_head none_before (unbuilt_judged now.force owes.judged v owes.stands other))

    pub builds_first : (value : Data) → (by_event (write (result (Some id) value)) now).builds ≡ cleaned_by (Some v) now.builds
    builds_first value =
        ap (λ bs. cleaned_by (granted_in (result (Some id) value) now) bs) (same_builds_first value)
        ∙ ap (λ w. cleaned_by w now.builds) (granted_first value)

  module _ (go : GoOn o) where
    due_own : (o.last ≡ []) × (o.nulls ≡ [])
    due_own = due_first id number v o.last o.nulls (subst (λ f. IsOneDue f o.last o.nulls) first go.one)

    pub queued_behind : All IsOfQueue behind
    queued_behind = subst (λ l. All IsOfQueue (o.waiting ++ l)) (sym due_own.0) (subst (All IsOfQueue) (sym (append-nil o.waiting)) (waiting_queued o.waiting is.waits))

    pub nothing_null : now.nulls ≡ []
    nothing_null = is.nulls_are ∙ due_own.1

    free_first : IsFreeBut now [] behind
    free_first = record { earlier = All-nil IsOfQueue; later = queued_behind; nulls = nothing_null }

    pub answers_first : (value : Data) → is_telling v ≡ false → IsGranted (Some v) value → IsFramed (result (Some id) value) → WriteAllowed now (result (Some id) value)
    answers_first value other granted framed =
        allowed_result now [] behind own at_head none_before v free_first (unmarked o now is go) stands_first value granted
        (untelling_judged now.force owes.judged v owes.stands other) framed

    pub refuses_first : (code : ℤ) (text : List ℕ) → IsRefused (Some v) code text → IsFramed (failure (Some id) code text) → WriteAllowed now (failure (Some id) code text)
    refuses_first code text refused framed =
        allowed_refusal now [] behind own at_head none_before v free_first (unmarked o now is go) stands_first code text refused framed

  pub result_first : (value : Data) → IsOpen (record o { first = none }) (by_event (write (result (Some id) value)) now)
  result_first value = closed_first (by_event (write (result (Some id) value)) now) (left_open now [] behind own at_head none_before) refl

  pub failure_first : (code : ℤ) (text : List ℕ) → IsOpen (record o { first = none }) (by_event (write (failure (Some id) code text)) now)
  failure_first code text = closed_first (by_event (write (failure (Some id) code text)) now) (left_open now [] behind own at_head none_before) refl

-- ---- a request that waits is cancelled

-- a result to a request that was owed this changes neither the workspace in force nor which builds count, and closes nothing
pub record ChangesNothing (granted : Option Verdict) : Type 0 where
  pub force : (f : Option Space) → force_by granted f ≡ f
  pub closed : closes granted ≡ false
  pub builds : (bs : List Told) → cleaned_by granted bs ≡ bs

nothing_found : (space : Space) (origin : Option (List ℕ)) (found : Found) → ChangesNothing (Some (found_build space origin found))
nothing_found space origin (all_found targets) = record { force = λ f. refl; closed = refl; builds = λ bs. refl }
nothing_found space origin (unknown_at index) = record { force = λ f. refl; closed = refl; builds = λ bs. refl }

nothing_up : (force : Option Space) (targets : List BuildTargetIdentifier) (origin : Option (List ℕ)) → ChangesNothing (Some (due_in force (queued (to_build targets origin))))
nothing_up None targets origin = record { force = λ f. refl; closed = refl; builds = λ bs. refl }
nothing_up (Some space) targets origin = nothing_found space origin (found_from space 0 targets)

module _ (o : Open) (now : Now) (is : IsOpen o now) (ws rest : List Asked) (asked : Asked) (waits : o.waiting ≡ ws ++ asked ∷ rest) where
  abbrev ahead : List Asked
  ahead = is.head ++ ws

  all_are : now.requests ≡ ahead ++ asked ∷ (rest ++ o.last)
  all_are =
      is.requests_are
      ∙ (ap (λ w. is.head ++ (w ++ o.last)) waits
      ∙ (ap (λ w. is.head ++ w) (append_assoc ws (asked ∷ rest) o.last) ∙ sym (append_assoc is.head ws (asked ∷ (rest ++ o.last)))))

  apart_all : AreApart (ahead ++ asked ∷ (rest ++ o.last))
  apart_all = subst AreApart all_are is.apart

  ahead_others : All (HasOther asked.id) ahead
  ahead_others = others_before ahead (rest ++ o.last) asked apart_all

  -- a build that waits is owed nothing that a result would change the session by
  pub nothing_granted : (targets : List BuildTargetIdentifier) (origin : Option (List ℕ)) → asked.verdict ≡ queued (to_build targets origin) → (value : Data)
      → ChangesNothing (granted_in (result (Some asked.id) value) now)
  nothing_granted targets origin call value =
      subst (λ requests. ChangesNothing (owed_to asked.id (first_up now.force requests))) (sym all_are)
      (owed_up now.force ahead (rest ++ o.last) asked ahead_others ChangesNothing
      (subst (λ v. ChangesNothing (Some (due_in now.force v))) (sym call) (nothing_up now.force targets origin))
      (subst (λ v. ChangesNothing (Some v)) (sym call) (record { force = λ f. refl; closed = refl; builds = λ bs. refl })))

  pub same_builds_waiting : (value : Data) → is_built asked.verdict ≡ false → builds_by (result (Some asked.id) value) (active_of now.requests) now.notices now.builds ≡ now.builds
  same_builds_waiting value other =
      builds_other asked.id value now (active_of now.requests) now.notices now.builds (other_active now ahead (rest ++ o.last) asked all_are ahead_others other)

  -- an answer to it that is a result changes nothing else
  pub builds_waiting : (targets : List BuildTargetIdentifier) (origin : Option (List ℕ)) → asked.verdict ≡ queued (to_build targets origin) → (value : Data)
      → (by_event (write (result (Some asked.id) value)) now).builds ≡ now.builds
  builds_waiting targets origin call value =
      ap (λ bs. cleaned_by (granted_in (result (Some asked.id) value) now) bs) (same_builds_waiting value (ap is_built call))
      ∙ (nothing_granted targets origin call value).builds now.builds

  -- what is open once it was answered, where nothing changed that the head goes by
  closed_waiting : (new : Now) → Keeps now new → new.requests ≡ ahead ++ (rest ++ o.last) → new.nulls ≡ now.nulls → IsOpen (record o { waiting = ws ++ rest }) new
  closed_waiting new keeps requests nulls =
      record {
        head = is.head;
        first_is = same_first o.first now new is.head keeps is.first_is;
        requests_are = requests ∙ (append_assoc is.head ws (rest ++ o.last) ∙ ap (λ w. is.head ++ w) (sym (append_assoc ws rest o.last)));
        waits = waits_without ws rest asked (subst (All IsWaiting) waits is.waits);
        apart = subst AreApart (sym requests) (apart_without ahead (rest ++ o.last) asked apart_all);
        nulls_are = nulls ∙ is.nulls_are;
      }

  module _ (goes : GoesOn o.first) (before : All IsUnmarked ws) (mark : asked.cancelled ≡ true) where
    pub cancels_waiting : (call : Call) → asked.verdict ≡ queued call → IsFramed (call_cancelled asked.id call) → WriteAllowed now (call_cancelled asked.id call)
    unfolding cancelled_said refused_cancelled
    cancels_waiting (to_build targets origin) call_is framed =
        allowed_cancel now ahead (rest ++ o.last) asked all_are ahead_others (to_build targets origin) (cancelled_said asked.id origin) call_is
        (marked_waiting o now is ws rest asked goes waits before mark)
        (subst (λ v. CancelsAs asked v now (cancelled_said asked.id origin)) (sym call_is) refl) _ refl framed
    cancels_waiting to_reload call_is framed =
        allowed_refused_cancel now ahead (rest ++ o.last) asked all_are ahead_others to_reload request_cancelled _ call_is
        (marked_waiting o now is ws rest asked goes waits before mark)
        (subst (λ v. CancelsAs asked v now (refused_cancelled asked.id)) (sym call_is) refl) framed
    cancels_waiting (to_clean targets) call_is framed =
        allowed_refused_cancel now ahead (rest ++ o.last) asked all_are ahead_others (to_clean targets) request_cancelled _ call_is
        (marked_waiting o now is ws rest asked goes waits before mark)
        (subst (λ v. CancelsAs asked v now (refused_cancelled asked.id)) (sym call_is) refl) framed

  pub cancelled_waiting : (call : Call) → asked.verdict ≡ queued call → IsOpen (record o { waiting = ws ++ rest }) (by_event (write (call_cancelled asked.id call)) now)
  unfolding cancelled_said refused_cancelled
  cancelled_waiting (to_build targets origin) call_is =
      let value = compile_result_data (record { origin_id = origin; status_code = statuses.Cancelled }) in
      closed_waiting (by_event (write (cancelled_said asked.id origin)) now)
      (record { force = (nothing_granted targets origin call_is value).force now.force; builds = builds_waiting targets origin call_is value; table = refl })
      (left_open now ahead (rest ++ o.last) asked all_are ahead_others) refl
  cancelled_waiting to_reload call_is =
      closed_waiting (by_event (write (refused_cancelled asked.id)) now) (record { force = refl; builds = refl; table = refl })
      (left_open now ahead (rest ++ o.last) asked all_are ahead_others) refl
  cancelled_waiting (to_clean targets) call_is =
      closed_waiting (by_event (write (refused_cancelled asked.id)) now) (record { force = refl; builds = refl; table = refl })
      (left_open now ahead (rest ++ o.last) asked all_are ahead_others) refl
