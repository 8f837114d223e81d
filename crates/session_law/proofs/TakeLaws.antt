-- What is open once a body was taken, once the input ended, and once the tree answered.
use Rattle.std.proofs.Common.{◌≡◌, ◌≢◌, ◌++◌, ◌||◌, ◌&&◌, ℕ, ℤ, suc, List, [], ◌∷◌, Bool, true, false, All, AllPairs, Option, Some, None, Result, Ok, Err, refl, ap, sym, ◌∙◌, subst, append-nil, append_assoc, true≢false}
use Rattle.std.specs.Prelude.{drop, if◌then◌else◌, is_some, IfSome}
use Rattle.std.proofs.lemmas.Bool.{false≢true}
use Rattle.std.proofs.lemmas.List.Elements.{All-append, All-cons, All-head, All-nil, All-tail}
use Rattle.std.proofs.lemmas.List.Kept.{AllPairs-cons}
use Rattle.ob_text.specs.Held.{Entries}
use Rattle.rpc_peer.specs.declared.message.Id.{Id}
use Rattle.rpc_peer.specs.Meaning.{invalid_request, meaning}
use Rattle.rpc_peer.specs.OpenIds.{same_id}
use Rattle.rpc_peer.specs.Said.{Said, request, notification, result, failure}
use Rattle.serde_json.specs.Data.{Data}
use Rattle.target_graph.specs.Workspace.{Space}
use Rattle.session_law.proofs.MoveLaws.{Keeps, owes, same_first}
use Rattle.session_law.proofs.OpenLaws.{GoOn, GoesOn, apart_push, pairs_head, pairs_tail, waiting_queued}
use Rattle.session_law.proofs.RequestLaws.{HasOther, IsUnmarked, marked-append, marks_none, none_at_once}
use Rattle.session_law.proofs.WriteLaws.{is_built}
use Rattle.session_law.specs.AnswersAtOnce.{HeadIsUp, IsCaughtUp, MayWait, Waits}
use Rattle.session_law.specs.AnswersFirst.{OwesNoOther, first_at_once}
use Rattle.session_law.specs.Course.{AreGiven, Given}
use Rattle.session_law.specs.Lawful.{AreHeld, HandAllowed}
use Rattle.session_law.specs.Methods.{Build, Verdict, asking, opening, queued, building, built, rereading, reloading, cleaning, answering, closing, refusal, due_in, verdict}
use Rattle.session_law.specs.Open.{AreApart, First, IsFirst, IsLater, IsOpen, IsUp, IsWaiting, Open, Owes, none, owing, working, asking_for, working_on}
use Rattle.session_law.specs.Order.{take, ends, hand}
use Rattle.session_law.specs.Past.{Now, by_event, nulls_for, nulls_for_end, standing}
use Rattle.session_law.specs.Requests.{Asked, IsWanted, WantedBy, Wants, all_marked, cancels, first_up, handed_by, handed_over, is_closing, is_open, joined, marked_if, marked_where, opened_by, owed_to}
use Rattle.session_law.specs.declared.InputEnd.{InputEnd}

-- ---- marks

-- the request at the head is marked where this holds of it
abbrev pub marked_head : (Asked → Bool) → First → First
marked_head marks none = none
marked_head marks (owing id number v) = owing id number v
marked_head marks (working g marked) = working g (marked || marks (working_on g marked))

and_true : (b : Bool) → (b && true) ≡ b
and_true true = refl
and_true false = refl

marks_head : (marks : Asked → Bool) (first : First) (old new : Now) (head : List Asked) → IsUp first → Keeps old new → IsFirst first old head → IsFirst (marked_head marks first) new (marked_where marks head)
marks_head marks none old new head up keeps is = ap (marked_where marks) is
marks_head marks (owing id number v) old new head up keeps is = absurd up
marks_head marks (working g marked) old new head up keeps is =
    let kept = same_first (working g marked) old new head keeps is in (
      ap (marked_where marks) is.0 ∙ (λ i. record (working_on g marked) { cancelled = marked || and_true (marks (working_on g marked)) i } ∷ []),
      record { are = kept.1.are; active_is = kept.1.active_is; earlier_is = kept.1.earlier_is; table_is = kept.1.table_is },
    )

marks_wait : (marks : Asked → Bool) (requests : List Asked) → All IsWaiting requests → All IsWaiting (marked_where marks requests)
marks_wait marks [] all = All-nil IsWaiting
marks_wait marks (asked ∷ requests) all =
    let one = All-head IsWaiting asked requests all in
    All-cons IsWaiting (marked_if (marks asked) asked) (marked_where marks requests) (record { call = one.call; is = one.is })
    (marks_wait marks requests (All-tail IsWaiting asked requests all))

marks_later : (marks : Asked → Bool) (first : Asked) (requests : List Asked) → All (IsLater first) requests → All (IsLater (marked_if (marks first) first)) (marked_where marks requests)
marks_later marks first [] all = All-nil (IsLater (marked_if (marks first) first))
marks_later marks first (asked ∷ requests) all =
    All-cons (IsLater (marked_if (marks first) first)) (marked_if (marks asked) asked) (marked_where marks requests) (All-head (IsLater first) asked requests all)
    (marks_later marks first requests (All-tail (IsLater first) asked requests all))

marks_apart : (marks : Asked → Bool) (requests : List Asked) → AreApart requests → AreApart (marked_where marks requests)
marks_apart marks [] apart = apart
marks_apart marks (asked ∷ requests) apart =
    AllPairs-cons IsLater (marked_if (marks asked) asked) (marked_where marks requests)
    (marks_later marks asked requests (pairs_head IsLater asked requests apart))
    (marks_apart marks requests (pairs_tail IsLater asked requests apart))

marks_others : (marks : Asked → Bool) (id : Id) (requests : List Asked) → All (HasOther id) requests → All (HasOther id) (marked_where marks requests)
marks_others marks id [] all = All-nil (HasOther id)
marks_others marks id (asked ∷ requests) all =
    All-cons (HasOther id) (marked_if (marks asked) asked) (marked_where marks requests) (All-head (HasOther id) asked requests all)
    (marks_others marks id requests (All-tail (HasOther id) asked requests all))

-- an id that isn't open is another one
pub none_has : (id : Id) (requests : List Asked) → is_open id requests ≡ false → All (HasOther id) requests
none_has id [] closed = All-nil (HasOther id)
none_has id (asked ∷ requests) closed = by (same_id id asked.id) refl (none_has id requests)
  where
    by : (b : Bool) → same_id id asked.id ≡ b → (is_open id requests ≡ false → All (HasOther id) requests) → All (HasOther id) (asked ∷ requests)
    by true same rest = absurd (true≢false (sym (ap (λ s. is_some (if s then Some asked.verdict else owed_to id requests)) same) ∙ closed))
    by false other rest =
        All-cons (HasOther id) asked requests other
        (rest (sym (ap (λ s. is_some (if s then Some asked.verdict else owed_to id requests)) other) ∙ closed))

-- ---- what is open behind marks, with more that was taken

module _ (o : Open) (now : Now) (is : IsOpen o now) (up : IsUp o.first) (last : o.last ≡ []) (marks : Asked → Bool) where
  all_marked_are : marked_where marks now.requests ≡ marked_where marks is.head ++ marked_where marks o.waiting
  all_marked_are =
      ap (marked_where marks) (is.requests_are ∙ ap (λ l. is.head ++ (o.waiting ++ l)) last ∙ ap (λ w. is.head ++ w) (append-nil o.waiting))
      ∙ marked-append marks is.head o.waiting

  -- what is open
  abbrev pub marked_open : List Asked → List ℤ → Open
  marked_open more nulls = record { first = marked_head marks o.first; waiting = marked_where marks o.waiting; last = more; nulls = nulls }

  with_more : (new : Now) (more : List Asked) → Keeps now new → AreApart (marked_where marks now.requests ++ more) → new.requests ≡ marked_where marks now.requests ++ more
      → IsOpen (marked_open more new.nulls) new
  with_more new more keeps apart requests =
      record {
        head = marked_where marks is.head;
        first_is = marks_head marks o.first now new is.head up keeps is.first_is;
        requests_are = requests ∙ (ap (λ rs. rs ++ more) all_marked_are ∙ append_assoc (marked_where marks is.head) (marked_where marks o.waiting) more);
        waits = marks_wait marks o.waiting is.waits;
        apart = subst AreApart (sym requests) apart;
        nulls_are = refl;
      }

  with_none : (new : Now) → Keeps now new → new.requests ≡ marked_where marks now.requests → IsOpen (marked_open [] new.nulls) new
  with_none new keeps requests =
      with_more new [] keeps (subst AreApart (sym (append-nil (marked_where marks now.requests))) (marks_apart marks now.requests is.apart))
      (requests ∙ sym (append-nil (marked_where marks now.requests)))

  with_one : (new : Now) (id : Id) (number : ℕ) (v : Verdict) → Keeps now new → is_open id now.requests ≡ false
      → new.requests ≡ marked_where marks now.requests ++ asking_for id number v ∷ [] → IsOpen (marked_open (asking_for id number v ∷ []) new.nulls) new
  with_one new id number v keeps closed requests =
      with_more new (asking_for id number v ∷ []) keeps
      (apart_push (marked_where marks now.requests) (asking_for id number v) (marks_apart marks now.requests is.apart)
      (marks_others marks id now.requests (none_has id now.requests closed)))
      requests

-- ---- a body is taken

-- a shutdown that closes the session marks those of the queue
abbrev pub closing_marks : Verdict → Asked → Bool
closing_marks v other = is_closing v

-- a request whose id isn't open
pub took_request : (o : Open) (now : Now) (is : IsOpen o now) → IsUp o.first → o.last ≡ [] → o.nulls ≡ [] → (body : List ℕ) (id : Id) (method : List ℕ) (params : Option Data)
    → meaning body ≡ Ok (request id method params) → is_open id now.requests ≡ false → (v : Verdict) → verdict method params now.force now.closed ≡ v
    → IsOpen (record { first = marked_head (closing_marks v) o.first; waiting = marked_where (closing_marks v) o.waiting; last = asking_for id (suc now.taken) v ∷ []; nulls = [] }) (by_event (take body) now)
took_request o now is up last nulls body id method params means closed v judged =
    let new = by_event (take body) now in
    let opened : new.requests ≡ marked_where (closing_marks v) now.requests ++ asking_for id (suc now.taken) v ∷ [] =
    ap (λ m. opened_by m (suc now.taken) now.force now.closed now.requests) means
    ∙ (ap (λ b. if b then now.requests else joined (asking_for id (suc now.taken) (verdict method params now.force now.closed)) now.requests) closed
    ∙ ap (λ w. joined (asking_for id (suc now.taken) w) now.requests) judged) in
    let owed : new.nulls ≡ [] =
    ap (λ m. now.nulls ++ nulls_for m now.requests) means
    ∙ (ap (λ b. now.nulls ++ (if b then invalid_request ∷ [] else [])) closed ∙ (append-nil now.nulls ∙ (is.nulls_are ∙ nulls))) in
    subst (λ ns. IsOpen (record { first = marked_head (closing_marks v) o.first; waiting = marked_where (closing_marks v) o.waiting; last = asking_for id (suc now.taken) v ∷ []; nulls = ns }) new) owed
    (with_one o now is up last (closing_marks v) new id (suc now.taken) v (record { force = refl; builds = refl; table = refl }) closed opened)

-- what else may be open stays, and this is owed with the id null
took_null : (o : Open) (now : Now) (is : IsOpen o now) → o.nulls ≡ [] → (new : Now) (nulls : List ℤ) → Keeps now new → new.requests ≡ now.requests → new.nulls ≡ now.nulls ++ nulls
    → IsOpen (record o { nulls = nulls }) new
took_null o now is no_nulls new nulls keeps requests owed =
    record {
      head = is.head;
      first_is = same_first o.first now new is.head keeps is.first_is;
      requests_are = requests ∙ is.requests_are;
      waits = is.waits;
      apart = subst AreApart (sym requests) is.apart;
      nulls_are = owed ∙ ap (λ ns. ns ++ nulls) (is.nulls_are ∙ no_nulls);
    }

-- a request whose id is open
pub took_again : (o : Open) (now : Now) (is : IsOpen o now) → o.nulls ≡ [] → (body : List ℕ) (id : Id) (method : List ℕ) (params : Option Data)
    → meaning body ≡ Ok (request id method params) → is_open id now.requests ≡ true → IsOpen (record o { nulls = invalid_request ∷ [] }) (by_event (take body) now)
took_again o now is no_nulls body id method params means there =
    took_null o now is no_nulls (by_event (take body) now) (invalid_request ∷ []) (record { force = refl; builds = refl; table = refl })
    (ap (λ m. opened_by m (suc now.taken) now.force now.closed now.requests) means
    ∙ ap (λ b. if b then now.requests else joined (asking_for id (suc now.taken) (verdict method params now.force now.closed)) now.requests) there)
    (ap (λ m. now.nulls ++ nulls_for m now.requests) means ∙ ap (λ b. now.nulls ++ (if b then invalid_request ∷ [] else [])) there)

-- a notification
pub took_note : (o : Open) (now : Now) (is : IsOpen o now) → IsUp o.first → o.last ≡ [] → o.nulls ≡ [] → (body : List ℕ) (method : List ℕ) (params : Option Data)
    → meaning body ≡ Ok (notification method params)
    → IsOpen (record { first = marked_head (cancels method params) o.first; waiting = marked_where (cancels method params) o.waiting; last = []; nulls = [] }) (by_event (take body) now)
took_note o now is up last nulls body method params means =
    let new = by_event (take body) now in
    subst (λ ns. IsOpen (record { first = marked_head (cancels method params) o.first; waiting = marked_where (cancels method params) o.waiting; last = []; nulls = ns }) new)
    (ap (λ m. now.nulls ++ nulls_for m now.requests) means ∙ (append-nil now.nulls ∙ (is.nulls_are ∙ nulls)))
    (with_none o now is up last (cancels method params) new (record { force = refl; builds = refl; table = refl })
    (ap (λ m. opened_by m (suc now.taken) now.force now.closed now.requests) means))

-- a response
pub took_result : (o : Open) (now : Now) (is : IsOpen o now) → o.nulls ≡ [] → (body : List ℕ) (id : Option Id) (value : Data) → meaning body ≡ Ok (result id value)
    → IsOpen (record o { nulls = [] }) (by_event (take body) now)
took_result o now is no_nulls body id value means =
    took_null o now is no_nulls (by_event (take body) now) [] (record { force = refl; builds = refl; table = refl })
    (ap (λ m. opened_by m (suc now.taken) now.force now.closed now.requests) means) (ap (λ m. now.nulls ++ nulls_for m now.requests) means)

pub took_failure : (o : Open) (now : Now) (is : IsOpen o now) → o.nulls ≡ [] → (body : List ℕ) (id : Option Id) (code : ℤ) (text : List ℕ) → meaning body ≡ Ok (failure id code text)
    → IsOpen (record o { nulls = [] }) (by_event (take body) now)
took_failure o now is no_nulls body id code text means =
    took_null o now is no_nulls (by_event (take body) now) [] (record { force = refl; builds = refl; table = refl })
    (ap (λ m. opened_by m (suc now.taken) now.force now.closed now.requests) means) (ap (λ m. now.nulls ++ nulls_for m now.requests) means)

-- what is no message
pub took_nothing : (o : Open) (now : Now) (is : IsOpen o now) → o.nulls ≡ [] → (body : List ℕ) (code : ℤ) → meaning body ≡ Err code
    → IsOpen (record o { nulls = code ∷ [] }) (by_event (take body) now)
took_nothing o now is no_nulls body code means =
    took_null o now is no_nulls (by_event (take body) now) (code ∷ []) (record { force = refl; builds = refl; table = refl })
    (ap (λ m. opened_by m (suc now.taken) now.force now.closed now.requests) means) (ap (λ m. now.nulls ++ nulls_for m now.requests) means)

-- ---- the input ended

abbrev pub all_marks : Asked → Bool
all_marks asked = true

pub took_end : (o : Open) (now : Now) (is : IsOpen o now) → IsUp o.first → o.last ≡ [] → o.nulls ≡ [] → (how : InputEnd)
    → IsOpen (record { first = marked_head all_marks o.first; waiting = marked_where all_marks o.waiting; last = []; nulls = nulls_for_end how }) (by_event (ends how) now)
took_end o now is up last nulls how =
    let new = by_event (ends how) now in
    subst (λ ns. IsOpen (record { first = marked_head all_marks o.first; waiting = marked_where all_marks o.waiting; last = []; nulls = ns }) new)
    (ap (λ ns. ns ++ nulls_for_end how) (is.nulls_are ∙ nulls))
    (with_none o now is up last all_marks new (record { force = refl; builds = refl; table = refl }) refl)

-- ---- what is owed at once is answered

-- the build at the head told that it starts
abbrev pub HasStarted : First → Now → Type 0
HasStarted none now = Unit {0}
HasStarted (owing id number v) now = Unit {0}
HasStarted (working g marked) now = now.notices ≢ []

-- nothing waits but behind a build
abbrev pub WaitsBehind : First → List Asked → Type 0
WaitsBehind none waiting = waiting ≡ []
WaitsBehind (owing id number v) waiting = Unit {0}
WaitsBehind (working g marked) waiting = Unit {0}

all_wait : (requests : List Asked) → All IsWaiting requests → All IsUnmarked requests → All Waits requests
all_wait [] waits goes = All-nil Waits
all_wait (asked ∷ requests) waits goes =
    let one = All-head IsWaiting asked requests waits in
    All-cons Waits asked requests (record { may = subst MayWait (sym one.is) tt; goes_on = All-head IsUnmarked asked requests goes })
    (all_wait requests (All-tail IsWaiting asked requests waits) (All-tail IsUnmarked asked requests goes))

pub caught_up : (o : Open) (now : Now) → IsOpen o now → IsUp o.first → GoOn o → o.last ≡ [] → o.nulls ≡ [] → HasStarted o.first now → WaitsBehind o.first o.waiting → IsCaughtUp now
caught_up o now is up go last nulls started behind =
    record { nulls = is.nulls_are ∙ nulls; head = by_head o.first is.first_is up started behind; requests = by_requests o.first is.first_is up go.first }
  where
    requests_so : now.requests ≡ is.head ++ o.waiting
    requests_so = is.requests_are ∙ (ap (λ l. is.head ++ (o.waiting ++ l)) last ∙ ap (λ w. is.head ++ w) (append-nil o.waiting))

    rest_waits : All Waits o.waiting
    rest_waits = all_wait o.waiting is.waits go.waiting

    by_head : (first : First) → IsFirst first now is.head → IsUp first → HasStarted first now → WaitsBehind first o.waiting → HeadIsUp now.requests now.notices
    by_head none head up started behind =
        subst (λ rs. HeadIsUp rs now.notices) (sym (requests_so ∙ (ap (λ h. h ++ o.waiting) head ∙ behind))) tt
    by_head (owing id number v) head up started behind = absurd up
    by_head (working g marked) head up started behind =
        subst (λ rs. HeadIsUp rs now.notices) (sym (requests_so ∙ ap (λ h. h ++ o.waiting) head.0)) started

    by_requests : (first : First) → IsFirst first now is.head → IsUp first → GoesOn first → All Waits now.requests
    by_requests none head up goes =
        subst (All Waits) (sym (requests_so ∙ ap (λ h. h ++ o.waiting) head)) rest_waits
    by_requests (owing id number v) head up goes = absurd up
    by_requests (working g marked) head up goes =
        subst (All Waits) (sym (requests_so ∙ ap (λ h. h ++ o.waiting) head.0))
        (All-cons Waits (working_on g marked) o.waiting (record { may = tt; goes_on = goes }) rest_waits)

-- ---- the tree answered

-- a request that is owed this waits for the tree
abbrev pub MayAsk : Verdict → Type 0
MayAsk (asking root) = Unit {0}
MayAsk (building build) = Unit {0}
MayAsk (rereading space) = Unit {0}
MayAsk v = ⊥

-- once it was handed its files, it is judged by them
stays : (force : Option Space) (handed : Option Entries) (v : Verdict) → MayAsk v → due_in force (handed_over handed v) ≡ handed_over handed v
stays force None (asking root) asks = refl
stays force (Some entries) (asking root) asks = refl
stays force None (building build) asks = refl
stays force (Some entries) (building build) asks = refl
stays force None (rereading space) asks = refl
stays force (Some entries) (rereading space) asks = refl
stays force handed (reloading space file) asks = absurd asks
stays force handed (cleaning space targets) asks = absurd asks
stays force handed (opening root file) asks = absurd asks
stays force handed (queued call) asks = absurd asks
stays force handed (built build entries) asks = absurd asks
stays force handed (answering space question) asks = absurd asks
stays force handed closing asks = absurd asks
stays force handed (refusal code text) asks = absurd asks

module _ (o : Open) (now : Now) (is : IsOpen o now) (id : Id) (number : ℕ) (v : Verdict) (first : o.first ≡ owing id number v) where
  abbrev behind : List Asked
  behind = o.waiting ++ o.last

  standing_is : standing now ≡ asking_for id number v ∷ behind
  standing_is =
      let owed = owes o now is id number v first in
      ap (first_up now.force) (is.requests_are ∙ ap (λ h. h ++ behind) owed.are) ∙ (λ i. asking_for id number (owed.stands i) ∷ behind)

  -- nothing is owed at once to another
  no_other : o.last ≡ [] → o.nulls ≡ [] → OwesNoOther now
  no_other last nulls =
      let owed = owes o now is id number v first in
      record {
        requests =
            ap (λ requests. first_at_once (drop 1 requests)) (is.requests_are ∙ (ap (λ h. h ++ behind) owed.are ∙ ap (λ l. asking_for id number owed.judged ∷ (o.waiting ++ l)) last))
            ∙ (ap first_at_once (append-nil o.waiting) ∙ none_at_once o.waiting (waiting_queued o.waiting is.waits));
        nulls = is.nulls_are ∙ nulls;
      }

  pub may_hand : o.last ≡ [] → o.nulls ≡ [] → (handed : Option Entries) (paths : List (List ℕ)) → Wants v paths → IfSome handed (AreHeld paths) → HandAllowed now handed
  may_hand last nulls handed paths wants held =
      record { no_other = no_other last nulls; paths = paths; wanted = subst (λ rs. WantedBy rs paths) (sym standing_is) (record { wants = wants; goes_on = refl }); held = held }

  handed_are : (handed : Option Entries) → (by_event (hand handed) now).requests ≡ asking_for id number (handed_over handed v) ∷ behind
  handed_are handed = ap (handed_by handed) standing_is

  apart_handed : (requests : List Asked) (w : Verdict) → requests ≡ asking_for id number w ∷ behind → AreApart requests
  apart_handed requests w are =
      let owed = owes o now is id number v first in
      let old : AreApart (asking_for id number owed.judged ∷ behind) = subst AreApart (is.requests_are ∙ ap (λ h. h ++ behind) owed.are) is.apart in
      subst AreApart (sym are)
      (AllPairs-cons IsLater (asking_for id number w) behind (pairs_head IsLater (asking_for id number owed.judged) behind old) (pairs_tail IsLater (asking_for id number owed.judged) behind old))

  -- it is owed its answer
  pub handed_owing : (handed : Option Entries) → MayAsk v → IsOpen (record o { first = owing id number (handed_over handed v) }) (by_event (hand handed) now)
  handed_owing handed asks =
      record {
        head = asking_for id number (handed_over handed v) ∷ [];
        first_is = record { judged = handed_over handed v; are = refl; stands = stays now.force handed v asks };
        requests_are = handed_are handed;
        waits = is.waits;
        apart = apart_handed (by_event (hand handed) now).requests (handed_over handed v) (handed_are handed);
        nulls_are = is.nulls_are;
      }

  -- a build goes on its course
  pub handed_working : (build : Build) (entries : Entries) (g : Given) → v ≡ building build → AreGiven g → g.active ≡ record { id = id; number = number; build = build; entries = entries }
      → g.earlier ≡ now.builds → g.table ≡ now.table → IsOpen (record o { first = working g false }) (by_event (hand (Some entries)) now)
  handed_working build entries g asks given active earlier table =
      let new = by_event (hand (Some entries)) now in
      let head_is : asking_for id number (handed_over (Some entries) v) ∷ [] ≡ working_on g false ∷ [] =
      ap (λ w. asking_for id number (handed_over (Some entries) w) ∷ []) asks ∙ (λ i. record { id = (sym active i).id; number = (sym active i).number; verdict = built (sym active i).build (sym active i).entries; cancelled = false } ∷ []) in
      record {
        head = asking_for id number (handed_over (Some entries) v) ∷ [];
        first_is = (head_is, record { are = given; active_is = refl; earlier_is = earlier; table_is = table });
        requests_are = handed_are (Some entries);
        waits = is.waits;
        apart = apart_handed new.requests (handed_over (Some entries) v) (handed_are (Some entries));
        nulls_are = is.nulls_are;
      }
