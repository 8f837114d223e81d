-- How what is open moves, event by event: what is allowed, and what is open behind it.
use Rattle.std.proofs.Common.{◌≡◌, ◌≢◌, ◌++◌, ◌||◌, ◌&&◌, ℕ, ℤ, zero, suc, List, [], ◌∷◌, length, Bool, true, false, All, AllPairs, Option, Some, None, refl, ap, sym, ◌∙◌, subst, append-nil, append_assoc, arith}
use Rattle.std.specs.Prelude.{if◌then◌else◌}
use Rattle.std.proofs.lemmas.List.Elements.{All-append, All-cons, All-head, All-nil, All-tail}
use Rattle.std.proofs.lemmas.List.Kept.{AllPairs-cons}
use Rattle.rpc_peer.specs.declared.message.Id.{Id}
use Rattle.rpc_peer.specs.OpenIds.{same_id}
use Rattle.target_graph.specs.Workspace.{Space}
use Rattle.session_law.proofs.RequestLaws.{HasOther, IsOfQueue, IsUnmarked, marked_behind, none_marked}
use Rattle.session_law.specs.Course.{Given}
use Rattle.session_law.specs.Methods.{Call, Verdict, due_in, queued}
use Rattle.session_law.specs.Open.{AreApart, First, IsLater, IsFirst, IsOneDue, IsOpen, IsUp, IsWaiting, Open, Owes, none, owing, working, asking_for, working_on}
use Rattle.session_law.specs.Past.{Now}
use Rattle.session_law.specs.Requests.{Active, Asked, active_of, first_marked, is_of_queue}

-- ---- ids that differ

pub pairs_head : {X : Type 0} (R : X → X → Type 0) (x : X) (xs : List X) → AllPairs R (x ∷ xs) → All (R x) xs
pairs_head R x xs all k d h = all zero (suc k) d (omega arith) (omega (arith, h))

pub pairs_tail : {X : Type 0} (R : X → X → Type 0) (x : X) (xs : List X) → AllPairs R (x ∷ xs) → AllPairs R xs
pairs_tail R x xs all i j d h k = all (suc i) (suc j) d (omega (arith, h)) (omega (arith, k))

pub all_left : {X : Type 0} (P : X → Type 0) (xs ys : List X) → All P (xs ++ ys) → All P xs
all_left P [] ys all = All-nil P
all_left P (x ∷ xs) ys all = All-cons P x xs (All-head P x (xs ++ ys) all) (all_left P xs ys (All-tail P x (xs ++ ys) all))

pub all_right : {X : Type 0} (P : X → Type 0) (xs ys : List X) → All P (xs ++ ys) → All P ys
all_right P [] ys all = all
all_right P (x ∷ xs) ys all = all_right P xs ys (All-tail P x (xs ++ ys) all)

-- those before a request have other ids
pub others_before : (before rest : List Asked) (asked : Asked) → AreApart (before ++ asked ∷ rest) → All (HasOther asked.id) before
others_before [] rest asked apart = All-nil (HasOther asked.id)
others_before (first ∷ before) rest asked apart =
    All-cons (HasOther asked.id) first before
    (All-head (IsLater first) asked rest (all_right (IsLater first) before (asked ∷ rest) (pairs_head IsLater first (before ++ asked ∷ rest) apart)))
    (others_before before rest asked (pairs_tail IsLater first (before ++ asked ∷ rest) apart))

-- one behind them that has another id
pub apart_push : (requests : List Asked) (asked : Asked) → AreApart requests → All (HasOther asked.id) requests → AreApart (requests ++ asked ∷ [])
apart_push [] asked apart others = λ i j d h k. absurd (omega (arith, h, k))
apart_push (first ∷ requests) asked apart others =
    AllPairs-cons IsLater first (requests ++ asked ∷ [])
    (All-append (IsLater first) requests (asked ∷ []) (pairs_head IsLater first requests apart)
    (All-cons (IsLater first) asked [] (All-head (HasOther asked.id) first requests others) (All-nil (IsLater first))))
    (apart_push requests asked (pairs_tail IsLater first requests apart) (All-tail (HasOther asked.id) first requests others))

-- without one of them they still are
pub apart_without : (before rest : List Asked) (asked : Asked) → AreApart (before ++ asked ∷ rest) → AreApart (before ++ rest)
apart_without [] rest asked apart = pairs_tail IsLater asked rest apart
apart_without (first ∷ before) rest asked apart =
    let later = pairs_head IsLater first (before ++ asked ∷ rest) apart in
    AllPairs-cons IsLater first (before ++ rest)
    (All-append (IsLater first) before rest (all_left (IsLater first) before (asked ∷ rest) later)
    (All-tail (IsLater first) asked rest (all_right (IsLater first) before (asked ∷ rest) later)))
    (apart_without before rest asked (pairs_tail IsLater first (before ++ asked ∷ rest) apart))

-- ---- what is owed at once

pub due_last : (first : First) (asked : Asked) (nulls : List ℤ) → IsOneDue first (asked ∷ []) nulls → (nulls ≡ []) × IsUp first
due_last first asked [] one = (refl, one)
due_last first asked (code ∷ nulls) one = absurd one

pub due_null : (first : First) (last : List Asked) (code : ℤ) (nulls : List ℤ) → IsOneDue first last (code ∷ nulls) → (last ≡ []) × IsUp first
due_null first [] code nulls one = (refl, one)
due_null first (asked ∷ []) code nulls one = absurd one
due_null first (asked ∷ next ∷ last) code nulls one = absurd one

pub due_first : (id : Id) (number : ℕ) (v : Verdict) (last : List Asked) (nulls : List ℤ) → IsOneDue (owing id number v) last nulls → (last ≡ []) × (nulls ≡ [])
due_first id number v [] [] one = (refl, refl)
due_first id number v [] (code ∷ nulls) one = absurd one
due_first id number v (asked ∷ []) [] one = absurd one
due_first id number v (asked ∷ []) (code ∷ nulls) one = absurd one
due_first id number v (asked ∷ next ∷ last) nulls one = absurd one

-- those that wait are of the queue, and so is a head that is up
pub waiting_queued : (requests : List Asked) → All IsWaiting requests → All IsOfQueue requests
waiting_queued [] waits = All-nil IsOfQueue
waiting_queued (asked ∷ requests) waits =
    All-cons IsOfQueue asked requests (ap is_of_queue (All-head IsWaiting asked requests waits).is) (waiting_queued requests (All-tail IsWaiting asked requests waits))

head_queued : (first : First) (now : Now) (head : List Asked) → IsUp first → IsFirst first now head → All IsOfQueue head
head_queued none now head up is = subst (All IsOfQueue) (sym is) (All-nil IsOfQueue)
head_queued (owing id number v) now head up is = absurd up
head_queued (working g marked) now head up is = subst (All IsOfQueue) (sym is.0) (All-cons IsOfQueue (working_on g marked) [] refl (All-nil IsOfQueue))

-- those before the one that was taken last
pub queued_before : (o : Open) (now : Now) (is : IsOpen o now) → IsUp o.first → All IsOfQueue (is.head ++ o.waiting)
queued_before o now is up = All-append IsOfQueue is.head o.waiting (head_queued o.first now is.head up is.first_is) (waiting_queued o.waiting is.waits)

pub all_queued : (o : Open) (now : Now) (is : IsOpen o now) → IsUp o.first → o.last ≡ [] → All IsOfQueue now.requests
all_queued o now is up last =
    subst (All IsOfQueue) (sym (is.requests_are ∙ (ap (λ l. is.head ++ (o.waiting ++ l)) last ∙ ap (λ w. is.head ++ w) (append-nil o.waiting)))) (queued_before o now is up)

-- ---- which of them are to be cancelled

abbrev pub GoesOn : First → Type 0
GoesOn none = Unit {0}
GoesOn (owing id number v) = Unit {0}
GoesOn (working g marked) = marked ≡ false

first_unmarked : (first : First) (now : Now) (head : List Asked) → GoesOn first → IsFirst first now head → All IsUnmarked head
first_unmarked none now head goes is = subst (All IsUnmarked) (sym is) (All-nil IsUnmarked)
first_unmarked (owing id number v) now head goes is =
    subst (All IsUnmarked) (sym is.are) (All-cons IsUnmarked (asking_for id number is.judged) [] refl (All-nil IsUnmarked))
first_unmarked (working g marked) now head goes is =
    subst (All IsUnmarked) (sym is.0) (All-cons IsUnmarked (working_on g marked) [] goes (All-nil IsUnmarked))

-- no request is to be cancelled, and at most one thing is owed at once
pub record GoOn (o : Open) : Type 0 where
  pub one : IsOneDue o.first o.last o.nulls
  pub first : GoesOn o.first
  pub waiting : All IsUnmarked o.waiting
  pub last : All IsUnmarked o.last

module _ (o : Open) (now : Now) (is : IsOpen o now) where
  pub unmarked : GoOn o → first_marked now.requests ≡ None
  unmarked go =
      ap first_marked is.requests_are
      ∙ none_marked (is.head ++ (o.waiting ++ o.last))
      (All-append IsUnmarked is.head (o.waiting ++ o.last) (first_unmarked o.first now is.head go.first is.first_is)
      (All-append IsUnmarked o.waiting o.last go.waiting go.last))

  -- a request that waits is the first of those
  pub marked_waiting : (before rest : List Asked) (asked : Asked) → GoesOn o.first → o.waiting ≡ before ++ asked ∷ rest → All IsUnmarked before → asked.cancelled ≡ true
      → first_marked now.requests ≡ Some asked
  marked_waiting before rest asked goes whole all mark =
      ap first_marked
      (is.requests_are ∙ (ap (λ ws. is.head ++ (ws ++ o.last)) whole ∙ (ap (λ ws. is.head ++ ws) (append_assoc before (asked ∷ rest) o.last) ∙ sym (append_assoc is.head before (asked ∷ (rest ++ o.last))))))
      ∙ marked_behind (is.head ++ before) (rest ++ o.last) asked
      (All-append IsUnmarked is.head before (first_unmarked o.first now is.head goes is.first_is) all) mark

-- the build at the head is the active one
pub is_active : (o : Open) (now : Now) (g : Given) (marked : Bool) → IsOpen o now → o.first ≡ working g marked → active_of now.requests ≡ Some g.active
is_active o now g marked is first =
    let it : IsFirst (working g marked) now is.head = subst (λ f. IsFirst f now is.head) first is.first_is in
    ap active_of (is.requests_are ∙ ap (λ h. h ++ (o.waiting ++ o.last)) it.0)

-- and where it is to be cancelled it is the first of those
pub marked_first : (o : Open) (now : Now) (g : Given) → IsOpen o now → o.first ≡ working g true → first_marked now.requests ≡ Some (working_on g true)
marked_first o now g is first =
    let it : IsFirst (working g true) now is.head = subst (λ f. IsFirst f now is.head) first is.first_is in
    ap first_marked (is.requests_are ∙ ap (λ h. h ++ (o.waiting ++ o.last)) it.0)

-- ---- taken up, which is no event

-- the oldest that waits comes to the head
pub comes_up : (o : Open) (now : Now) (asked : Asked) (rest : List Asked) → IsOpen o now → o.first ≡ none → o.waiting ≡ asked ∷ rest → asked.cancelled ≡ false
    → IsOpen (record o { first = owing asked.id asked.number (due_in now.force asked.verdict); waiting = rest }) now
comes_up o now asked rest is first whole goes =
    let nothing : is.head ≡ [] = subst (λ f. IsFirst f now is.head) first is.first_is in
    record {
      head = asked ∷ [];
      first_is = record { judged = asked.verdict; are = (λ i. record asked { cancelled = goes i } ∷ []); stands = refl };
      requests_are = is.requests_are ∙ (ap (λ h. h ++ (o.waiting ++ o.last)) nothing ∙ ap (λ ws. ws ++ o.last) whole);
      waits = All-tail IsWaiting asked rest (subst (All IsWaiting) whole is.waits);
      apart = is.apart;
      nulls_are = is.nulls_are;
    }

-- one that was just taken comes to the head where nothing else is open
pub comes_first : (o : Open) (now : Now) (id : Id) (number : ℕ) (v : Verdict) → IsOpen o now → o.first ≡ none → o.waiting ≡ [] → o.last ≡ asking_for id number v ∷ []
    → IsOpen (record o { first = owing id number (due_in now.force v); last = [] }) now
comes_first o now id number v is first empty last =
    let nothing : is.head ≡ [] = subst (λ f. IsFirst f now is.head) first is.first_is in
    record {
      head = asking_for id number v ∷ [];
      first_is = record { judged = v; are = refl; stands = refl };
      requests_are =
          is.requests_are
          ∙ (ap (λ h. h ++ (o.waiting ++ o.last)) nothing
          ∙ (ap (λ ws. ws ++ o.last) empty ∙ (last ∙ ap (λ ws. asking_for id number v ∷ ws) (sym (ap (λ ws. ws ++ []) empty)))));
      waits = is.waits;
      apart = is.apart;
      nulls_are = is.nulls_are;
    }

-- one of the queue that was just taken waits behind the others
pub waits_behind : (o : Open) (now : Now) (id : Id) (number : ℕ) (call : Call) → IsOpen o now → o.last ≡ asking_for id number (queued call) ∷ []
    → IsOpen (record o { waiting = o.waiting ++ asking_for id number (queued call) ∷ []; last = [] }) now
waits_behind o now id number call is last =
    record {
      head = is.head;
      first_is = is.first_is;
      requests_are =
          is.requests_are
          ∙ (ap (λ l. is.head ++ (o.waiting ++ l)) last ∙ ap (λ ws. is.head ++ ws) (sym (append-nil (o.waiting ++ asking_for id number (queued call) ∷ []))));
      waits = All-append IsWaiting o.waiting (asking_for id number (queued call) ∷ []) is.waits
          (All-cons IsWaiting (asking_for id number (queued call)) [] (record { call = call; is = refl }) (All-nil IsWaiting));
      apart = is.apart;
      nulls_are = is.nulls_are;
    }
