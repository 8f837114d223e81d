-- A body is taken: what it is opens a request, marks some, or is owed a code with the id null.
use Rattle.std.proofs.Common.{◌≡◌, ◌||◌, ◌&&◌, ℕ, suc, ℤ, List, [], ◌∷◌, codes, Bool, true, false, Option, Some, None, Ok, Err, refl, ap, sym, ◌∙◌, subst}
use Rattle.rpc_peer.specs.Meaning.{invalid_request, meaning}
use Rattle.rpc_peer.specs.OpenIds.{same_id}
use Rattle.rpc_peer.specs.Said.{request, notification, result, failure}
use Rattle.rpc_peer.specs.declared.message.Id.{Id}
use Rattle.serde_json.specs.Data.{Data}
use Rattle.session_core.proofs.Ready.{fits, fits_marked, marks, mid, onto_is, open_now, rests, waiting_marked, IsReady}
use Rattle.session_core.proofs.Settling.{fits_on}
use Rattle.session_core.specs.Marking.{marked}
use Rattle.session_core.specs.Standing.{HeadFits, Recalls, Whole}
use Rattle.session_core.specs.State.{plain_of, said_out, waiting_of}
use Rattle.session_core.specs.declared.session.Core.{Core}
use Rattle.session_law.proofs.MidLaws.{mid_took, take_allowed}
use Rattle.session_law.proofs.TakeLaws as law
use Rattle.session_law.specs.Lawful.{EachAllowed}
use Rattle.session_law.specs.Methods.{Verdict, is_named, verdict}
use Rattle.session_law.specs.Open.{IsOpen, Mid, Open, Plain, asking_for}
use Rattle.session_law.specs.Order.{Event, onto, take}
use Rattle.session_law.specs.Past.{Now, after, by_event, exit_status}
use Rattle.session_law.specs.Requests.{Asked, cancelled_id, cancels, has_this_id, is_closing, is_open, marked_where}

-- the core has counted the body, and ends by an exit
abbrev pub counted : List ℕ → Core → Core
counted body core = record core { taken = suc core.taken; status = exit_status (meaning body) core.closed }

-- ---- which requests a notification marks

abbrev pub has_id_of : Option Id → Id → Bool
has_id_of None other = false
has_id_of (Some id) other = same_id id other

abbrev pub by_note : List ℕ → Option Data → Id → Bool
by_note method params other = is_named (codes "build/exit") method || (is_named (codes "$/cancelRequest") method && has_id_of (cancelled_id params) other)

this_id : (id : Option Id) (asked : Asked) → has_this_id id asked ≡ has_id_of id asked.id
this_id None asked = refl
this_id (Some id) asked = refl

cancels_is : (method : List ℕ) (params : Option Data) → cancels method params ≡ marks (by_note method params)
cancels_is method params =
    λ i asked. is_named (codes "build/exit") method || (is_named (codes "$/cancelRequest") method && this_id (cancelled_id params) asked i)

module _ (core : Core) (order : List Event) (ready : IsReady core) (whole : Whole core [] [] order) where
  abbrev now : Now
  now = after order

  abbrev o : Open
  o = open_now core order ready whole

  abbrev mid_is : Mid (plain_of core) (Recalls core) o order
  mid_is = mid core order ready whole

  -- what it marks is marked
  pub whole_marked : (by : Id → Bool) (body : List ℕ) (last : List Asked) (nulls : List ℤ)
      → IsOpen (record { first = law.marked_head (marks by) whole.first; waiting = marked_where (marks by) (waiting_of core); last = last; nulls = nulls }) (by_event (take body) now)
      → Whole (counted body (marked by core)) last nulls (take body ∷ order)
  whole_marked by body last nulls is =
      let new : Core = counted body (marked by core) in
      let past : onto (said_out core) (take body ∷ order) ≡ take body ∷ order = onto_is core order ready whole (take body ∷ order) in
      let first = law.marked_head (marks by) whole.first in
      record {
        first = first;
        fits =
            subst (λ p. HeadFits new new.head (after p) first) (sym past)
            (fits_marked core new by now (after (take body ∷ order)) whole.first refl refl refl refl core.head ready.up (fits core order ready whole));
        mid =
            subst (λ p. Mid (plain_of new) (Recalls new) (record { first = first; waiting = waiting_of new; last = last; nulls = nulls }) p) (sym past)
            (subst (λ w. Mid (plain_of new) (Recalls new) (record { first = first; waiting = w; last = last; nulls = nulls }) (take body ∷ order))
            (sym (waiting_marked by core.queue))
            (mid_took (plain_of core) (Recalls core) o order mid_is (rests core order ready whole) body
            (record { first = first; waiting = marked_where (marks by) (waiting_of core); last = last; nulls = nulls }) is));
      }

  -- a notification
  pub whole_note : (body method : List ℕ) (params : Option Data) → meaning body ≡ Ok (notification method params)
      → Whole (counted body (marked (by_note method params) core)) [] [] (take body ∷ order)
  whole_note body method params means =
      whole_marked (by_note method params) body [] []
      (subst (λ m. IsOpen (record { first = law.marked_head m whole.first; waiting = marked_where m (waiting_of core); last = []; nulls = [] }) (by_event (take body) now)) (cancels_is method params)
      (law.took_note o now mid_is.open_is (rests core order ready whole).up refl refl body method params means))

  -- a request whose id isn't open
  pub whole_request : (body : List ℕ) (id : Id) (method : List ℕ) (params : Option Data) → meaning body ≡ Ok (request id method params) → is_open id now.requests ≡ false
      → (v : Verdict) → verdict method params core.workspace core.closed ≡ v
      → Whole (counted body (marked (λ other. is_closing v) core)) (asking_for id (suc core.taken) v ∷ []) [] (take body ∷ order)
  whole_request body id method params means closed v judged =
      whole_marked (λ other. is_closing v) body (asking_for id (suc core.taken) v ∷ []) []
      (subst (λ n. IsOpen (record { first = law.marked_head (law.closing_marks v) whole.first; waiting = marked_where (law.closing_marks v) (waiting_of core); last = asking_for id (suc n) v ∷ []; nulls = [] }) (by_event (take body) now))
      (ap (λ (p : Plain). p.taken) mid_is.plain_is)
      (law.took_request o now mid_is.open_is (rests core order ready whole).up refl refl body id method params means closed v
      (ap (λ (p : Plain). verdict method params p.force p.closed) mid_is.plain_is ∙ judged)))

  -- what opens and marks none
  whole_counted : (body : List ℕ) (nulls : List ℤ) → IsOpen (record o { nulls = nulls }) (by_event (take body) now) → Whole (counted body core) [] nulls (take body ∷ order)
  whole_counted body nulls is =
      let new : Core = counted body core in
      let past : onto (said_out core) (take body ∷ order) ≡ take body ∷ order = onto_is core order ready whole (take body ∷ order) in
      record {
        first = whole.first;
        fits =
            subst (λ p. HeadFits new new.head (after p) whole.first) (sym past)
            (fits_on core new core.head now (after (take body ∷ order)) whole.first refl refl refl refl (fits core order ready whole));
        mid =
            subst (λ p. Mid (plain_of new) (Recalls new) (record o { nulls = nulls }) p) (sym past)
            (mid_took (plain_of core) (Recalls core) o order mid_is (rests core order ready whole) body (record o { nulls = nulls }) is);
      }

  -- a request whose id is open
  pub whole_again : (body : List ℕ) (id : Id) (method : List ℕ) (params : Option Data) → meaning body ≡ Ok (request id method params) → is_open id now.requests ≡ true
      → Whole (counted body core) [] (invalid_request ∷ []) (take body ∷ order)
  whole_again body id method params means there =
      whole_counted body (invalid_request ∷ []) (law.took_again o now mid_is.open_is refl body id method params means there)

  -- a response
  pub whole_result : (body : List ℕ) (id : Option Id) (value : Data) → meaning body ≡ Ok (result id value) → Whole (counted body core) [] [] (take body ∷ order)
  whole_result body id value means = whole_counted body [] (law.took_result o now mid_is.open_is refl body id value means)

  pub whole_failure : (body : List ℕ) (id : Option Id) (code : ℤ) (text : List ℕ) → meaning body ≡ Ok (failure id code text) → Whole (counted body core) [] [] (take body ∷ order)
  whole_failure body id code text means = whole_counted body [] (law.took_failure o now mid_is.open_is refl body id code text means)

  -- what is no message
  pub whole_nothing : (body : List ℕ) (code : ℤ) → meaning body ≡ Err code → Whole (counted body core) [] (code ∷ []) (take body ∷ order)
  whole_nothing body code means = whole_counted body (code ∷ []) (law.took_nothing o now mid_is.open_is refl body code means)

  -- it may be taken
  pub taken_each : (body : List ℕ) → EachAllowed (onto (said_out core) (take body ∷ order))
  taken_each body =
      subst EachAllowed (sym (onto_is core order ready whole (take body ∷ order)))
      (take_allowed (plain_of core) (Recalls core) o order mid_is (rests core order ready whole) body)
