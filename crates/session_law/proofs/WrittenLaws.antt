-- A build writes what it tells, message after message, and is cancelled in the same way; and what a session is behind that.
use Rattle.std.proofs.Common.{◌≡◌, ◌||◌, ◌++◌, ℕ, List, [], ◌∷◌, filter, Bool, true, false, All, Option, Some, None, refl, ap, sym, ◌∙◌, subst, append-nil, append_assoc, cond}
use Rattle.std.proofs.lemmas.List.Elements.{All-head, All-tail, filter-append}
use Rattle.rpc_peer.specs.Said.{Said, request, notification, result, failure}
use Rattle.session_law.proofs.PublishedLaws.{IsOther}
use Rattle.session_law.proofs.WriteLaws.{IsFree, allowed_cancels, allowed_notice, if_so, if_not}
use Rattle.session_law.specs.Builds.{Finding, IsFindingOf, PublishesSome, is_later_piece, is_publication, shown_by, table_behind}
use Rattle.session_law.specs.Cancelling.{IsCancelledBy}
use Rattle.session_law.specs.CancelsForCause.{CancelsActive, CancelsAs, CancelsNext}
use Rattle.session_law.specs.Course.{AreGiven, Given, Tells}
use Rattle.session_law.specs.IsFramed.{IsFramed}
use Rattle.session_law.specs.Lawful.{EachAllowed}
use Rattle.session_law.specs.Methods.{Verdict, asking, opening, queued, building, built, rereading, reloading, cleaning, answering, closing, refusal}
use Rattle.session_law.specs.Order.{Event, onto, write}
use Rattle.session_law.specs.Past.{Now, after, by_event, notice_in}
use Rattle.session_law.specs.Requests.{Active, Asked, active_as, active_of, first_marked}
use Rattle.session_law.specs.ShowsCleanBuild.{IsTogether, PublishesNext}
use Rattle.session_law.specs.TasksInOrder.{IsGivenBy, TellsNext}

-- the message is a notification
abbrev pub IsNotice : Said → Type 0
IsNotice m = notice_in m ≡ m ∷ []

-- no notification is a response or a request
pub no_response : {A : Type 0} (m : Said) → [] ≡ m ∷ [] → A
no_response m none = absurd (cc)

or_false : (b : Bool) → (b || false) ≡ b
or_false true = refl
or_false false = refl

-- ---- what a session is behind notifications

-- what happened last is that a notification was written, behind these
abbrev pub telling_behind : List Said → Bool → Bool
telling_behind [] telling = telling
telling_behind (m ∷ messages) telling = true

-- these were written, and the table is the one that is shown then
abbrev pub noticed : List Said → Now → Now
noticed messages now = record now { table = table_behind messages now.table; notices = now.notices ++ messages; telling = telling_behind messages now.telling }

noticed_none : (now : Now) → now ≡ noticed [] now
noticed_none now = (λ i. record now { notices = sym (append-nil now.notices) i })

pub one_noticed : (m : Said) (now : Now) → IsNotice m → by_event (write m) now ≡ noticed (m ∷ []) now
one_noticed (notification method params) now is = (λ i. record (noticed (notification method params ∷ []) now) { closed = or_false now.closed i })
one_noticed (request id method params) now is = no_response (request id method params) is
one_noticed (result id value) now is = no_response (result id value) is
one_noticed (failure id code text) now is = no_response (failure id code text) is

still_telling : (messages : List Said) → telling_behind messages true ≡ true
still_telling [] = refl
still_telling (m ∷ messages) = refl

noticed_more : (m : Said) (messages : List Said) (now : Now) → noticed messages (noticed (m ∷ []) now) ≡ noticed (m ∷ messages) now
noticed_more m messages now =
    (λ i. record now { table = table_behind messages (shown_by m now.table); notices = append_assoc now.notices (m ∷ []) messages i; telling = still_telling messages i })

pub all_noticed : (messages : List Said) (order : List Event) → All IsNotice messages → after (onto messages order) ≡ noticed messages (after order)
all_noticed [] order all = noticed_none (after order)
all_noticed (m ∷ messages) order all =
    all_noticed messages (write m ∷ order) (All-tail IsNotice m messages all)
    ∙ (ap (noticed messages) (one_noticed m (after order) (All-head IsNotice m messages all))
    ∙ noticed_more m messages (after order))

-- ---- a build tells

-- a course goes by the build that is active
pub record Works (active : Active) (g : Given) (now : Now) : Type 0 where
  pub is_active : active_of now.requests ≡ Some active
  pub by_build : IsGivenBy active now g

works_on : (active : Active) (g : Given) (now : Now) (m : Said) → IsNotice m → Works active g now → Works active g (by_event (write m) now)
works_on active g now m is works =
    subst (Works active g) (sym (one_noticed m now is))
    (record {
      is_active = works.is_active;
      by_build = record { are = works.by_build.are; active_is = works.by_build.active_is; earlier_is = works.by_build.earlier_is; table_is = works.by_build.table_is };
    })

kept_next : (ms : List Said) (m : Said) → is_publication m ≡ true → filter is_publication (m ∷ ms) ≡ m ∷ filter is_publication ms
kept_next ms m is = ap (λ b. cond b (m ∷ filter is_publication ms) (filter is_publication ms)) is

-- The first of these messages, if there is one, is no piece behind the first of a list.
abbrev pub StartsAnew : List Said → Type 0
StartsAnew [] = Unit {0}
StartsAnew (m ∷ messages) = is_later_piece m ≡ false

-- the first of these messages goes on with no list, or what happened last is that a notification was written
abbrev pub GoesOnWith : Now → List Said → Type 0
GoesOnWith now [] = Unit {0}
GoesOnWith now (m ∷ messages) = IsTogether now m

anew : (now : Now) (messages : List Said) → StartsAnew messages → GoesOnWith now messages
anew now [] starts = tt
anew now (m ∷ messages) starts = if_not (is_later_piece m) (now.telling ≡ true) starts

goes_together : (now : Now) (messages : List Said) → now.telling ≡ true → GoesOnWith now messages
goes_together now [] telling = tt
goes_together now (m ∷ messages) telling = if_so (is_later_piece m) (now.telling ≡ true) telling

-- what it publishes among these messages, list after list
pub record PublishesOf (g : Given) (messages : List Said) : Type 0 where
  pub done : List Finding
  pub each : All (IsFindingOf g.active.build g.active.entries) done
  pub publishes : PublishesSome g.table g.active.build.origin done (filter is_publication messages)

module _ (active : Active) (g : Given) (messages : List Said) (tells : Tells g messages) (publishes : PublishesOf g messages) where
  module _ (now : Now) (done rest : List Said) (m : Said) (works : Works active g now) (since : now.notices ≡ done) (whole : messages ≡ done ++ m ∷ rest) where
    tells_next : TellsNext active now m
    tells_next = record {
      given = g;
      by_build = works.by_build;
      course = messages;
      tells = tells;
      rest = rest;
      next = subst (λ d. messages ≡ d ++ m ∷ rest) (sym since) whole;
    }

    publishes_next : IsTogether now m → is_publication m ≡ true → PublishesNext active now m
    publishes_next together is = record {
      done = publishes.done;
      each = subst (λ (a : Active). All (IsFindingOf a.build a.entries) publishes.done) works.by_build.active_is publishes.each;
      published = filter is_publication messages;
      publishes =
          subst (λ (a : Active). PublishesSome now.table_at_hand a.build.origin publishes.done (filter is_publication messages)) works.by_build.active_is
          (subst (λ t. PublishesSome t g.active.build.origin publishes.done (filter is_publication messages)) works.by_build.table_is publishes.publishes);
      rest = filter is_publication rest;
      next =
          ap (filter is_publication) whole
          ∙ (filter-append is_publication done (m ∷ rest)
          ∙ (ap (λ ms. filter is_publication done ++ ms) (kept_next rest m is)
          ∙ ap (λ d. filter is_publication d ++ m ∷ filter is_publication rest) (sym since)));
      together = together;
    }

  one_told : (order : List Event) (done rest : List Said) (m : Said) → EachAllowed order → Works active g (after order) → IsFree (after order) → first_marked (after order).requests ≡ None
      → (after order).notices ≡ done → IsTogether (after order) m → IsFramed m → IsNotice m → messages ≡ done ++ m ∷ rest → EachAllowed (write m ∷ order)
  one_told order done rest (notification method params) each works free unmarked since together framed notice whole =
      let m = notification method params in (
        allowed_notice (after order) active works.is_active free unmarked method params (tells_next (after order) done rest m works since whole)
            (publishes_next (after order) done rest m works since whole together) framed,
        each,
      )
  one_told order done rest (request id method params) each works free unmarked since together framed notice whole = no_response (request id method params) notice
  one_told order done rest (result id value) each works free unmarked since together framed notice whole = no_response (result id value) notice
  one_told order done rest (failure id code text) each works free unmarked since together framed notice whole = no_response (failure id code text) notice

  -- it told the first of these messages, and writes the rest
  all_told_on : (rest : List Said) (order : List Event) (done : List Said) → EachAllowed order → Works active g (after order) → IsFree (after order) → first_marked (after order).requests ≡ None
      → (after order).notices ≡ done → GoesOnWith (after order) rest → All IsFramed rest → All IsNotice rest → messages ≡ done ++ rest → EachAllowed (onto rest order)
  all_told_on [] order done each works free unmarked since together framed notices whole = each
  all_told_on (m ∷ rest) order done each works free unmarked since together framed notices whole =
      let notice : IsNotice m = All-head IsNotice m rest notices in
      let next : after (write m ∷ order) ≡ noticed (m ∷ []) (after order) = one_noticed m (after order) notice in
      all_told_on rest (write m ∷ order) (done ++ m ∷ [])
      (one_told order done rest m each works free unmarked since together (All-head IsFramed m rest framed) notice whole)
      (works_on active g (after order) m notice works)
      (subst IsFree (sym next) (record { requests = free.requests; nulls = free.nulls }))
      (ap (λ (now : Now). first_marked now.requests) next ∙ unmarked)
      (ap (λ (now : Now). now.notices) next ∙ ap (λ d. d ++ m ∷ []) since)
      (goes_together (after (write m ∷ order)) rest (ap (λ (now : Now). now.telling) next))
      (All-tail IsFramed m rest framed) (All-tail IsNotice m rest notices)
      (whole ∙ sym (append_assoc done (m ∷ []) rest))

  -- it told whole lists so far, and writes the rest
  pub all_told : (rest : List Said) (order : List Event) (done : List Said) → EachAllowed order → Works active g (after order) → IsFree (after order) → first_marked (after order).requests ≡ None
      → (after order).notices ≡ done → StartsAnew rest → All IsFramed rest → All IsNotice rest → messages ≡ done ++ rest → EachAllowed (onto rest order)
  all_told rest order done each works free unmarked since starts = all_told_on rest order done each works free unmarked since (anew (after order) rest starts)

-- ---- a build is cancelled

-- what is owed to the active build that is to be cancelled
cancels_as : (asked : Asked) (v : Verdict) (now : Now) (m : Said) → CancelsActive (active_as asked v) now m → CancelsAs asked v now m
cancels_as asked (built build entries) now m cancels = cancels
cancels_as asked (queued call) now m cancels = absurd cancels
cancels_as asked (rereading space) now m cancels = absurd cancels
cancels_as asked (reloading space file) now m cancels = absurd cancels
cancels_as asked (cleaning space targets) now m cancels = absurd cancels
cancels_as asked (building build) now m cancels = absurd cancels
cancels_as asked (asking root) now m cancels = absurd cancels
cancels_as asked (opening root file) now m cancels = absurd cancels
cancels_as asked (answering space question) now m cancels = absurd cancels
cancels_as asked closing now m cancels = absurd cancels
cancels_as asked (refusal code text) now m cancels = absurd cancels

module _ (active : Active) (g : Given) (told cancels : List Said) (by : IsCancelledBy g told cancels) (asked : Asked)
    (is_built : active_as asked asked.verdict ≡ Some active) where
  one_cancel : (order : List Event) (before rest : List Said) (m : Said) → EachAllowed order → Works active g (after order) → first_marked (after order).requests ≡ Some asked
      → (after order).notices ≡ told ++ before → IsFramed m → IsNotice m → cancels ≡ before ++ m ∷ rest → EachAllowed (write m ∷ order)
  one_cancel order before rest (notification method params) each works marked since framed notice whole =
      let m = notification method params in
      let next : CancelsNext active (after order) m = record {
        given = g;
        by_build = works.by_build;
        course = told;
        before = before;
        rest = rest;
        told = since;
        cancels = subst (IsCancelledBy g told) whole by;
      } in (
        allowed_cancels (after order) active works.is_active asked marked method params
            (cancels_as asked asked.verdict (after order) m (subst (λ a. CancelsActive a (after order) m) (sym is_built) next)) framed,
        each,
      )
  one_cancel order before rest (request id method params) each works marked since framed notice whole = no_response (request id method params) notice
  one_cancel order before rest (result id value) each works marked since framed notice whole = no_response (result id value) notice
  one_cancel order before rest (failure id code text) each works marked since framed notice whole = no_response (failure id code text) notice

  -- it told the first of its cancels, and writes the rest
  pub all_cancelled : (rest : List Said) (order : List Event) (before : List Said) → EachAllowed order → Works active g (after order) → first_marked (after order).requests ≡ Some asked
      → (after order).notices ≡ told ++ before → All IsFramed rest → All IsNotice rest → cancels ≡ before ++ rest → EachAllowed (onto rest order)
  all_cancelled [] order before each works marked since framed notices whole = each
  all_cancelled (m ∷ rest) order before each works marked since framed notices whole =
      let notice : IsNotice m = All-head IsNotice m rest notices in
      let next : after (write m ∷ order) ≡ noticed (m ∷ []) (after order) = one_noticed m (after order) notice in
      all_cancelled rest (write m ∷ order) (before ++ m ∷ [])
      (one_cancel order before rest m each works marked since (All-head IsFramed m rest framed) notice whole)
      (works_on active g (after order) m notice works)
      (ap (λ (now : Now). first_marked now.requests) next ∙ marked)
      (ap (λ (now : Now). now.notices) next ∙ (ap (λ d. d ++ m ∷ []) since ∙ append_assoc told before (m ∷ [])))
      (All-tail IsFramed m rest framed) (All-tail IsNotice m rest notices)
      (whole ∙ sym (append_assoc before (m ∷ []) rest))
