-- Behind the end of a session each request that is still open is to be cancelled.
use Rattle.std.proofs.Common.{◌≡◌, ◌||◌, ◌&&◌, ℕ, ℤ, suc, List, [], ◌∷◌, Bool, true, false, All, Option, Some, None, Result, Ok, Err, refl, ap, ◌∙◌}
use Rattle.std.specs.Prelude.{codes, if◌then◌else◌}
use Rattle.std.proofs.Math.Bool.{or-true}
use Rattle.std.proofs.lemmas.List.Elements.{All-cons, All-head, All-nil, All-tail}
use Rattle.ob_text.specs.Held.{Entries}
use Rattle.rpc_peer.specs.Meaning.{meaning}
use Rattle.rpc_peer.specs.OpenIds.{same_id}
use Rattle.rpc_peer.specs.Said.{Said, request, notification, result, failure}
use Rattle.rpc_peer.specs.declared.message.Id.{Id}
use Rattle.target_graph.specs.Workspace.{Space}
use Rattle.session_law.specs.AnswersAtOnce.{MayWait, Waits}
use Rattle.session_law.specs.Lawful.{EachAllowed}
use Rattle.session_law.specs.Methods.{Verdict, asking, opening, queued, building, built, rereading, reloading, cleaning, answering, closing, refusal, is_named}
use Rattle.session_law.specs.Order.{Event, take, ends, hand, write}
use Rattle.session_law.specs.Past.{after, exit_status, status_after}
use Rattle.session_law.specs.Requests.{Asked, cancelled_id, cancels, closed_by, first_marked, first_up, handed_by, has_this_id, is_of_queue, marked_if, marked_where, opened_by, without}

abbrev pub IsMarked : Asked → Type 0
IsMarked asked = asked.cancelled ≡ true

no_status : (status : ℕ) → None ≡ Some status → ⊥
no_status status same = cc

-- what may wait is of the queue
waits_queued : (v : Verdict) → MayWait v → is_of_queue v ≡ true
waits_queued (queued call) may = refl
waits_queued (built build entries) may = refl
waits_queued (rereading space) may = refl
waits_queued (reloading space file) may = refl
waits_queued (cleaning space targets) may = refl
waits_queued (asking root) may = absurd may
waits_queued (opening root file) may = absurd may
waits_queued (building build) may = absurd may
waits_queued (answering space question) may = absurd may
waits_queued closing may = absurd may
waits_queued (refusal code text) may = absurd may

one_marked : (b : Bool) (asked : Asked) → b ≡ true → Waits asked → IsMarked (marked_if b asked)
one_marked b asked is waits =
    ap (λ c. asked.cancelled || (c && is_of_queue asked.verdict)) is ∙ (ap (λ c. asked.cancelled || c) (waits_queued asked.verdict waits.may) ∙ or-true asked.cancelled)

all_where : (marks : Asked → Bool) (requests : List Asked) → ((asked : Asked) → marks asked ≡ true) → All Waits requests → All IsMarked (marked_where marks requests)
all_where marks [] each all = All-nil IsMarked
all_where marks (asked ∷ requests) each all =
    All-cons IsMarked (marked_if (marks asked) asked) (marked_where marks requests) (one_marked (marks asked) asked (each asked) (All-head Waits asked requests all))
    (all_where marks requests each (All-tail Waits asked requests all))

-- ---- an exit

by_exit : (b closed : Bool) (status : ℕ) → (if b then Some (if closed then 0 else 1) else None) ≡ Some status → b ≡ true
by_exit true closed status same = refl
by_exit false closed status same = absurd (no_status status same)

exit_marks : (meant : Result Said ℤ) (n : ℕ) (force : Option Space) (closed : Bool) (requests : List Asked) (status : ℕ) → exit_status meant closed ≡ Some status → All Waits requests
    → All IsMarked (opened_by meant n force closed requests)
exit_marks (Ok (request id method params)) n force closed requests status same all = absurd (no_status status same)
exit_marks (Ok (notification method params)) n force closed requests status same all =
    let exits = by_exit (is_named (codes "build/exit") method) closed status same in
    all_where (cancels method params) requests (λ asked. ap (λ b. b || (is_named (codes "$/cancelRequest") method && has_this_id (cancelled_id params) asked)) exits) all
exit_marks (Ok (result id value)) n force closed requests status same all = absurd (no_status status same)
exit_marks (Ok (failure id code text)) n force closed requests status same all = absurd (no_status status same)
exit_marks (Err code) n force closed requests status same all = absurd (no_status status same)

-- ---- what is behind it

hand_marked : (force : Option Space) (handed : Option Entries) (requests : List Asked) → All IsMarked requests → All IsMarked (handed_by handed (first_up force requests))
hand_marked force handed [] all = All-nil IsMarked
hand_marked force handed (asked ∷ requests) all =
    All-cons IsMarked _ requests (All-head IsMarked asked requests all) (All-tail IsMarked asked requests all)

without_marked : (id : Id) (requests : List Asked) → All IsMarked requests → All IsMarked (without id requests)
without_marked id [] all = All-nil IsMarked
without_marked id (asked ∷ requests) all = by (same_id id asked.id) (without_marked id requests (All-tail IsMarked asked requests all))
  where
    by : (b : Bool) → All IsMarked (without id requests) → All IsMarked (if b then requests else asked ∷ without id requests)
    by true rest = All-tail IsMarked asked requests all
    by false rest = All-cons IsMarked asked (without id requests) (All-head IsMarked asked requests all) rest

write_marked : (m : Said) (requests : List Asked) → All IsMarked requests → All IsMarked (closed_by m requests)
write_marked (request id method params) requests all = all
write_marked (notification method params) requests all = all
write_marked (result None value) requests all = all
write_marked (result (Some id) value) requests all = without_marked id requests all
write_marked (failure None code text) requests all = all
write_marked (failure (Some id) code text) requests all = without_marked id requests all

pub ended_marked : (order : List Event) (status : ℕ) → EachAllowed order → status_after order ≡ Some status → All IsMarked (after order).requests
ended_marked [] status each same = absurd (no_status status same)
ended_marked (take body ∷ past) status each same =
    let now = after past in
    exit_marks (meaning body) (suc now.taken) now.force now.closed now.requests status same each.0.answered.requests
ended_marked (ends how ∷ past) status each same = all_where (λ asked. true) (after past).requests (λ asked. refl) each.0.answered.requests
ended_marked (hand handed ∷ past) status each same = hand_marked (after past).force handed (after past).requests (ended_marked past status each.1 same)
ended_marked (write m ∷ past) status each same = write_marked m (after past).requests (ended_marked past status each.1 same)

-- where all are and none is, none is open
pub marked_none : (requests : List Asked) → All IsMarked requests → first_marked requests ≡ None → requests ≡ []
marked_none [] all none = refl
marked_none (asked ∷ requests) all none =
    let first : first_marked (asked ∷ requests) ≡ Some asked = ap (λ b. if b then Some asked else first_marked requests) (All-head IsMarked asked requests all) in
    absurd cc
