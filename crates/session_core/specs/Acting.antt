-- A core is given an event.
use Rattle.std.specs.Prelude.{◌≡◌, ◌||◌, ℕ, ℤ, List, [], ◌∷◌, Bool, false, Option, Some, None, Result}
use Rattle.rpc_peer.specs.Meaning.{meaning}
use Rattle.rpc_peer.specs.OpenIds.{same_id}
use Rattle.rpc_peer.specs.Said.{Said}
use Rattle.rpc_peer.specs.declared.message.Id.{Id}
use Rattle.session_core.specs.Marking.{marked}
use Rattle.session_core.specs.Standing.{Whole}
use Rattle.session_core.specs.State.{said_out}
use Rattle.session_core.specs.declared.head.Head.{Head}
use Rattle.session_core.specs.declared.session.Core.{Core}
use Rattle.session_law.specs.Lawful.{EachAllowed}
use Rattle.session_law.specs.Methods.{Verdict}
use Rattle.session_law.specs.Open.{asking_for}
use Rattle.session_law.specs.Order.{Event, onto, take}
use Rattle.session_law.specs.Requests.{is_closing}
use Rattle.session_queue.specs.Waiting.{is_open}

-- it goes on behind the event with what it keeps
abbrev pub Acts : Core → Core → Event → Type 0
Acts old new event = (order : List Event) → Whole old [] [] order → Whole new [] [] (event ∷ order)

-- what it says is allowed behind the event
abbrev pub ActsInVain : Core → Core → Event → Type 0
ActsInVain old new event = (order : List Event) → Whole old [] [] order → EachAllowed (onto (said_out new) (event ∷ order))

-- ---- by what a body means

abbrev pub ActsOn : Core → Core → Result Said ℤ → Type 0
ActsOn old new meant = (body : List ℕ) → meaning body ≡ meant → Acts old new (take body)

abbrev pub ActsOnInVain : Core → Core → Result Said ℤ → Type 0
ActsOnInVain old new meant = (body : List ℕ) → meaning body ≡ meant → ActsInVain old new (take body)

-- ---- requests

abbrev pub is_head : Id → Option Head → Bool
is_head id None = false
is_head id (Some head) = same_id id head.id

-- a request with this id is at the head, or waits
abbrev pub is_open_in : Id → Core → Bool
is_open_in id core = is_head id core.head || is_open id core.queue

-- The request that was taken last gets what it is owed, as far as that is owed at once, or waits. A shutdown that closes the
-- session cancels all others before.
abbrev pub ServesAs : Core → Core → Id → ℕ → Verdict → Type 0
ServesAs old new id number v =
    (order : List Event) → Whole (marked (λ other. is_closing v) old) (asking_for id number v ∷ []) [] order → Whole new [] [] order

abbrev pub LosesAs : Core → Core → Id → ℕ → Verdict → Type 0
LosesAs old new id number v =
    (order : List Event) → Whole (marked (λ other. is_closing v) old) (asking_for id number v ∷ []) [] order → EachAllowed (onto (said_out new) order)

abbrev pub WaitsInVain : Core → Core → Id → ℕ → Verdict → Type 0
WaitsInVain old new id number v = (order : List Event) → Whole old (asking_for id number v ∷ []) [] order → EachAllowed (onto (said_out new) order)

-- the request that was taken last waits, and what else it keeps goes on
abbrev pub WaitsAsLast : Core → Core → Id → ℕ → Verdict → Type 0
WaitsAsLast old new id number v = (order : List Event) → Whole old (asking_for id number v ∷ []) [] order → Whole new [] [] order
