-- The requests that wait, the oldest first, as a plain list.
use Rattle.std.specs.Prelude.{◌≡◌, ◌||◌, List, [], ◌∷◌, Bool, true, false, not, filter, find, Option, if◌then◌else◌}
use Rattle.rpc_peer.specs.declared.message.Id.{Id}
use Rattle.rpc_peer.specs.OpenIds.{has_id, same_id}
use Rattle.session_queue.specs.declared.waiting.Waiting.{Waiting}

-- no id stands twice
abbrev pub AreApart : List Id → Type 0
AreApart [] = Unit {0}
AreApart (id ∷ others) = (has_id id others ≡ false) × AreApart others

module _ {T : Type 0} where
  abbrev pub ids : List (Waiting T) → List Id
  ids [] = []
  ids (waiting ∷ others) = waiting.id ∷ ids others

  -- a request with this id waits
  abbrev pub is_open : Id → List (Waiting T) → Bool
  is_open id queue = has_id id (ids queue)

  abbrev pub has_this_id : Id → Waiting T → Bool
  has_this_id id waiting = same_id id waiting.id

  -- the requests without the first that has this id
  abbrev pub without : Id → List (Waiting T) → List (Waiting T)
  without id [] = []
  without id (waiting ∷ others) = if same_id id waiting.id then others else waiting ∷ without id others

  -- ---- marks: a request is marked where it is to be cancelled

  abbrev pub marked_if : Bool → Waiting T → Waiting T
  marked_if cancels waiting = record waiting { cancelled = waiting.cancelled || cancels }

  -- those are marked too for which this holds
  abbrev pub marked_where : (Waiting T → Bool) → List (Waiting T) → List (Waiting T)
  marked_where cancels [] = []
  marked_where cancels (waiting ∷ others) = marked_if (cancels waiting) waiting ∷ marked_where cancels others

  abbrev pub all_marked : List (Waiting T) → List (Waiting T)
  all_marked queue = marked_where (λ waiting. true) queue

  -- the oldest that is marked
  abbrev pub first_marked : List (Waiting T) → Option (Waiting T)
  first_marked queue = find (λ waiting. waiting.cancelled) queue

  -- all that are marked, and all others
  abbrev pub marked_of : List (Waiting T) → List (Waiting T)
  marked_of queue = filter (λ waiting. waiting.cancelled) queue

  abbrev pub kept_of : List (Waiting T) → List (Waiting T)
  kept_of queue = filter (λ waiting. not waiting.cancelled) queue
