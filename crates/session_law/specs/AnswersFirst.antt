-- AnswersFirst: what is owed at once is answered before anything else is written, and before the tree is asked for another.
use Rattle.std.specs.Prelude.{◌≡◌, ℤ, List, [], ◌∷◌, true, drop, Option, Some, None, if◌then◌else◌}
use Rattle.rpc_peer.specs.declared.message.Id.{Id}
use Rattle.rpc_peer.specs.OpenIds.{same_id}
use Rattle.rpc_peer.specs.Said.{Said, result, failure}
use Rattle.session_law.specs.Past.{Now}
use Rattle.session_law.specs.Requests.{Asked, is_of_queue}

-- the first request that isn't of the queue
abbrev pub first_at_once : List Asked → Option Asked
first_at_once [] = None
first_at_once (asked ∷ others) = if is_of_queue asked.verdict then first_at_once others else Some asked

abbrev pub RespondsTo : Id → Said → Type 0
RespondsTo id (result (Some answered) value) = same_id answered id ≡ true
RespondsTo id (failure (Some answered) code text) = same_id answered id ≡ true
RespondsTo id m = ⊥

abbrev pub AnswersIt : Option Asked → Said → Type 0
AnswersIt None m = Unit {0}
AnswersIt (Some asked) m = RespondsTo asked.id m

-- a response with the id null
abbrev pub RespondsToNone : Said → Type 0
RespondsToNone (failure None code text) = Unit {0}
RespondsToNone m = ⊥

abbrev pub AnswersNulls : List ℤ → Said → Type 0
AnswersNulls [] m = Unit {0}
AnswersNulls (code ∷ others) m = RespondsToNone m

pub record AnswersFirst (now : Now) (m : Said) : Type 0 where
  pub requests : AnswersIt (first_at_once now.requests) m
  pub nulls : AnswersNulls now.nulls m

-- nothing is owed at once but to the first request
pub record OwesNoOther (now : Now) : Type 0 where
  pub requests : first_at_once (drop 1 now.requests) ≡ None
  pub nulls : now.nulls ≡ []
