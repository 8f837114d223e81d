-- AnswersOnce: a response answers an open request, or what is owed with the id null.
use Rattle.std.specs.Prelude.{◌≡◌, ℤ, List, ◌∷◌, true, Some, None}
use Rattle.rpc_peer.specs.Said.{Said, request, notification, result, failure}
use Rattle.session_law.specs.Past.{Now}
use Rattle.session_law.specs.Requests.{is_open}

pub record IsOwed (nulls : List ℤ) : Type 0 where
  pub first : ℤ
  pub others : List ℤ
  pub are : nulls ≡ first ∷ others

abbrev pub AnswersOnce : Now → Said → Type 0
AnswersOnce now (result (Some id) value) = is_open id now.requests ≡ true
AnswersOnce now (failure (Some id) code text) = is_open id now.requests ≡ true
AnswersOnce now (failure None code text) = IsOwed now.nulls
AnswersOnce now (result None value) = ⊥
AnswersOnce now (request id method params) = Unit {0}
AnswersOnce now (notification method params) = Unit {0}
