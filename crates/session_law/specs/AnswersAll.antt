-- AnswersAll: nothing is owed. It is asked where a session ended by itself.
use Rattle.std.specs.Prelude.{◌≡◌, List, []}
use Rattle.session_law.specs.Order.{Event}
use Rattle.session_law.specs.Past.{after}

pub record IsSettled (order : List Event) : Type 0 where
  pub requests : (after order).requests ≡ []
  pub nulls : (after order).nulls ≡ []
