-- AnswersAtOnce: before a body is taken, and before the input is found to have ended, what is owed at once is answered.
use Rattle.std.specs.Prelude.{◌≡◌, ◌≢◌, List, [], ◌∷◌, false}
use Rattle.std.specs.List.{All}
use Rattle.rpc_peer.specs.Said.{Said}
use Rattle.session_law.specs.Methods.{Verdict, queued, built}
use Rattle.session_law.specs.Past.{Now}
use Rattle.session_law.specs.Requests.{Asked}

-- A request of the queue may wait for those before it, and a build that was handed its documents for its checks.
abbrev pub MayWait : Verdict → Type 0
MayWait (queued call) = Unit {0}
MayWait (built build entries) = Unit {0}
MayWait v = ⊥

-- what a cancel owes stands before the next body is taken
pub record Waits (asked : Asked) : Type 0 where
  pub may : MayWait asked.verdict
  pub goes_on : asked.cancelled ≡ false

-- the first request was taken up: it is a build that was handed its documents, and told that it starts
abbrev pub IsUp : Verdict → List Said → Type 0
IsUp (built build entries) notices = notices ≢ []
IsUp v notices = ⊥

abbrev pub HeadIsUp : List Asked → List Said → Type 0
HeadIsUp [] notices = Unit {0}
HeadIsUp (asked ∷ others) notices = IsUp asked.verdict notices

pub record IsCaughtUp (now : Now) : Type 0 where
  pub nulls : now.nulls ≡ []
  pub head : HeadIsUp now.requests now.notices
  pub requests : All Waits now.requests
