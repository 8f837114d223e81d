-- EachRests, beside the law: a session goes as far as it can in each of its steps. So, before a body is taken, and before the
-- input is found to have ended, a build that stays open waits for a check. A reader of a recording can't ask that of it, since
-- what a cancel owes may stand there between any two messages of a build.
use Rattle.std.specs.Prelude.{ℕ, List, [], ◌∷◌, Option, Some, None}
use Rattle.rpc_peer.specs.Said.{Said}
use Rattle.session_law.specs.AnswersAtOnce.{IsCaughtUp}
use Rattle.session_law.specs.Course.{Course, Given, NoneIsNext, Runs, Stage}
use Rattle.session_law.specs.Order.{Event, take, ends, hand, write}
use Rattle.session_law.specs.Past.{Now, after}
use Rattle.session_law.specs.Requests.{Active, Asked, active_as}
use Rattle.session_law.specs.TasksInOrder.{IsGivenBy}
use Rattle.session_law.specs.declared.BuildDocument.{BuildDocument}

-- Behind these messages the build waits for a check: one of them started and hasn't finished, and no document can be looked at
-- before one does.
pub record AwaitsCheck (g : Given) (messages : List Said) : Type 0 where
  pub stage : Stage
  pub course : Course g stage messages
  pub none_next : NoneIsNext g stage
  pub document : BuildDocument
  pub number : ℕ
  pub runs : Runs stage document number

-- the build was taken up, and waits for a check
pub record IsAwaiting (active : Active) (now : Now) : Type 0 where
  pub given : Given
  pub by_build : IsGivenBy active now given
  pub awaits : AwaitsCheck given now.notices

abbrev pub SomeAwaits : Option Active → Now → Type 0
SomeAwaits None now = ⊥
SomeAwaits (Some active) now = IsAwaiting active now

-- the first request is such a build
abbrev pub HeadAwaits : List Asked → Now → Type 0
HeadAwaits [] now = Unit {0}
HeadAwaits (asked ∷ others) now = SomeAwaits (active_as asked asked.verdict) now

abbrev pub EachRests : List Event → Type 0
EachRests [] = Unit {0}
EachRests (take body ∷ past) = HeadAwaits (after past).requests (after past) × EachRests past
EachRests (ends how ∷ past) = HeadAwaits (after past).requests (after past) × EachRests past
EachRests (hand handed ∷ past) = EachRests past
EachRests (write m ∷ past) = EachRests past

-- what is owed at once is answered, and the session rests
pub record IsAtRest (now : Now) : Type 0 where
  pub caught_up : IsCaughtUp now
  pub awaits : HeadAwaits now.requests now
