-- What makes an order lawful: the sentences, listed for each kind of event. Each is judged at an event, from what the
-- session is before it.
use Rattle.std.specs.Prelude.{◌≡◌, ℕ, List, [], ◌∷◌, map, Option, Some, None, IfSome}
use Rattle.std.specs.List.{All}
use Rattle.ob_text.specs.Held.{Entries, IsReadable}
use Rattle.rpc_peer.specs.Said.{Said}
use Rattle.session_law.specs.AnswersAtOnce.{IsCaughtUp}
use Rattle.session_law.specs.AnswersFirst.{AnswersFirst, OwesNoOther}
use Rattle.session_law.specs.AnswersOnce.{AnswersOnce}
use Rattle.session_law.specs.CancelsForCause.{CancelsForCause}
use Rattle.session_law.specs.IsFramed.{IsFramed}
use Rattle.session_law.specs.Order.{Event, take, ends, hand, write}
use Rattle.session_law.specs.Past.{Now, after, standing}
use Rattle.session_law.specs.PublishesInBuildsOnly.{PublishesInBuildsOnly}
use Rattle.session_law.specs.RefusesExactly.{RefusesExactly}
use Rattle.session_law.specs.Requests.{Asked, WantedBy, first_marked}
use Rattle.session_law.specs.ShowsCleanBuild.{ShowsCleanBuild}
use Rattle.session_law.specs.ShowsOldOrNew.{ShowsOldOrNew}
use Rattle.session_law.specs.TakesUpInOrder.{TakesUpInOrder}
use Rattle.session_law.specs.TasksInOrder.{TasksInOrder}
use Rattle.session_law.specs.declared.InputEnd.{InputEnd}

-- where no request is to be cancelled
pub record GoesOn (now : Now) (m : Said) : Type 0 where
  pub first : AnswersFirst now m
  pub exact : RefusesExactly now m
  pub in_order : TakesUpInOrder now m
  pub shows : ShowsCleanBuild now m
  pub tasks : TasksInOrder now m

-- where this request is the first that is to be cancelled
pub record Cancels (asked : Asked) (now : Now) (m : Said) : Type 0 where
  pub for_cause : CancelsForCause asked now m
  pub old_or_new : ShowsOldOrNew now m

abbrev pub GoesOnOrCancels : Option Asked → Now → Said → Type 0
GoesOnOrCancels None now m = GoesOn now m
GoesOnOrCancels (Some asked) now m = Cancels asked now m

pub record WriteAllowed (now : Now) (m : Said) : Type 0 where
  pub framed : IsFramed m
  pub once : AnswersOnce now m
  pub in_builds : PublishesInBuildsOnly now m
  pub by_marks : GoesOnOrCancels (first_marked now.requests) now m

-- A body is taken once what was taken before it is answered as far as it is owed at once, and none behind the
-- session's end.
pub record TakeAllowed (now : Now) (body : List ℕ) : Type 0 where
  pub answered : IsCaughtUp now
  pub goes_on : now.status ≡ None

-- So is an end of the input.
pub record EndAllowed (now : Now) (how : InputEnd) : Type 0 where
  pub answered : IsCaughtUp now
  pub goes_on : now.status ≡ None

-- what was handed out is what is held at these paths, and each text is a document
pub record AreHeld (paths : List (List ℕ)) (entries : Entries) : Type 0 where
  pub asked : map (λ entry. entry.0) entries ≡ paths
  pub texts : All (λ entry. IsReadable entry.1) entries

-- The tree is asked for the first request, where that wants files and no other is owed something at once, once, and for just
-- these.
pub record HandAllowed (now : Now) (handed : Option Entries) : Type 0 where
  pub no_other : OwesNoOther now
  pub paths : List (List ℕ)
  pub wanted : WantedBy (standing now) paths
  pub held : IfSome handed (AreHeld paths)

abbrev pub Allowed : Now → Event → Type 0
Allowed now (take body) = TakeAllowed now body
Allowed now (ends how) = EndAllowed now how
Allowed now (hand handed) = HandAllowed now handed
Allowed now (write m) = WriteAllowed now m

abbrev pub EachAllowed : List Event → Type 0
EachAllowed [] = Unit {0}
EachAllowed (event ∷ past) = Allowed (after past) event × EachAllowed past

-- each event of the order meets its sentences
pub record Lawful (order : List Event) : Type 0 where
  pub each : EachAllowed order
