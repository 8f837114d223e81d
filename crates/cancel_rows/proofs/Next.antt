-- Where a build is to be cancelled, what is written next is decided: the next message of its cancel, and behind the last of
-- those its answer.
use Rattle.std.proofs.Common.{◌≡◌, ◌++◌, ◌<◌, ◌^◌, List, [], ◌∷◌, length, true, All, Some, refl, sym, ap, subst, ◌∙◌}
use Rattle.std.proofs.lemmas.List.{append-nil, append_cancel_left}
use Rattle.rpc_peer.specs.Said.{Said, request, notification, result, failure}
use Rattle.cancel_rows.proofs.OneCancel.{one_cancel, one_given}
use Rattle.cancel_rows.proofs.Status.{course_cancels_none, split}
use Rattle.session_law.proofs.CancelLaws.{IsCancel, all_of_cancel}
use Rattle.session_law.proofs.ClosureLaws.{IdsDiffer}
use Rattle.session_law.proofs.OpenLaws.{all_left}
use Rattle.session_law.proofs.StartLaws.{NumbersFit}
use Rattle.session_law.specs.Builds.{cancelled_said}
use Rattle.session_law.specs.Cancelling.{IsCancelledBy}
use Rattle.session_law.specs.CancelsForCause.{CancelsBuild, HasCancelledAll}
use Rattle.session_law.specs.Course.{Given}
use Rattle.session_law.specs.Lawful.{Cancels, GoesOnOrCancels, WriteAllowed}
use Rattle.session_law.specs.Open.{working_on}
use Rattle.session_law.specs.Order.{Event}
use Rattle.session_law.specs.Past.{Now, after}
use Rattle.session_law.specs.Requests.{Active, Asked, first_marked}
use Rattle.session_law.specs.TasksInOrder.{IsGivenBy}

-- ---- what a write is owed by

-- a request is the first that is to be cancelled
pub by_mark : (now : Now) (asked : Asked) (m : Said) → first_marked now.requests ≡ Some asked → WriteAllowed now m → Cancels asked now m
by_mark now asked m marked allowed = subst (λ o. GoesOnOrCancels o now m) marked allowed.by_marks

-- so is the build at the head
pub by_build_mark : (now : Now) (g : Given) (others : List Asked) (m : Said) → now.requests ≡ working_on g true ∷ others → WriteAllowed now m → CancelsBuild g.active now m
by_build_mark now g others m open_is allowed = (by_mark now (working_on g true) m (ap first_marked open_is) allowed).for_cause

-- ---- what is next

-- the message is the next of these, or the answer behind them
abbrev pub IsNext : Active → List Said → Said → Type 0
IsNext active [] m = m ≡ cancelled_said active.id active.build.origin
IsNext active (next ∷ rest) m = m ≡ next

-- what the build told is a course and the first messages of a cancel, and the message is the next
pub record GivesUp (active : Active) (now : Now) (m : Said) : Type 0 where
  pub given : Given
  pub by_build : IsGivenBy active now given
  pub course : List Said
  pub before : List Said
  pub rest : List Said
  pub told : now.notices ≡ course ++ before
  pub cancels : IsCancelledBy given course (before ++ rest)
  pub next : IsNext active rest m

answers : (active : Active) (now : Now) (m : Said) → HasCancelledAll active now → m ≡ cancelled_said active.id active.build.origin → GivesUp active now m
answers active now m all is = record {
  given = all.given;
  by_build = all.by_build;
  course = all.course;
  before = all.cancels;
  rest = [];
  told = all.told;
  cancels = subst (IsCancelledBy all.given all.course) (sym (append-nil all.cancels)) all.all;
  next = is;
}

by_cases : (active : Active) (now : Now) (m : Said) → CancelsBuild active now m → GivesUp active now m
by_cases active now (notification method params) owed = record {
  given = owed.given;
  by_build = owed.by_build;
  course = owed.course;
  before = owed.before;
  rest = notification method params ∷ owed.rest;
  told = owed.told;
  cancels = owed.cancels;
  next = refl;
}
by_cases active now (request id method params) owed = answers active now (request id method params) owed.0 owed.1
by_cases active now (result id value) owed = answers active now (result id value) owed.0 owed.1
by_cases active now (failure id code text) owed = answers active now (failure id code text) owed.0 owed.1

-- whatever is written where the build at the head is to be cancelled
pub written_gives_up : (now : Now) (g : Given) (others : List Asked) (m : Said) → now.requests ≡ working_on g true ∷ others → WriteAllowed now m → GivesUp g.active now m
written_gives_up now g others m open_is allowed = by_cases g.active now m (by_build_mark now g others m open_is allowed)

module _ (past : List Event) (g : Given) (others : List Asked) (open_is : (after past).requests ≡ working_on g true ∷ others) (by_build : IsGivenBy g.active (after past) g)
    (differ : IdsDiffer g.active) (fit : NumbersFit g.active) (told cancels : List Said) (by : IsCancelledBy g told cancels) (few : length by.stage.begun < 2 ^ 64)
    (before rest : List Said) (told_is : (after past).notices ≡ told ++ before) (whole : cancels ≡ before ++ rest) where
  cancels_before : All IsCancel before
  cancels_before = all_left IsCancel before rest (subst (All IsCancel) whole (λ k d h. (all_of_cancel by k d h).cancels))

  -- Of a build that is to be cancelled, and whose cancel wrote some of its messages, the next one alone may be written.
  pub next_is : (m : Said) → WriteAllowed (after past) m → IsNext g.active rest m
  next_is m allowed =
      let other : GivesUp g.active (after past) m = written_gives_up (after past) g others m open_is allowed in
      let by_other : IsCancelledBy g other.course (other.before ++ other.rest) =
      subst (λ h. IsCancelledBy h other.course (other.before ++ other.rest)) (one_given g.active (after past) other.given g other.by_build by_build) other.cancels in
      let cancelled : All IsCancel other.before = all_left IsCancel other.before other.rest (λ k d h. (all_of_cancel by_other k d h).cancels) in
      let parts = split told other.course before other.before (course_cancels_none by.course) (course_cancels_none by_other.course) cancels_before cancelled (sym told_is ∙ other.told) in
      let one : cancels ≡ other.before ++ other.rest =
      one_cancel g told cancels (other.before ++ other.rest) by_build.are differ fit by few
      (subst (λ t. IsCancelledBy g t (other.before ++ other.rest)) (sym parts.0) by_other) in
      let same : rest ≡ other.rest = append_cancel_left before rest other.rest (sym whole ∙ (one ∙ ap (λ b. b ++ other.rest) (sym parts.1))) in
      subst (λ r. IsNext g.active r m) (sym same) other.next
