-- What a build tells first in a step is no piece of a list that was begun before: the build starts, or a check finishes.
use Rattle.std.proofs.Common.{◌≡◌, ◌++◌, List, ◌∷◌, false, refl, ap, sym, subst}
use Rattle.bsp_records.specs.declared.tasks.TaskFinishParams.{TaskFinishParams}
use Rattle.bsp_records.specs.declared.tasks.TaskStartParams.{TaskStartParams}
use Rattle.rpc_peer.specs.Said.{Said}
use Rattle.session_law.proofs.WrittenLaws.{StartsAnew}
use Rattle.session_law.specs.Builds.{is_later_piece}
use Rattle.session_law.specs.Course.{Course, Given, HasEnded, Stage, all_finish, begins, checked, known, starts, targets_start}
use Rattle.session_law.specs.Tasks.{build_starts, finish_said, start_said}
use Rattle.session_law.specs.Verdicts.{FinishesOneFirst}

start_publishes_none : (p : TaskStartParams) → is_later_piece (start_said p) ≡ false
unfolding start_said
start_publishes_none p = refl

finish_publishes_none : (p : TaskFinishParams) → is_later_piece (finish_said p) ≡ false
unfolding finish_said
finish_publishes_none p = refl

-- the build starts first
record StartsFirst (g : Given) (messages : List Said) : Type 0 where
  pub others : List Said
  pub are : messages ≡ build_starts g.active.number ∷ others

starts_more : (g : Given) (before own : List Said) → StartsFirst g before → StartsFirst g (before ++ own)
starts_more g before own first = record { others = first.others ++ own; are = ap (λ ms. ms ++ own) first.are }

starts_first : {g : Given} {s : Stage} {messages : List Said} → Course g s messages → StartsFirst g messages
starts_first {g} starts = record { others = targets_start g 1 g.closure; are = refl }
starts_first {g} (known {messages = before} finding own course next is settles) = starts_more g before own (starts_first course)
starts_first {g} (begins {messages = before} document i course next due task) = starts_more g before _ (starts_first course)
starts_first {g} (checked {messages = before} finding j i own course nobody runs task settles) = starts_more g before _ (starts_first course)

anew_first : (g : Given) (messages : List Said) → StartsFirst g messages → StartsAnew messages
anew_first g messages first = subst StartsAnew (sym first.are) (start_publishes_none _)

pub course_anew : {g : Given} {s : Stage} {messages : List Said} → Course g s messages → StartsAnew messages
course_anew {g} {s} {messages} course = anew_first g messages (starts_first course)

pub ended_anew : {g : Given} {messages : List Said} → HasEnded g messages → StartsAnew messages
ended_anew {g} {messages} ended =
    anew_first g messages (subst (StartsFirst g) (sym ended.are) (starts_more g ended.settling (all_finish g ended.stage ended.findings) (starts_first ended.course)))

pub outcome_anew : (messages : List Said) → FinishesOneFirst messages → StartsAnew messages
outcome_anew messages first = subst StartsAnew (sym first.are) (finish_publishes_none _)
