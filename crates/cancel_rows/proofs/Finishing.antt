-- Wrong rows of a build that is to be cancelled while one of its checks is out. It owes four messages: its check finishes,
-- then its target, then the build, each as cancelled, and behind them stands its answer with status code 3.
use Rattle.std.proofs.Common.{◌≡◌, ◌++◌, List, [], ◌∷◌, Bool, true, refl, sym, ◌∙◌, append-nil}
use Rattle.rpc_peer.specs.Said.{Said}
use Rattle.cancel_rows.proofs.Next.{IsNext, next_is}
use Rattle.cancel_rows.proofs.OneCheck.{answer_is_no_build, answer_is_no_check, answer_is_no_target, by, check_is_no_build, check_is_no_target, differ, few, fit, target_is_no_build}
use Rattle.cancel_rows.proofs.Status.{answers_differ}
use Rattle.cancel_rows.specs.OneCheck.{HasOneOut, answered_cancelled, build_gives_up, check_gives_up, gives_up, target_gives_up}
use Rattle.session_law.specs.Builds.{build_said}
use Rattle.session_law.specs.Course.{Given}
use Rattle.session_law.specs.Lawful.{WriteAllowed}
use Rattle.session_law.specs.Open.{working_on}
use Rattle.session_law.specs.Order.{Event}
use Rattle.session_law.specs.Past.{after}
use Rattle.session_law.specs.Requests.{Asked}
use Rattle.session_law.specs.TasksInOrder.{IsGivenBy}

module _ (past : List Event) (g : Given) (others : List Asked) (open_is : (after past).requests ≡ working_on g true ∷ others) (by_build : IsGivenBy g.active (after past) g)
    (told : List Said) (one : HasOneOut g told) where
  -- what it told is followed by the first of the messages that it owes, and the rest of them are still owed
  next : (before rest : List Said) → (after past).notices ≡ told ++ before → gives_up g ≡ before ++ rest
      → (m : Said) → WriteAllowed (after past) m → IsNext g.active rest m
  next before rest told_is whole =
      next_is past g others open_is by_build (differ g told by_build.are one) (fit g told by_build.are one)
      told (gives_up g) (by g told by_build.are one) (few g told by_build.are one) before rest told_is whole

  -- ---- it told nothing since its cancel

  module _ (told_is : (after past).notices ≡ told) where
    next_is_check : (m : Said) → WriteAllowed (after past) m → m ≡ check_gives_up g
    next_is_check = next [] (gives_up g) (told_is ∙ sym (append-nil told)) refl

    -- It is answered before its check, its target and itself finish.
    pub not_answered_before_its_finishes : WriteAllowed (after past) (answered_cancelled g) → ⊥
    not_answered_before_its_finishes allowed = answer_is_no_check g (next_is_check (answered_cancelled g) allowed)

    -- Its target finishes before its check.
    pub not_its_target_before_its_check : WriteAllowed (after past) (target_gives_up g) → ⊥
    not_its_target_before_its_check allowed = check_is_no_target g (sym (next_is_check (target_gives_up g) allowed))

    -- The build finishes before its check and its target.
    pub not_the_build_before_its_check : WriteAllowed (after past) (build_gives_up g) → ⊥
    not_the_build_before_its_check allowed = check_is_no_build g (sym (next_is_check (build_gives_up g) allowed))

  -- ---- its check finished

  module _ (told_is : (after past).notices ≡ told ++ check_gives_up g ∷ []) where
    next_is_target : (m : Said) → WriteAllowed (after past) m → m ≡ target_gives_up g
    next_is_target = next (check_gives_up g ∷ []) (target_gives_up g ∷ build_gives_up g ∷ []) told_is refl

    -- Its check finishes once more.
    pub not_its_check_twice : WriteAllowed (after past) (check_gives_up g) → ⊥
    not_its_check_twice allowed = check_is_no_target g (next_is_target (check_gives_up g) allowed)

    -- The finish of its target is left out: the build finishes behind its check.
    pub not_its_target_left_out : WriteAllowed (after past) (build_gives_up g) → ⊥
    not_its_target_left_out allowed = target_is_no_build g (sym (next_is_target (build_gives_up g) allowed))

    -- The finishes of its target and of itself are left out.
    pub not_answered_behind_its_check : WriteAllowed (after past) (answered_cancelled g) → ⊥
    not_answered_behind_its_check allowed = answer_is_no_target g (next_is_target (answered_cancelled g) allowed)

  -- ---- its check and its target finished

  module _ (told_is : (after past).notices ≡ told ++ check_gives_up g ∷ target_gives_up g ∷ []) where
    -- The finish of the build is left out.
    pub not_the_build_left_out : WriteAllowed (after past) (answered_cancelled g) → ⊥
    not_the_build_left_out allowed =
        answer_is_no_build g (next (check_gives_up g ∷ target_gives_up g ∷ []) (build_gives_up g ∷ []) told_is refl (answered_cancelled g) allowed)

  -- ---- all finished

  module _ (told_is : (after past).notices ≡ told ++ gives_up g) where
    next_is_answer : (m : Said) → WriteAllowed (after past) m → m ≡ answered_cancelled g
    next_is_answer = next (gives_up g) [] told_is refl

    -- The build finishes once more.
    pub not_the_build_twice : WriteAllowed (after past) (build_gives_up g) → ⊥
    not_the_build_twice allowed = answer_is_no_build g (sym (next_is_answer (build_gives_up g) allowed))

    -- It is answered as one that isn't cancelled, with status code 1 or 2.
    pub not_answered_as_built : (failed : Bool) → WriteAllowed (after past) (build_said g.active.id g.active.build.origin failed) → ⊥
    not_answered_as_built failed allowed =
        answers_differ g.active.id g.active.id g.active.build.origin g.active.build.origin failed (next_is_answer (build_said g.active.id g.active.build.origin failed) allowed)
