-- Wrong rows of a session that doesn't rest: the next body is taken, or the end of the input is found, while a build at work waits
-- for nothing.
use Rattle.std.proofs.Common.{◌≡◌, ℕ, suc, List, ◌∷◌, Bool, Contains, subst}
use Rattle.session_law.proofs.CourseLaws.{IsBegun, begun_told}
use Rattle.session_law.specs.Course.{Given}
use Rattle.session_law.specs.EachRests.{AwaitsCheck, EachRests, HeadAwaits, IsAwaiting}
use Rattle.session_law.specs.Open.{working_on}
use Rattle.session_law.specs.Order.{Event, ends, take}
use Rattle.session_law.specs.Past.{after}
use Rattle.session_law.specs.Requests.{Active, Asked}
use Rattle.session_law.specs.Tasks.{check_starts}
use Rattle.session_law.specs.declared.InputEnd.{InputEnd}

module _ (past : List Event) (g : Given) (marked : Bool) (rest : List Asked) (open_is : (after past).requests ≡ working_on g marked ∷ rest)
    (none_started : (check target : ℕ) (document : List ℕ) → ¬ (Contains (after past).notices (check_starts g.active.number check target document))) where
  awaits_none : HeadAwaits (after past).requests (after past) → ⊥
  awaits_none rests =
      let awaiting : IsAwaiting g.active (after past) = subst (λ requests. HeadAwaits requests (after past)) open_is rests in
      let awaits : AwaitsCheck awaiting.given (after past).notices = awaiting.awaits in
      let begun : IsBegun awaiting.given (after past).notices awaits.runs.before awaits.document.pair =
      begun_told awaits.course awaits.runs.before awaits.document.pair awaits.runs.there in
      none_started (suc awaits.runs.before) begun.i begun.document.key.document
      (subst (λ (a : Active). Contains (after past).notices (check_starts a.number (suc awaits.runs.before) begun.i begun.document.key.document)) awaiting.by_build.active_is begun.started)

  -- A body is taken while a compile isn't answered of which no check started, as where nothing changed.
  pub not_taken_while_nothing_runs : (body : List ℕ) → EachRests (take body ∷ past) → ⊥
  not_taken_while_nothing_runs body rests = awaits_none rests.0

  -- So is the end of the input.
  pub not_ended_while_nothing_runs : (how : InputEnd) → EachRests (ends how ∷ past) → ⊥
  not_ended_while_nothing_runs how rests = awaits_none rests.0
