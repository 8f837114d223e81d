-- Wrong rows in which the next body is taken, or the end of the input is found, too early; and in which the tree answers
-- where no request waits for it.
use Rattle.std.proofs.Common.{◌≡◌, ℕ, List, ◌∷◌, true, Contains, Option, sym, subst, ◌∙◌}
use Rattle.std.proofs.lemmas.Bool.{false≢true}
use Rattle.std.proofs.lemmas.List.Elements.{All-contains}
use Rattle.session_law.specs.AnswersAtOnce.{HeadIsUp, IsCaughtUp, IsUp, Waits}
use Rattle.ob_text.specs.Held.{Entries}
use Rattle.session_law.specs.Lawful.{EndAllowed, HandAllowed, TakeAllowed}
use Rattle.session_law.specs.Methods.{Build, Call, built, due_in, queued}
use Rattle.session_law.specs.Order.{Event}
use Rattle.session_law.specs.Past.{after}
use Rattle.session_law.specs.Requests.{Asked, IsWanted, WantedBy, Wants, first_up}
use Rattle.session_law.specs.declared.InputEnd.{InputEnd}

-- ---- what a cancel owes isn't written yet

module _ (past : List Event) (asked : Asked) (there : Contains (after past).requests asked) (mark : asked.cancelled ≡ true) where
  owes_nothing : IsCaughtUp (after past) → ⊥
  owes_nothing caught = false≢true (sym (All-contains Waits (after past).requests asked caught.requests there).goes_on ∙ mark)

  -- A body is taken while a request is open that is to be cancelled.
  pub not_taken_before_its_cancel : (body : List ℕ) → TakeAllowed (after past) body → ⊥
  not_taken_before_its_cancel body allowed = owes_nothing allowed.answered

  -- So is the end of the input.
  pub not_ended_before_its_cancel : (how : InputEnd) → EndAllowed (after past) how → ⊥
  not_ended_before_its_cancel how allowed = owes_nothing allowed.answered

-- ---- the oldest request waits

module _ (past : List Event) (asked : Asked) (rest : List Asked) (open_is : (after past).requests ≡ asked ∷ rest) (call : Call) (waits : asked.verdict ≡ queued call) where
  is_left : IsCaughtUp (after past) → ⊥
  is_left caught = subst (λ v. IsUp v (after past).notices) waits (subst (λ requests. HeadIsUp requests (after past).notices) open_is caught.head)

  -- A body is taken before the oldest request is taken up.
  pub not_taken_while_it_waits : (body : List ℕ) → TakeAllowed (after past) body → ⊥
  not_taken_while_it_waits body allowed = is_left allowed.answered

  -- So is the end of the input.
  pub not_ended_while_it_waits : (how : InputEnd) → EndAllowed (after past) how → ⊥
  not_ended_while_it_waits how allowed = is_left allowed.answered

-- ---- the tree answers in vain

module _ (past : List Event) (asked : Asked) (rest : List Asked) (open_is : (after past).requests ≡ asked ∷ rest) (handed : Option Entries) (allowed : HandAllowed (after past) handed) where
  -- the tree answers for the oldest request alone
  for_oldest : IsWanted (record asked { verdict = due_in (after past).force asked.verdict }) allowed.paths
  for_oldest = subst (λ requests. WantedBy (first_up (after past).force requests) allowed.paths) open_is allowed.wanted

  -- That is a build which was handed its documents: the tree answers once more for it, or for one that waits behind it.
  pub not_handed_behind_a_build : (build : Build) (entries : Entries) → asked.verdict ≡ built build entries → ⊥
  not_handed_behind_a_build build entries is = subst (λ v. Wants (due_in (after past).force v) allowed.paths) is for_oldest.wants

  -- It is to be cancelled.
  pub not_handed_behind_its_cancel : asked.cancelled ≡ true → ⊥
  not_handed_behind_its_cancel mark = false≢true (sym for_oldest.goes_on ∙ mark)
