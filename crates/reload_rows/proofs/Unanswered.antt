-- Rows of a question that was taken and isn't answered yet, with a build at work or a reload that has its file: nothing is told,
-- no other request is answered, and the tree isn't asked for another.
use Rattle.std.proofs.Common.{◌≡◌, ℕ, ℤ, List, false, Option, Some, None, ap, sym, ◌∙◌, subst, true≢false}
use Rattle.std.specs.Prelude.{drop, is_some}
use Rattle.ob_text.specs.Held.{Entries}
use Rattle.rpc_peer.specs.OpenIds.{same_id}
use Rattle.rpc_peer.specs.Said.{Said, notification, result, failure}
use Rattle.rpc_peer.specs.declared.message.Id.{Id}
use Rattle.serde_json.specs.Data.{Data}
use Rattle.session_law.specs.AnswersFirst.{AnswersIt, RespondsTo, first_at_once}
use Rattle.session_law.specs.Lawful.{GoesOn, GoesOnOrCancels, HandAllowed, WriteAllowed}
use Rattle.session_law.specs.Order.{Event}
use Rattle.session_law.specs.Past.{after}
use Rattle.session_law.specs.Requests.{Asked, first_marked}

module _ (past : List Event) (question : Asked) where
  module _ (unmarked : first_marked (after past).requests ≡ None) (due : first_at_once (after past).requests ≡ Some question) where
    its_answer : (m : Said) → WriteAllowed (after past) m → RespondsTo question.id m
    its_answer m allowed =
        let goes_on : GoesOn (after past) m = subst (λ o. GoesOnOrCancels o (after past) m) unmarked allowed.by_marks in
        subst (λ o. AnswersIt o m) due goes_on.first.requests

    -- Something is told of a build, of a list or of a reload.
    pub not_told : (method : List ℕ) (params : Option Data) → WriteAllowed (after past) (notification method params) → ⊥
    not_told method params allowed = its_answer (notification method params) allowed

    -- Another request is answered.
    pub not_answered : (id : Id) (value : Data) → same_id id question.id ≡ false → WriteAllowed (after past) (result (Some id) value) → ⊥
    not_answered id value other allowed = true≢false (sym (its_answer (result (Some id) value) allowed) ∙ other)

    -- Another request is refused.
    pub not_refused : (id : Id) (code : ℤ) (text : List ℕ) → same_id id question.id ≡ false → WriteAllowed (after past) (failure (Some id) code text) → ⊥
    not_refused id code text other allowed = true≢false (sym (its_answer (failure (Some id) code text) allowed) ∙ other)

  -- The tree is asked for the first request, and the question came behind it.
  pub not_handed : first_at_once (drop 1 (after past).requests) ≡ Some question → (handed : Option Entries) → HandAllowed (after past) handed → ⊥
  not_handed due handed allowed = true≢false (ap is_some (sym due ∙ allowed.no_other.requests))
