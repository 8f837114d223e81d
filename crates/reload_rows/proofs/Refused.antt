-- Rows of a reload whose file is refused: it is answered so, with the code of a refused workspace and the first of its faults, and
-- nothing is told of it.
use Rattle.std.proofs.Common.{◌≡◌, ℕ, List, ◌∷◌, Option, Some, None, subst}
use Rattle.ob_text.specs.declared.held.Held.{Held}
use Rattle.reload_rows.proofs.Messages.{cancels_without_null}
use Rattle.reload_rows.proofs.Telling.{by_reload, may_refuse, owed}
use Rattle.reload_rows.specs.OneDropped.{answered}
use Rattle.rpc_peer.specs.Said.{notification, failure}
use Rattle.serde_json.specs.Data.{Data, null}
use Rattle.session_law.specs.AnswersFirst.{OwesNoOther}
use Rattle.session_law.specs.IsFramed.{IsFramed}
use Rattle.session_law.specs.Lawful.{GoesOnOrCancels, WriteAllowed}
use Rattle.session_law.specs.Methods.{refused_message, reloading, workspace_refused}
use Rattle.session_law.specs.Order.{Event}
use Rattle.session_law.specs.Past.{after}
use Rattle.session_law.specs.PublishesInBuildsOnly.{ReloadsNext}
use Rattle.session_law.specs.RefusesExactly.{IsGranted, IsWorkspace}
use Rattle.session_law.specs.Requests.{Asked, first_marked}
use Rattle.target_graph.specs.Faults.{Refused}
use Rattle.target_graph.specs.Workspace.{Space}
use Rattle.target_graph.specs.declared.fault.FaultKind.{FaultKind}

module _ (past : List Event) (asked : Asked) (others : List Asked) (open_is : (after past).requests ≡ asked ∷ others) (space : Space) (file : Held) (is : asked.verdict ≡ reloading space file)
    (kind : FaultKind) (name : List ℕ) (refused : Refused file kind name) where
  no_workspace : IsWorkspace space.root file → ⊥
  no_workspace accepted = accepted.accepted.faultless kind name refused.fault

  -- It is refused for this fault.
  pub refused_so : first_marked (after past).requests ≡ None → OwesNoOther (after past) → IsFramed (failure (Some asked.id) workspace_refused (refused_message kind name))
      → WriteAllowed (after past) (failure (Some asked.id) workspace_refused (refused_message kind name))
  refused_so unmarked no_other framed = may_refuse (after past) asked others open_is space file is unmarked no_other kind name refused framed

  -- Something is told of it: a list is cleared, or changes are told.
  pub not_told_of : (method : List ℕ) (params : Option Data) → WriteAllowed (after past) (notification method params) → ⊥
  not_told_of method params allowed =
      let next : ReloadsNext space file (after past) (notification method params) = by_reload (after past) asked others open_is space file is (notification method params) allowed in
      no_workspace next.accepted

  -- It is answered as if its file were accepted.
  pub not_answered : WriteAllowed (after past) (answered asked.id) → ⊥
  not_answered allowed = by (first_marked (after past).requests) allowed.by_marks
    where
      by : (marked : Option Asked) → GoesOnOrCancels marked (after past) (answered asked.id) → ⊥
      by (Some other) cancels = cancels_without_null other other.verdict (after past) asked.id cancels.for_cause
      by None goes_on = no_workspace (subst (λ o. IsGranted o null) (owed (after past) asked others open_is space file is) goes_on.exact).0
