-- Rows of a reload and of a cleaning that wait. Where one is the first that is to be cancelled it is refused as cancelled, and
-- nothing else is written before. Before a reload has its file, and of a cleaning at all, nothing is told.
use Rattle.std.proofs.Common.{◌≡◌, ◌++◌, ℕ, ℤ, List, ◌∷◌, true, All, Option, Some, refl, sym, ap, subst, ◌∙◌}
use Rattle.std.specs.Prelude.{codes}
use Rattle.bsp_records.specs.declared.identifiers.BuildTargetIdentifier.{BuildTargetIdentifier}
use Rattle.rpc_peer.specs.Said.{Said, notification, result, failure}
use Rattle.rpc_peer.specs.declared.message.Id.{Id}
use Rattle.serde_json.specs.Data.{Data}
use Rattle.session_law.proofs.RequestLaws.{HasOther, IsUnmarked, marked_behind}
use Rattle.session_law.proofs.WriteLaws.{allowed_refused_cancel}
use Rattle.session_law.proofs.WrittenLaws.{no_response}
use Rattle.session_law.specs.CancelsForCause.{CancelsAs, refused_cancelled}
use Rattle.session_law.specs.IsFramed.{IsFramed}
use Rattle.session_law.specs.Lawful.{Cancels, GoesOnOrCancels, WriteAllowed}
use Rattle.session_law.specs.Methods.{Call, queued, request_cancelled, to_build, to_clean, to_reload}
use Rattle.session_law.specs.Order.{Event}
use Rattle.session_law.specs.Past.{Now, after}
use Rattle.session_law.specs.PublishesInBuildsOnly.{TellsAs, TellsBy}
use Rattle.session_law.specs.Requests.{Asked, first_marked}

-- ---- it is the first that is to be cancelled

-- a reload or a cleaning
abbrev IsOther : Call → Type 0
IsOther (to_build targets origin) = ⊥
IsOther to_reload = Unit {0}
IsOther (to_clean targets) = Unit {0}

owed_other : (asked : Asked) (call : Call) (now : Now) (m : Said) → IsOther call → CancelsAs asked (queued call) now m → m ≡ refused_cancelled asked.id
owed_other asked to_reload now m other owed = owed
owed_other asked (to_clean targets) now m other owed = owed
owed_other asked (to_build targets origin) now m other owed = absurd other

other_owed : (asked : Asked) (call : Call) (now : Now) → IsOther call → CancelsAs asked (queued call) now (refused_cancelled asked.id)
other_owed asked to_reload now other = refl
other_owed asked (to_clean targets) now other = refl
other_owed asked (to_build targets origin) now other = absurd other

module _ (past : List Event) (before rest : List Asked) (asked : Asked) (open_is : (after past).requests ≡ before ++ asked ∷ rest) (call : Call) (other : IsOther call)
    (waits : asked.verdict ≡ queued call) (goes_on : All IsUnmarked before) (mark : asked.cancelled ≡ true) where
  first : first_marked (after past).requests ≡ Some asked
  first = ap first_marked open_is ∙ marked_behind before rest asked goes_on mark

  -- It is refused as cancelled, whatever those before it are.
  pub refused_alone : All (HasOther asked.id) before → IsFramed (refused_cancelled asked.id) → WriteAllowed (after past) (refused_cancelled asked.id)
  unfolding refused_cancelled
  refused_alone others framed =
      allowed_refused_cancel (after past) before rest asked open_is others call request_cancelled (codes "request cancelled") waits first
      (subst (λ v. CancelsAs asked v (after past) (refused_cancelled asked.id)) (sym waits) (other_owed asked call (after past) other)) framed

  -- And nothing else is written before.
  pub nothing_else : (m : Said) → WriteAllowed (after past) m → m ≡ refused_cancelled asked.id
  nothing_else m allowed =
      let by : Cancels asked (after past) m = subst (λ o. GoesOnOrCancels o (after past) m) first allowed.by_marks in
      owed_other asked call (after past) m other (subst (λ v. CancelsAs asked v (after past) m) waits by.for_cause)

  -- A list is cleared for it, or changes are told.
  pub not_told_of : (method : List ℕ) (params : Option Data) → WriteAllowed (after past) (notification method params) → ⊥
  unfolding refused_cancelled
  not_told_of method params allowed = let is = nothing_else (notification method params) allowed in absurd (cc)

  -- It is answered with whatever result, or another request is.
  pub not_answered : (id : Option Id) (value : Data) → WriteAllowed (after past) (result id value) → ⊥
  unfolding refused_cancelled
  not_answered id value allowed = let is = nothing_else (result id value) allowed in absurd (cc)

  -- A refusal of it has the code of a cancelled request.
  pub refused_by_this_code : (code : ℤ) (text : List ℕ) → WriteAllowed (after past) (failure (Some asked.id) code text) → code ≡ request_cancelled
  unfolding refused_cancelled
  refused_by_this_code code text allowed = let is = nothing_else (failure (Some asked.id) code text) allowed in cc

-- ---- it is at the head

module _ (past : List Event) (asked : Asked) (others : List Asked) (open_is : (after past).requests ≡ asked ∷ others) where
  quiet : (call : Call) → asked.verdict ≡ queued call → (method : List ℕ) (params : Option Data) → WriteAllowed (after past) (notification method params) → ⊥
  quiet call is method params allowed =
      no_response (notification method params)
      (sym (subst (λ v. TellsAs asked.id v (after past) (notification method params)) is
      (subst (λ requests. TellsBy requests (after past) (notification method params)) open_is allowed.in_builds)))

  -- Something is told of a cleaning.
  pub not_told_by_a_cleaning : (targets : List BuildTargetIdentifier) → asked.verdict ≡ queued (to_clean targets) → (method : List ℕ) (params : Option Data)
      → WriteAllowed (after past) (notification method params) → ⊥
  not_told_by_a_cleaning targets is = quiet (to_clean targets) is

  -- Something is told of a reload before its file is handed out.
  pub not_told_before_its_file : asked.verdict ≡ queued to_reload → (method : List ℕ) (params : Option Data) → WriteAllowed (after past) (notification method params) → ⊥
  not_told_before_its_file is = quiet to_reload is
