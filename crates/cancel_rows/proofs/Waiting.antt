-- Rows of a compile that waits. Where it is the first that is to be cancelled, it is answered alone, with status code 3.
-- Where no request is to be cancelled, it isn't answered before its turn.
use Rattle.std.proofs.Common.{◌≡◌, ◌++◌, ℕ, ℤ, List, ◌∷◌, Bool, true, false, All, Option, Some, None, refl, sym, ap, subst, ◌∙◌}
use Rattle.std.specs.Prelude.{if◌then◌else◌}
use Rattle.std.proofs.lemmas.Bool.{false≢true}
use Rattle.bsp_records.specs.Results.{compile_result_data}
use Rattle.bsp_records.specs.declared.identifiers.BuildTargetIdentifier.{BuildTargetIdentifier}
use Rattle.bsp_records.specs.declared.results.StatusCode.TheVariants as statuses
use Rattle.rpc_peer.specs.OpenIds.{same_id}
use Rattle.rpc_peer.specs.Said.{Said, notification, result, failure}
use Rattle.rpc_peer.specs.declared.message.Id.{Id}
use Rattle.serde_json.specs.Data.{Data}
use Rattle.target_graph.specs.Workspace.{Space}
use Rattle.cancel_rows.proofs.Next.{by_mark}
use Rattle.cancel_rows.proofs.Status.{answers_differ}
use Rattle.session_law.proofs.RequestLaws.{HasOther, IsUnmarked, marked_behind, owed_behind, same_id_refl}
use Rattle.session_law.proofs.WriteLaws.{allowed_cancel, owed_first}
use Rattle.session_law.specs.Builds.{build_said, cancelled_said}
use Rattle.session_law.specs.CancelsForCause.{CancelsAs}
use Rattle.session_law.specs.IsFramed.{IsFramed}
use Rattle.session_law.specs.Lawful.{GoesOnOrCancels, WriteAllowed}
use Rattle.session_law.specs.Methods.{Found, all_found, unknown_at, due_in, found_build, found_from, queued, to_build}
use Rattle.session_law.specs.Order.{Event}
use Rattle.session_law.specs.Past.{after, standing}
use Rattle.session_law.specs.RefusesExactly.{IsGranted, IsRefused}
use Rattle.session_law.specs.Requests.{Asked, first_marked, first_up, owed_to}

-- ---- it is the first that is to be cancelled

module _ (past : List Event) (before rest : List Asked) (asked : Asked) (open_is : (after past).requests ≡ before ++ asked ∷ rest)
    (targets : List BuildTargetIdentifier) (origin : Option (List ℕ)) (waits : asked.verdict ≡ queued (to_build targets origin))
    (goes_on : All IsUnmarked before) (mark : asked.cancelled ≡ true) where
  first : first_marked (after past).requests ≡ Some asked
  first = ap first_marked open_is ∙ marked_behind before rest asked goes_on mark

  -- It is answered as cancelled, whatever those before it are.
  pub answered_alone : All (HasOther asked.id) before → IsFramed (cancelled_said asked.id origin) → WriteAllowed (after past) (cancelled_said asked.id origin)
  unfolding cancelled_said
  answered_alone others framed =
      allowed_cancel (after past) before rest asked open_is others (to_build targets origin) (cancelled_said asked.id origin) waits first
      (subst (λ v. CancelsAs asked v (after past) (cancelled_said asked.id origin)) (sym waits) refl)
      (compile_result_data (record { origin_id = origin; status_code = statuses.Cancelled })) refl framed

  -- And nothing else is written before.
  pub nothing_else : (m : Said) → WriteAllowed (after past) m → m ≡ cancelled_said asked.id origin
  nothing_else m allowed = subst (λ v. CancelsAs asked v (after past) m) waits (by_mark (after past) asked m first allowed).for_cause

  -- Another message is written for it: a task of it starts or finishes, or a list is published.
  pub not_told_of : (method : List ℕ) (params : Option Data) → WriteAllowed (after past) (notification method params) → ⊥
  unfolding cancelled_said
  not_told_of method params allowed = let is = nothing_else (notification method params) allowed in absurd (cc)

  -- It is refused.
  pub not_refused : (id : Option Id) (code : ℤ) (text : List ℕ) → WriteAllowed (after past) (failure id code text) → ⊥
  unfolding cancelled_said
  not_refused id code text allowed = let is = nothing_else (failure id code text) allowed in absurd (cc)

  -- It is answered as a build that wasn't cancelled.
  pub not_answered_as_built : (failed : Bool) → WriteAllowed (after past) (build_said asked.id origin failed) → ⊥
  not_answered_as_built failed allowed = answers_differ asked.id asked.id origin origin failed (nothing_else (build_said asked.id origin failed) allowed)

  -- Another is answered before it, whether that is to be cancelled too or not.
  pub not_another_first : (id : Id) (value : Data) → same_id id asked.id ≡ false → WriteAllowed (after past) (result (Some id) value) → ⊥
  unfolding cancelled_said
  not_another_first id value other allowed =
      let is = nothing_else (result (Some id) value) allowed in
      let same : id ≡ asked.id = cc in
      false≢true (sym other ∙ (ap (λ i. same_id i asked.id) same ∙ same_id_refl asked.id))

-- ---- no request is to be cancelled

-- a call that is taken up waits for its documents or is refused, so it has no result yet
nothing_found : (space : Space) (origin : Option (List ℕ)) (found : Found) (value : Data) → IsGranted (Some (found_build space origin found)) value → ⊥
nothing_found space origin (all_found targets) value granted = granted
nothing_found space origin (unknown_at index) value granted = granted

nothing_due : (force : Option Space) (targets : List BuildTargetIdentifier) (origin : Option (List ℕ)) (value : Data) → IsGranted (Some (due_in force (queued (to_build targets origin)))) value → ⊥
nothing_due None targets origin value granted = granted
nothing_due (Some space) targets origin value granted = nothing_found space origin (found_from space 0 targets) value granted

module _ (past : List Event) (none : first_marked (after past).requests ≡ None) (asked : Asked) (targets : List BuildTargetIdentifier) (origin : Option (List ℕ))
    (waits : asked.verdict ≡ queued (to_build targets origin)) where
  -- others are before it
  module _ (first : Asked) (before rest : List Asked) (open_is : (after past).requests ≡ first ∷ (before ++ asked ∷ rest))
      (others : All (HasOther asked.id) before) (other : same_id asked.id first.id ≡ false) where
    owed_waiting : owed_to asked.id (standing (after past)) ≡ Some (queued (to_build targets origin))
    owed_waiting =
        ap (λ requests. owed_to asked.id (first_up (after past).force requests)) open_is
        ∙ (ap (λ b. if b then Some (due_in (after past).force first.verdict) else owed_to asked.id (before ++ asked ∷ rest)) other
        ∙ (owed_behind asked.id before rest asked others (same_id_refl asked.id) ∙ ap Some waits))

    -- It is answered out of turn, with whatever value, so also as cancelled.
    pub not_answered_out_of_turn : (value : Data) → WriteAllowed (after past) (result (Some asked.id) value) → ⊥
    not_answered_out_of_turn value allowed =
        subst (λ v. IsGranted v value) owed_waiting (subst (λ o. GoesOnOrCancels o (after past) (result (Some asked.id) value)) none allowed.by_marks).exact

    -- It is refused out of turn.
    pub not_refused_out_of_turn : (code : ℤ) (text : List ℕ) → WriteAllowed (after past) (failure (Some asked.id) code text) → ⊥
    not_refused_out_of_turn code text allowed =
        subst (λ v. IsRefused v code text) owed_waiting (subst (λ o. GoesOnOrCancels o (after past) (failure (Some asked.id) code text)) none allowed.by_marks).exact

  -- It is the oldest, and is answered before its documents were handed out.
  pub not_answered_before_its_documents : (rest : List Asked) → (after past).requests ≡ asked ∷ rest → (value : Data) → WriteAllowed (after past) (result (Some asked.id) value) → ⊥
  not_answered_before_its_documents rest open_is value allowed =
      let owed : owed_to asked.id (standing (after past)) ≡ Some (due_in (after past).force (queued (to_build targets origin))) =
      ap (λ requests. owed_to asked.id (first_up (after past).force requests)) open_is
      ∙ (owed_first (after past).force rest asked ∙ ap (λ v. Some (due_in (after past).force v)) waits) in
      nothing_due (after past).force targets origin value
      (subst (λ v. IsGranted v value) owed (subst (λ o. GoesOnOrCancels o (after past) (result (Some asked.id) value)) none allowed.by_marks).exact)
