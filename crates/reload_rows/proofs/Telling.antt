-- What a reload that was handed its file may write next: what it tells is decided, message after message, and its answer stands
-- behind the whole of that.
use Rattle.std.proofs.Common.{◌≡◌, ◌++◌, ℕ, List, ◌∷◌, true, false, Option, Some, None, refl, sym, ap, subst, ◌∙◌}
use Rattle.std.specs.Prelude.{if◌then◌else◌, is_some}
use Rattle.bsp_records.specs.Table.{Table}
use Rattle.ob_text.specs.declared.held.Held.{Held}
use Rattle.reload_rows.specs.OneDropped.{answered}
use Rattle.reload_rules.proofs.OneList.{changes_once}
use Rattle.rpc_peer.specs.OpenIds.{same_id}
use Rattle.rpc_peer.specs.Said.{Said, notification, result, failure}
use Rattle.serde_json.specs.Data.{Data, null}
use Rattle.session_law.proofs.RequestLaws.{same_id_refl}
use Rattle.session_law.proofs.WriteLaws.{IsFree, first_free, free_by, if_so, owed_first}
use Rattle.session_law.specs.AnswersFirst.{OwesNoOther}
use Rattle.session_law.specs.If.{If}
use Rattle.session_law.specs.IsFramed.{IsFramed}
use Rattle.session_law.specs.Lawful.{GoesOnOrCancels, WriteAllowed}
use Rattle.session_law.specs.Methods.{due_in, reloading, workspace_refused, refused_message}
use Rattle.session_law.specs.Past.{Now, standing}
use Rattle.session_law.specs.PublishesInBuildsOnly.{ReloadsBy, ReloadsNext, TellsAs, TellsBy}
use Rattle.session_law.specs.RefusesExactly.{IsGranted, IsRefused, IsWorkspace}
use Rattle.session_law.specs.Reloading.{Reloads, clears, keys_dropped, tells_changes}
use Rattle.session_law.specs.Requests.{Asked, active_as, active_of, first_marked, first_up, is_of_queue, is_open, owed_to}
use Rattle.session_law.specs.ShowsCleanBuild.{ShowsFor}
use Rattle.session_law.specs.TakesUpInOrder.{AnswersFor}
use Rattle.session_law.specs.TasksInOrder.{TellsFor, is_of_task}
use Rattle.target_graph.specs.Faults.{Refused, file_targets}
use Rattle.target_graph.specs.Workspace.{Space}
use Rattle.target_graph.specs.declared.fault.FaultKind.{FaultKind}

-- there is one list of messages that a reload tells
pub one_reload : (space : Space) (file : Held) (table : Table) (a b : List Said) → Reloads space file table a → Reloads space file table b → a ≡ b
one_reload space file table a b first second =
    first.are
    ∙ (ap (λ changes. clears table (keys_dropped space file) ++ tells_changes space.root changes)
    (changes_once space.targets (file_targets file) first.changes second.changes first.changed second.changed)
    ∙ sym second.are)

-- the first of these messages were told, this is the next one, and the rest follows
pub record IsNextOf (messages told : List Said) (m : Said) : Type 0 where
  pub rest : List Said
  pub whole : messages ≡ told ++ m ∷ rest

module _ (now : Now) (asked : Asked) (others : List Asked) (open_is : now.requests ≡ asked ∷ others) (space : Space) (file : Held) (is : asked.verdict ≡ reloading space file) where
  pub by_reload : (m : Said) → WriteAllowed now m → ReloadsBy asked.id space file now m
  by_reload m allowed = subst (λ v. TellsAs asked.id v now m) is (subst (λ requests. TellsBy requests now m) open_is allowed.in_builds)

  -- ---- what may be written

  pub next_told : (messages : List Said) → Reloads space file now.table_at_hand messages → (method : List ℕ) (params : Option Data) → WriteAllowed now (notification method params)
      → IsNextOf messages now.notices (notification method params)
  next_told messages reloads method params allowed =
      let next : ReloadsNext space file now (notification method params) = by_reload (notification method params) allowed in
      record { rest = next.rest; whole = one_reload space file now.table_at_hand messages next.messages reloads next.reloads ∙ next.next }

  pub told_for_answer : (value : Data) → WriteAllowed now (result (Some asked.id) value) → Reloads space file now.table_at_hand now.notices
  told_for_answer value allowed =
      subst (λ b. If b (Reloads space file now.table_at_hand now.notices)) (same_id_refl asked.id) (by_reload (result (Some asked.id) value) allowed)

  pub all_told : (messages : List Said) → Reloads space file now.table_at_hand messages → (value : Data) → WriteAllowed now (result (Some asked.id) value) → messages ≡ now.notices
  all_told messages reloads value allowed = one_reload space file now.table_at_hand messages now.notices reloads (told_for_answer value allowed)

  pub owed : owed_to asked.id (standing now) ≡ Some (reloading space file)
  owed = ap (λ requests. owed_to asked.id (first_up now.force requests)) open_is ∙ (owed_first now.force others asked ∙ ap (λ v. Some (due_in now.force v)) is)

  -- where no request is to be cancelled
  module _ (unmarked : first_marked now.requests ≡ None) where
    pub granted : (value : Data) → WriteAllowed now (result (Some asked.id) value) → IsWorkspace space.root file × (value ≡ null)
    granted value allowed = subst (λ o. IsGranted o value) owed (subst (λ o. GoesOnOrCancels o now (result (Some asked.id) value)) unmarked allowed.by_marks).exact

    none_active : active_of now.requests ≡ None
    none_active = ap active_of open_is ∙ ap (active_as asked) is

    -- ---- what is lawful

    there : is_open asked.id now.requests ≡ true
    there =
        ap (λ requests. is_open asked.id requests) open_is
        ∙ ap (λ b. is_some (if b then Some asked.verdict else owed_to asked.id others)) (same_id_refl asked.id)

    tells_so : (m : Said) → ReloadsBy asked.id space file now m → TellsBy now.requests now m
    tells_so m by = subst (λ requests. TellsBy requests now m) (sym open_is) (subst (λ v. TellsAs asked.id v now m) (sym is) by)

    -- and no other request is owed something at once
    module _ (no_other : OwesNoOther now) where
      all_free : IsFree now
      all_free = free_by now asked others open_is (ap is_of_queue is) no_other

      pub may_tell : (method : List ℕ) (params : Option Data) → ReloadsNext space file now (notification method params) → is_of_task (notification method params) ≡ false
          → IsFramed (notification method params) → WriteAllowed now (notification method params)
      may_tell method params next untasked framed =
          let m = notification method params in
          record {
            framed = framed;
            once = tt;
            in_builds = tells_so m next;
            by_marks = subst (λ o. GoesOnOrCancels o now m) (sym unmarked) (record {
              first = first_free now m all_free;
              exact = tt;
              in_order = tt;
              shows = subst (λ a. ShowsFor m a now) (sym none_active) tt;
              tasks = subst (λ a. TellsFor m a now) (sym none_active) untasked;
            });
          }

      pub may_answer : IsWorkspace space.root file → Reloads space file now.table_at_hand now.notices → IsFramed (answered asked.id) → WriteAllowed now (answered asked.id)
      may_answer accepted told framed =
          let m = answered asked.id in
          record {
            framed = framed;
            once = there;
            in_builds = tells_so m (if_so (same_id asked.id asked.id) (Reloads space file now.table_at_hand now.notices) told);
            by_marks = subst (λ o. GoesOnOrCancels o now m) (sym unmarked) (record {
              first = first_free now m all_free;
              exact = subst (λ o. IsGranted o null) (sym owed) (accepted, refl);
              in_order = subst (AnswersFor m) (sym none_active) tt;
              shows = subst (λ a. ShowsFor m a now) (sym none_active) tt;
              tasks = subst (λ a. TellsFor m a now) (sym none_active) tt;
            });
          }

      pub may_refuse : (kind : FaultKind) (name : List ℕ) → Refused file kind name → IsFramed (failure (Some asked.id) workspace_refused (refused_message kind name))
          → WriteAllowed now (failure (Some asked.id) workspace_refused (refused_message kind name))
      may_refuse kind name refused framed =
          let m = failure (Some asked.id) workspace_refused (refused_message kind name) in
          record {
            framed = framed;
            once = there;
            in_builds = tells_so m tt;
            by_marks = subst (λ o. GoesOnOrCancels o now m) (sym unmarked) (record {
              first = first_free now m all_free;
              exact = subst (λ o. IsRefused o workspace_refused (refused_message kind name)) (sym owed)
                  (record { kind = kind; name = name; refused = refused; code_is = refl; text_is = refl });
              in_order = tt;
              shows = tt;
              tasks = tt;
            });
          }
