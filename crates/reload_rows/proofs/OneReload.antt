-- The right row of a reload whose file drops one document that is shown: the empty list, the changes, and its answer. Behind it
-- the workspace of the file is in force, and nothing is shown of what it dropped.
use Rattle.std.proofs.Common.{◌≡◌, ◌++◌, List, [], ◌∷◌, true, Contains, Some, None, refl, sym, ap, subst, ◌∙◌}
use Rattle.std.specs.Prelude.{codes, map}
use Rattle.bsp_records.specs.Diagnostics.{publish_diagnostics_params_data}
use Rattle.bsp_records.specs.Notices.{did_change_params_data}
use Rattle.bsp_records.specs.Table.{Table}
use Rattle.ob_text.specs.declared.held.Held.{Held}
use Rattle.reload_rows.proofs.Clearing.{IsBlank, changes_other, cleared_itself, dropped_blank, other_leaves, still_blank}
use Rattle.reload_rows.proofs.Messages.{tells_whole}
use Rattle.reload_rows.proofs.OwnLaws.{keeps_all}
use Rattle.reload_rows.proofs.Telling.{may_answer, may_tell, owed, told_for_answer}
use Rattle.reload_rows.specs.OneDropped.{DropsOne, answered, list_cleared, targets_changed, tells}
use Rattle.rpc_peer.specs.Said.{Said, result}
use Rattle.serde_json.specs.Data.{Data}
use Rattle.session_law.specs.AnswersFirst.{OwesNoOther}
use Rattle.session_law.specs.Builds.{shown_by}
use Rattle.session_law.specs.IsFramed.{IsFramed}
use Rattle.session_law.specs.Lawful.{EachAllowed, Lawful, WriteAllowed}
use Rattle.session_law.specs.Methods.{reloading}
use Rattle.session_law.specs.Order.{Event, write}
use Rattle.session_law.specs.Past.{after, force_by}
use Rattle.session_law.specs.Reloading.{Reloads, changes_said, event_of, keys_dropped, space_in}
use Rattle.session_law.specs.Requests.{Asked, first_marked}
use Rattle.target_graph.specs.Workspace.{Space}
use Rattle.task_stream.specs.Pieces.{piece}
use Rattle.task_stream.specs.declared.shown.TableKey.{TableKey}

module _ (past : List Event) (asked : Asked) (others : List Asked) (open_is : (after past).requests ≡ asked ∷ others) (space : Space) (file : Held) (is : asked.verdict ≡ reloading space file) where
  -- As any reload is answered, nothing is shown of what it drops.
  pub dropped_shows_nothing : EachAllowed past → (value : Data) → WriteAllowed (after past) (result (Some asked.id) value) → (key : TableKey) → Contains (keys_dropped space file) key
      → IsBlank (after (write (result (Some asked.id) value) ∷ past)).table key
  dropped_shows_nothing each value allowed key there =
      ap (λ (t : Table). t key.document key.target) (keeps_all past each).since
      ∙ dropped_blank (told_for_answer (after past) asked others open_is space file is value allowed) key there

  module _ (unmarked : first_marked (after past).requests ≡ None) (no_other : OwesNoOther (after past)) (fresh : (after past).notices ≡ []) (one : DropsOne space file (after past).table_at_hand) where
    abbrev list : Said
    list = list_cleared space file (after past).table_at_hand one

    abbrev changes : Said
    changes = targets_changed space file (after past).table_at_hand one

    abbrev all : List Said
    all = tells space file (after past).table_at_hand one

    abbrev behind_list : List Event
    behind_list = write list ∷ past

    abbrev behind_changes : List Event
    behind_changes = write changes ∷ behind_list

    abbrev done : List Event
    done = write (answered asked.id) ∷ behind_changes

    list_first : IsFramed list → WriteAllowed (after past) list
    list_first framed =
        may_tell (after past) asked others open_is space file is unmarked no_other (codes "build/publishDiagnostics") (Some (publish_diagnostics_params_data (piece one.key None true [])))
        (record {
          accepted = one.accepted;
          messages = all;
          reloads = tells_whole space file (after past).table_at_hand one;
          rest = changes ∷ [];
          next = ap (λ told. told ++ all) (sym fresh);
        })
        refl framed

    changes_second : IsFramed changes → WriteAllowed (after behind_list) changes
    unfolding changes_said
    changes_second framed =
        may_tell (after behind_list) asked others open_is space file is unmarked (record { requests = no_other.requests; nulls = no_other.nulls }) (codes "buildTarget/didChange")
        (Some (did_change_params_data (record { changes = map (event_of space.root) (one.change ∷ one.changes) })))
        (record {
          accepted = one.accepted;
          messages = all;
          reloads = tells_whole space file (after past).table_at_hand one;
          rest = [];
          next = ap (λ told. (told ++ list ∷ []) ++ changes ∷ []) (sym fresh);
        })
        refl framed

    answer_third : IsFramed (answered asked.id) → WriteAllowed (after behind_changes) (answered asked.id)
    unfolding changes_said
    answer_third framed =
        may_answer (after behind_changes) asked others open_is space file is unmarked (record { requests = no_other.requests; nulls = no_other.nulls }) one.accepted
        (subst (Reloads space file (after past).table_at_hand) (ap (λ told. (told ++ list ∷ []) ++ changes ∷ []) (sym fresh)) (tells_whole space file (after past).table_at_hand one))
        framed

    -- Each of these writes is allowed, in this order.
    pub is_lawful : EachAllowed past → IsFramed list → IsFramed changes → IsFramed (answered asked.id) → Lawful done
    is_lawful each framed_list framed_changes framed_answer =
        record { each = (answer_third framed_answer, (changes_second framed_changes, (list_first framed_list, each))) }

    pub comes_in_force : (after done).force ≡ Some (space_in space.root file)
    unfolding changes_said
    comes_in_force = ap (λ v. force_by v (after past).force) (owed (after behind_changes) asked others open_is space file is)

    pub shows_nothing : IsBlank (after done).table one.key
    shows_nothing =
        still_blank changes (shown_by list (after past).table) one.key (other_leaves changes (changes_other space.root (one.change ∷ one.changes)))
        (cleared_itself one.key (after past).table)
