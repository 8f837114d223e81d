-- The reload of these rows: its file is accepted and drops one document, of which a client shows something, and targets changed.
-- And what it writes, in this order: the empty list takes that document's place, the changes are told, and it is answered.
use Rattle.std.specs.Prelude.{◌≡◌, List, [], ◌∷◌, true, Some, None}
use Rattle.bsp_records.specs.Table.{Table}
use Rattle.ob_text.specs.declared.held.Held.{Held}
use Rattle.reload_rows.specs.Own.{IsShown}
use Rattle.reload_rules.specs.Changes.{AreChanges}
use Rattle.reload_rules.specs.declared.change.ChangedTarget.{ChangedTarget}
use Rattle.rpc_peer.specs.Said.{Said, result}
use Rattle.rpc_peer.specs.declared.message.Id.{Id}
use Rattle.serde_json.specs.Data.{null}
use Rattle.session_law.specs.Builds.{publication_said}
use Rattle.session_law.specs.RefusesExactly.{IsWorkspace}
use Rattle.session_law.specs.Reloading.{changes_said, keys_dropped}
use Rattle.target_graph.specs.Faults.{file_targets}
use Rattle.target_graph.specs.Workspace.{Space}
use Rattle.task_stream.specs.Pieces.{piece}
use Rattle.task_stream.specs.declared.shown.TableKey.{TableKey}

-- a client showed this as the file was read
pub record DropsOne (space : Space) (file : Held) (table : Table) : Type 0 where
  pub accepted : IsWorkspace space.root file
  pub key : TableKey
  pub drops : keys_dropped space file ≡ key ∷ []
  pub shown : IsShown table key
  pub change : ChangedTarget
  pub changes : List ChangedTarget
  pub changed : AreChanges space.targets (file_targets file) (change ∷ changes)

-- nothing is shown at the key any more
abbrev pub empty_list : TableKey → Said
empty_list key = publication_said (piece key None true [])

abbrev pub list_cleared : (space : Space) (file : Held) (table : Table) → DropsOne space file table → Said
list_cleared space file table one = empty_list one.key

abbrev pub targets_changed : (space : Space) (file : Held) (table : Table) → DropsOne space file table → Said
targets_changed space file table one = changes_said space.root (one.change ∷ one.changes)

-- all that it tells, in this order
abbrev pub tells : (space : Space) (file : Held) (table : Table) → DropsOne space file table → List Said
tells space file table one = list_cleared space file table one ∷ targets_changed space file table one ∷ []

abbrev pub answered : Id → Said
answered id = result (Some id) null
