-- What a reload tells: the documents that it drops show nothing any more, and then the targets that changed are told (Build
-- Server Protocol 2.2, buildTarget/didChange). And which documents are cleaned by it, and by a cleaning of targets.
use Rattle.std.specs.Prelude.{◌≡◌, ◌==◌, ◌++◌, ℕ, List, [], ◌∷◌, map, filter, flat_map, codes, true, Some, None}
use Rattle.std.specs.List.{list_any}
use Rattle.bsp_records.specs.Notices.{did_change_params_data}
use Rattle.bsp_records.specs.Table.{Table}
use Rattle.bsp_records.specs.declared.diagnostics.DiagnosticRecord.{DiagnosticRecord}
use Rattle.bsp_records.specs.declared.notices.BuildTargetEvent.{BuildTargetEvent}
use Rattle.bsp_records.specs.declared.notices.BuildTargetEventKind.{BuildTargetEventKind}
use Rattle.bsp_records.specs.declared.notices.BuildTargetEventKind.TheVariants as kinds
use Rattle.ob_text.specs.declared.held.Held.{Held}
use Rattle.reload_rules.specs.Changes.{AreChanges}
use Rattle.reload_rules.specs.Dropped.{dropped}
use Rattle.reload_rules.specs.declared.change.Change.{Change}
use Rattle.reload_rules.specs.declared.change.Change.TheVariants as changes
use Rattle.reload_rules.specs.declared.change.ChangedTarget.{ChangedTarget}
use Rattle.rpc_peer.specs.Said.{Said, notification}
use Rattle.session_law.specs.Builds.{publication_said}
use Rattle.target_graph.specs.Address.{document_address, target_address}
use Rattle.target_graph.specs.Faults.{file_targets}
use Rattle.target_graph.specs.Workspace.{Space, id_of, pairs_of}
use Rattle.target_graph.specs.declared.target.Pair.{Pair}
use Rattle.task_stream.specs.Pieces.{pieces}
use Rattle.task_stream.specs.declared.shown.TableKey.{TableKey}

-- the workspace that a file describes, at this root
abbrev pub space_in : List ℕ → Held → Space
space_in root file = record { root = root; targets = file_targets file }

-- ---- which documents are cleaned

-- the key at which a client shows the document of a pair
abbrev pub key_of : Space → Pair → TableKey
key_of space pair = record { document = document_address space.root pair.path; target = id_of space pair.target }

-- the documents that the workspace of a file drops, in the order of this one
abbrev pub keys_dropped : Space → Held → List TableKey
keys_dropped space file = map (key_of space) (dropped space.targets (file_targets file))

-- the documents of these targets
abbrev pub keys_of_targets : Space → List ℕ → List TableKey
keys_of_targets space targets = map (key_of space) (filter (λ pair. list_any (λ target. target == pair.target) targets) (pairs_of space.targets))

-- ---- what a reload tells

-- where a list is shown at the key, the empty one takes its place
abbrev pub clears_shown : TableKey → List DiagnosticRecord → List Said
clears_shown key [] = []
clears_shown key (one ∷ others) = map publication_said (pieces key None [])

-- the documents at these keys show nothing any more
abbrev pub clears : Table → List TableKey → List Said
clears table keys = flat_map (λ key. clears_shown key (table key.document key.target)) keys

abbrev pub kind_of : Change → BuildTargetEventKind
kind_of changes.Created = kinds.Created
kind_of changes.Changed = kinds.Changed
kind_of changes.Deleted = kinds.Deleted

abbrev pub event_of : List ℕ → ChangedTarget → BuildTargetEvent
event_of root change = record { target = record { uri = target_address root change.name }; kind = kind_of change.change }

-- targets of the workspace at this root changed
unfoldable pub changes_said : List ℕ → List ChangedTarget → Said
changes_said root changes = notification (codes "buildTarget/didChange") (Some (did_change_params_data (record { changes = map (event_of root) changes })))

-- nothing is told where none did
abbrev pub tells_changes : List ℕ → List ChangedTarget → List Said
tells_changes root [] = []
tells_changes root (change ∷ changes) = changes_said root (change ∷ changes) ∷ []

-- A reload from this workspace to the one of a file tells this, where the client showed this as the file was read.
pub record Reloads (space : Space) (file : Held) (table : Table) (messages : List Said) : Type 0 where
  pub changes : List ChangedTarget
  pub changed : AreChanges space.targets (file_targets file) changes
  pub are : messages ≡ clears table (keys_dropped space file) ++ tells_changes space.root changes
