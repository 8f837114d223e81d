-- What a reload tells, and what a client shows then.
use Rattle.std.specs.Prelude.{◌≡◌, ◌++◌, ℕ, List, map}
use Rattle.std.specs.List.{All}
use Rattle.bsp_records.specs.Table.{Table}
use Rattle.reload_rules.specs.Changes.{AreChanges}
use Rattle.reload_rules.specs.Dropped.{dropped}
use Rattle.reload_rules.specs.declared.change.ChangedTarget.{ChangedTarget}
use Rattle.rpc_peer.specs.Said.{Said}
use Rattle.session_law.specs.Builds.{table_behind}
use Rattle.session_law.specs.IsFramed.{IsFramed}
use Rattle.session_law.specs.Reloading.{clears, key_of, tells_changes}
use Rattle.target_graph.specs.Workspace.{Space}

-- behind these messages the targets that changed are told
pub record HasToldChanges (old new : Space) (before after : List Said) : Type 0 where
  pub changes : List ChangedTarget
  pub changed : AreChanges old.targets new.targets changes
  pub behind : after ≡ before ++ tells_changes old.root changes
  pub framed : All IsFramed (tells_changes old.root changes)

-- behind these messages a reload from the one workspace to the other is told
pub record HasTold (old new : Space) (shown shows : Table) (before after : List Said) : Type 0 where
  pub own : List Said
  pub behind : after ≡ before ++ own
  pub changes : List ChangedTarget
  pub changed : AreChanges old.targets new.targets changes
  pub are : own ≡ clears shown (map (key_of old) (dropped old.targets new.targets)) ++ tells_changes old.root changes
  pub framed : All IsFramed own
  -- what is kept of the client is what it shows
  pub kept : (document target : List ℕ) → shows document target ≡ table_behind own shown document target
