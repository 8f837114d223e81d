-- A document that the workspace in force doesn't have shows nothing: whatever a client shows is of one of the pairs of that
-- workspace. Where none is in force yet, a client shows nothing at all.
use Rattle.std.specs.Prelude.{◌≡◌, ◌≢◌, [], Contains, Option, Some, None}
use Rattle.bsp_records.specs.Table.{Table}
use Rattle.session_law.specs.Reloading.{key_of}
use Rattle.target_graph.specs.Workspace.{Space, pairs_of}
use Rattle.target_graph.specs.declared.target.Pair.{Pair}
use Rattle.task_stream.specs.declared.shown.TableKey.{TableKey}

-- a client shows some diagnostic of the document in the target
abbrev pub IsShown : Table → TableKey → Type 0
IsShown table key = table key.document key.target ≢ []

-- a target of the workspace lists the document
pub record HasKey (space : Space) (key : TableKey) : Type 0 where
  pub pair : Pair
  pub listed : Contains (pairs_of space.targets) pair
  pub is : key_of space pair ≡ key

-- the workspace in force has the document in the target
abbrev pub IsOwn : Option Space → TableKey → Type 0
IsOwn None key = ⊥
IsOwn (Some space) key = HasKey space key

abbrev pub ShowsOwn : Option Space → Table → Type 0
ShowsOwn force table = (key : TableKey) → IsShown table key → IsOwn force key
