-- What a client shows at some keys is cleared.
use Rattle.std.specs.Prelude.{◌≡◌, ◌++◌, ℕ, List, false}
use Rattle.std.specs.List.{All}
use Rattle.bsp_records.specs.Table.{Table}
use Rattle.rpc_peer.specs.Said.{Said}
use Rattle.session_law.specs.Builds.{table_behind}
use Rattle.session_law.specs.IsFramed.{IsFramed}
use Rattle.session_law.specs.Reloading.{clears, clears_shown}
use Rattle.task_stream.specs.Showing.{is_at}
use Rattle.task_stream.specs.declared.shown.TableKey.{TableKey}

-- Publications behind these messages make the one table the other, at these keys.
pub record HasCleared (old new : Table) (keys : List TableKey) (before after : List Said) : Type 0 where
  pub behind : after ≡ before ++ clears old keys
  pub framed : All IsFramed (clears old keys)
  pub kept : (document target : List ℕ) → new document target ≡ table_behind (clears old keys) old document target

-- the same at one key
pub record HasClearedOne (old new : Table) (key : TableKey) (before after : List Said) : Type 0 where
  pub behind : after ≡ before ++ clears_shown key (old key.document key.target)
  pub framed : All IsFramed (clears_shown key (old key.document key.target))
  pub kept : (document target : List ℕ) → new document target ≡ table_behind (clears_shown key (old key.document key.target)) old document target
  -- what is shown elsewhere stays
  pub elsewhere : (document target : List ℕ) → is_at key document target ≡ false → new document target ≡ old document target
