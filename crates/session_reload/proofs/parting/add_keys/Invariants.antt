use Rattle.std.proofs.Common.{◌≡◌, ◌&&◌, ◌||◌, ℕ, List, take}
use Rattle.std.specs.List.{list_any}
use Rattle.std.specs.Str.{bytes_eq}
use Rattle.session_reload.specs.Keys.{has_key}
use Rattle.session_reload.proofs.parting.add_keys.Given as goal

abbrev pub invariant-loop-module : goal.invariant-loop-module
invariant-loop-module l = (name path : List ℕ) → has_key l.keys.keys name path ≡ (has_key l.fn.keys.keys name path || (bytes_eq name l.target && list_any (bytes_eq path) (take l.module-index l.modules)))
