use Rattle.std.proofs.Common.{ℕ, ◌≡◌, ◌||◌, List, map, drop}
use Rattle.std.specs.List.{list_any}
use Rattle.oberon_types.specs.Types.{same_name}
use Rattle.oberon_infer.specs.Memory.{plain_said}
use Rattle.oberon_rules.specs.Module.{is_resolved}
use Rattle.oberon_module.proofs.unused.used.Given as goal

abbrev pub invariant-loop-one : goal.invariant-loop-one
invariant-loop-one l = (x : List ℕ) → (list_any (same_name x) l.names.keys || is_resolved x (map plain_said (drop l.one-index l.said))) ≡ is_resolved x (map plain_said l.said)
