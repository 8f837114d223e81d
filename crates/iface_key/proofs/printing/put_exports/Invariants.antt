use Rattle.std.specs.Prelude.{ℕ, List, ◌≡◌, ◌++◌, drop, map}
use Rattle.oberon_types.specs.Memory.{plain_export}
use Rattle.iface_key.specs.Keys.{list_then, export_then}
use Rattle.iface_key.proofs.printing.put_exports.Given as goal

abbrev pub invariant-loop-index : goal.invariant-loop-index
invariant-loop-index l = (rest : List ℕ) → l.key.items ++ list_then export_then (map plain_export (drop l.index l.entities.entries)) rest ≡ l.initial.key.items ++ list_then export_then (map plain_export l.entities.entries) rest
