use Rattle.std.specs.Prelude.{◌≡◌, length, map}
use Rattle.oberon_types.specs.Memory.{plain_export}
use Rattle.iface_key.specs.Keys.{option_then, export_then}
use Rattle.iface_key.proofs.reading_view.read_exports.Given as goal
use Rattle.iface_key.proofs.Listed.{so_far}

abbrev pub invariant-exports : goal.invariant-exports
invariant-exports l = l.fn.text ≡ so_far (option_then export_then) (map plain_export l.entities.entries) l.left

abbrev pub decreases-exports : goal.decreases-exports
decreases-exports l = length l.left
