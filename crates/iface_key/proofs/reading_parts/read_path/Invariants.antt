use Rattle.std.specs.Prelude.{◌≡◌, length}
use Rattle.iface_key.specs.Keys.{option_then, step_then}
use Rattle.iface_key.proofs.reading_parts.read_path.Given as goal
use Rattle.iface_key.proofs.Listed.{so_far}

abbrev pub invariant-steps : goal.invariant-steps
invariant-steps l = l.fn.text ≡ so_far (option_then step_then) l.path.items l.left

abbrev pub decreases-steps : goal.decreases-steps
decreases-steps l = length l.left
