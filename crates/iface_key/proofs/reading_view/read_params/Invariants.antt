use Rattle.std.specs.Prelude.{◌≡◌, length, map}
use Rattle.oberon_types.specs.Memory.{plain_param}
use Rattle.iface_key.specs.Keys.{option_then, param_then}
use Rattle.iface_key.proofs.reading_view.read_params.Given as goal
use Rattle.iface_key.proofs.Listed.{so_far}

abbrev pub invariant-params : goal.invariant-params
invariant-params l = l.fn.text ≡ so_far (option_then param_then) (map plain_param l.params.items) l.left

abbrev pub decreases-params : goal.decreases-params
decreases-params l = length l.left
