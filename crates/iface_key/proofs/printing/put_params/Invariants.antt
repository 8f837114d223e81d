use Rattle.std.specs.Prelude.{ℕ, List, ◌≡◌, ◌++◌, drop, map}
use Rattle.oberon_types.specs.Memory.{plain_param}
use Rattle.iface_key.specs.Keys.{list_then, param_then}
use Rattle.iface_key.proofs.printing.put_params.Given as goal

abbrev pub invariant-loop-param : goal.invariant-loop-param
invariant-loop-param l = (rest : List ℕ) → l.key.items ++ list_then param_then (map plain_param (drop l.param-index l.params)) rest ≡ l.initial.key.items ++ list_then param_then (map plain_param l.params) rest
