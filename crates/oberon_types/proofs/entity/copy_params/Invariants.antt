use Rattle.std.specs.Prelude.{◌≡◌, ◌++◌, map, drop}
use Rattle.oberon_types.specs.Memory.{plain_param}
use Rattle.oberon_types.proofs.entity.copy_params.Given as goal

abbrev pub invariant-loop-param : goal.invariant-loop-param
invariant-loop-param l = map plain_param l.copies.items ++ map plain_param (drop l.param-index l.params) ≡ map plain_param l.params
