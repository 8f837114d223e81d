use Rattle.std.specs.Prelude.{◌≡◌, ◌++◌, drop, map}
use Rattle.oberon_types.specs.Memory.{plain_param}
use Rattle.oberon_rules.specs.Views.{written, map_param}
use Rattle.oberon_module.proofs.exports.written_params.Given as goal

abbrev pub invariant-loop-param : goal.invariant-loop-param
invariant-loop-param l = map plain_param l.copies.items ++ map (map_param written) (map plain_param (drop l.param-index l.params)) ≡ map (map_param written) (map plain_param l.params)
