use Rattle.std.specs.Prelude.{◌≡◌, ◌-◌, drop, map}
use Rattle.oberon_types.specs.Memory.{plain_param}
use Rattle.oberon_rules.specs.Views.{weight_of_params}
use Rattle.oberon_module.proofs.exports.params_left.Given as goal

abbrev pub invariant-loop-param : goal.invariant-loop-param
invariant-loop-param l = l.left - weight_of_params (map plain_param (drop l.param-index l.params)) ≡ l.initial.left - weight_of_params (map plain_param l.params)
