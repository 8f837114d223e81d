use Rattle.std.specs.Prelude.{◌≡◌, ◌-◌, drop}
use Rattle.oberon_infer.specs.Memory.{plain_bindings}
use Rattle.oberon_module.proofs.exports.is_too_large.Given as goal
use Rattle.oberon_module.proofs.ExportLaws.{weight_of_bindings}

abbrev pub invariant-loop-index : goal.invariant-loop-index
invariant-loop-index l = l.left - weight_of_bindings (plain_bindings (drop l.index l.bindings.entries)) ≡ l.initial.left - weight_of_bindings (plain_bindings l.bindings.entries)
