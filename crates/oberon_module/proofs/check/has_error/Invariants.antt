use Rattle.std.specs.Prelude.{◌≡◌, drop, map}
use Rattle.oberon_infer.specs.Memory.{plain_said}
use Rattle.oberon_rules.specs.Judged.{has_error}
use Rattle.oberon_module.proofs.check.has_error.Given as goal

abbrev pub invariant-loop-one : goal.invariant-loop-one
invariant-loop-one l = has_error (map plain_said (drop l.one-index l.said)) ≡ has_error (map plain_said l.said)
