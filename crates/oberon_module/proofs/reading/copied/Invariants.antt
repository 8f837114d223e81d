use Rattle.std.specs.Prelude.{◌≡◌, ◌++◌, drop}
use Rattle.oberon_module.proofs.reading.copied.Given as goal

abbrev pub invariant-loop-one : goal.invariant-loop-one
invariant-loop-one l = l.copy.items ++ drop l.one-index l.list ≡ l.list
