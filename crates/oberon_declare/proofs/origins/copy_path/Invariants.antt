use Rattle.std.specs.Prelude.{◌≡◌, ◌++◌, drop}
use Rattle.oberon_declare.proofs.origins.copy_path.Given as goal

abbrev pub invariant-loop-step : goal.invariant-loop-step
invariant-loop-step l = l.path.items ++ drop l.step-index l.steps ≡ l.steps
