use Rattle.std.specs.Prelude.{ℕ, List, ◌≡◌, ◌++◌, drop}
use Rattle.iface_key.specs.Keys.{list_then, step_then}
use Rattle.iface_key.proofs.printing.put_path.Given as goal

abbrev pub invariant-loop-step : goal.invariant-loop-step
invariant-loop-step l = (rest : List ℕ) → l.key.items ++ list_then step_then (drop l.step-index l.path) rest ≡ l.initial.key.items ++ list_then step_then l.path rest
