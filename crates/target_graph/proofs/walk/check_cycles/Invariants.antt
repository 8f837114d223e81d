use Rattle.std.proofs.Common.{ℕ, ◌<◌}
use Rattle.target_graph.specs.Workspace.{Circles}
use Rattle.target_graph.proofs.walk.check_cycles.Given as goal

abbrev pub invariant-loop-index : goal.invariant-loop-index
invariant-loop-index l = (earlier : ℕ) → earlier < l.index → ¬ (Circles l.targets earlier)
