use Rattle.std.proofs.Common.{◌≡◌}
use Rattle.target_graph.proofs.entry.each_owned.Given as goal

abbrev pub invariant-loop-item : goal.invariant-loop-item
invariant-loop-item g l = l.list.items ≡ l.yielded
