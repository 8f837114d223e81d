use Rattle.std.proofs.Common.{◌<◌}
use Rattle.target_graph.specs.Closures.{AreRows, AreDeep, IsLeft, lists}
use Rattle.target_graph.proofs.closures.closures.Given as goal

abbrev pub invariant-loop : goal.invariant-loop
invariant-loop l = AreRows l.targets (lists l.rows) × AreDeep l.targets l.counter (lists l.rows) × (0 < l.counter → IsLeft l.targets (lists l.rows))
