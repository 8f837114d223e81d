use Rattle.target_graph.specs.Closures.{lists}
use Rattle.target_graph.proofs.Sweeps.{IsSwept}
use Rattle.target_graph.proofs.closures.sweep.Given as goal

abbrev pub invariant-loop-index : goal.invariant-loop-index
invariant-loop-index l = IsSwept l.targets (lists l.fn.rows) (lists l.rows) l.index l.whole
