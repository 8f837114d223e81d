use Rattle.target_graph.proofs.Marked.{IsMarkedTo}
use Rattle.target_graph.proofs.walk.marked.Given as goal

abbrev pub invariant-loop-index : goal.invariant-loop-index
invariant-loop-index l = IsMarkedTo l.marks l.index l.indices.items
