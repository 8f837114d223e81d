use Rattle.std.proofs.Common.{take, All}
use Rattle.target_graph.specs.Closures.{IsMade, lists_of}
use Rattle.target_graph.proofs.closures.are_made.Given as goal

abbrev pub invariant-loop-index : goal.invariant-loop-index
invariant-loop-index l = All (IsMade (lists_of l.rows)) (take l.index-index l.indices)
