use Rattle.std.proofs.Common.{take}
use Rattle.target_graph.specs.Closures.{IsJoined, lists_of}
use Rattle.target_graph.proofs.closures.joined.Given as goal

abbrev pub invariant-loop-other : goal.invariant-loop-other
invariant-loop-other l = IsJoined (lists_of l.rows) l.index (take l.other-index l.indices) l.row.items
