use Rattle.std.proofs.Common.{take}
use Rattle.target_graph.specs.Closures.{lists}
use Rattle.target_graph.specs.Stems.{AreGroups}
use Rattle.target_graph.proofs.stems.groups.Given as goal

abbrev pub invariant-loop-index : goal.invariant-loop-index
invariant-loop-index l = AreGroups (take l.index l.numbers) l.width (lists l.groups)
