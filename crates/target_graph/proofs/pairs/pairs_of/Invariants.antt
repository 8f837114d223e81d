use Rattle.std.proofs.Common.{◌≡◌, ◌++◌, drop}
use Rattle.target_graph.specs.Workspace.{pairs_from}
use Rattle.target_graph.proofs.pairs.pairs_of.Given as goal

abbrev pub invariant-loop-index : goal.invariant-loop-index
invariant-loop-index l = l.pairs.items ++ pairs_from l.index (drop l.index l.targets) ≡ pairs_from 0 l.targets
