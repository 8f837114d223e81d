use Rattle.std.proofs.Common.{◌≡◌, ◌++◌, take}
use Rattle.target_graph.specs.Workspace.{pairs_at}
use Rattle.target_graph.proofs.pairs.add_pairs.Given as goal

abbrev pub invariant-loop-path : goal.invariant-loop-path
invariant-loop-path l = l.pairs.items ≡ l.initial.pairs.items ++ pairs_at l.target (take l.path-index l.modules)
