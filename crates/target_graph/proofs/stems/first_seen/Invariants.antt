use Rattle.std.proofs.Common.{take, All}
use Rattle.target_graph.specs.Stems.{IsSeen}
use Rattle.target_graph.proofs.stems.first_seen.Given as goal

abbrev pub invariant-loop-index : goal.invariant-loop-index
invariant-loop-index l = All (λ q. ¬ (IsSeen l.marks l.pairs q)) (take l.index-index l.group)
