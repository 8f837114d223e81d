use Rattle.std.proofs.Common.{◌≡◌, [], replicate}
use Rattle.target_graph.specs.Closures.{lists}
use Rattle.target_graph.proofs.blank.empty_lists.Given as goal

abbrev pub invariant-loop : goal.invariant-loop
invariant-loop g l = lists l.empty ≡ replicate l.counter []
