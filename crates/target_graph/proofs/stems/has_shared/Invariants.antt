use Rattle.std.proofs.Common.{◌≤◌, length, take, All}
use Rattle.target_graph.proofs.stems.has_shared.Given as goal

abbrev pub invariant-loop-group : goal.invariant-loop-group
invariant-loop-group l = All (λ group. length group.items ≤ 1) (take l.group-index l.groups)
