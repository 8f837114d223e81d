use Rattle.std.proofs.Common.{◌-◌, length}
use Rattle.target_graph.specs.Met.{met}
use Rattle.target_graph.proofs.WalkLaws.{IsOnWay}
use Rattle.target_graph.proofs.walk.reached.Given as goal

abbrev pub invariant-walk : goal.invariant-walk
invariant-walk l = IsOnWay l.targets l.asked (met l.walk) l.at

abbrev pub decreases-walk : goal.decreases-walk
decreases-walk l = length l.targets - l.at
