use Rattle.std.proofs.Common.{◌-◌, length}
use Rattle.build_plan.specs.Lists.{lists_of}
use Rattle.build_plan.specs.Walk.{met}
use Rattle.build_plan.proofs.WalkLaws.{IsOnWay}
use Rattle.build_plan.proofs.walk.Walk.from.Given as goal

abbrev pub invariant-walk : goal.invariant-walk
invariant-walk l = IsOnWay (lists_of l.rows) l.allowed l.from (met l.walk) l.at

abbrev pub decreases-walk : goal.decreases-walk
decreases-walk l = length l.rows - l.at
