use Rattle.std.proofs.Common.{◌-◌, length}
use Rattle.build_plan.proofs.PlanLaws.{IsPeeling}
use Rattle.build_plan.proofs.peel.peel.Given as goal

abbrev pub invariant-loop-place : goal.invariant-loop-place
invariant-loop-place l = IsPeeling l.fn.links l.front

abbrev pub decreases-loop-place : goal.decreases-loop-place
decreases-loop-place l = length l.front.rows - length l.front.given
