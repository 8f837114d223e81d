use Rattle.build_plan.proofs.QueueLaws.{IsQueuedTo}
use Rattle.build_plan.proofs.front.put_free.Given as goal

abbrev pub invariant-loop-place : goal.invariant-loop-place
invariant-loop-place l = IsQueuedTo l.waiting l.place l.ready
