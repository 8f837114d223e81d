use Rattle.std.proofs.Common.{◌≤◌, length}
use Rattle.plan_tests.specs.Run.{IsRun}
use Rattle.plan_tests.proofs.run.run.Given as goal

abbrev pub invariant-loop-finished : goal.invariant-loop-finished
invariant-loop-finished l = record {
  run : IsRun l.plan l.order.items l.finished;
  finished : l.finished ≤ length l.order.items;
}
