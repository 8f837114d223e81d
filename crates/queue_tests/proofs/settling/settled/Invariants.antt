use Rattle.std.proofs.Common.{◌≡◌, ◌++◌, length}
use Rattle.session_queue.specs.Waiting.{kept_of, marked_of}
use Rattle.queue_tests.proofs.settling.settled.Given as goal

abbrev pub decreases-loop-waiting : goal.decreases-loop-waiting
decreases-loop-waiting g l = length (marked_of l.queue)

abbrev pub invariant-loop-waiting : goal.invariant-loop-waiting
invariant-loop-waiting g l = record {
  taken : l.taken.items ++ marked_of l.queue ≡ marked_of l.fn.queue;
  kept : kept_of l.queue ≡ kept_of l.fn.queue;
}
