use Rattle.std.proofs.Common.{◌≡◌, length}
use Rattle.session_core.specs.Moving.{BesideQueue, KeepsNotices, QueueTexts, Settles, StaysBare}
use Rattle.session_queue.specs.Waiting.{kept_of, marked_of}
use Rattle.session_core.proofs.session.Core.settle_waiting.Given as goal

abbrev pub invariant-marked : goal.invariant-marked
invariant-marked l = record {
  settles : Settles l.fn.self l.self;
  texts : QueueTexts l.self;
  notices : KeepsNotices l.fn.self l.self;
  leaves : kept_of l.self.queue ≡ kept_of l.fn.self.queue;
  beside : BesideQueue l.fn.self l.self;
  bare : StaysBare l.fn.self l.self;
}

abbrev pub decreases-marked : goal.decreases-marked
decreases-marked l = length (marked_of l.self.queue)
