use Rattle.std.proofs.Common.{◌≡◌, ◌≤◌, length}
use Rattle.session_core.specs.Moving.{BesideHead, StaysBare}
use Rattle.session_core.specs.Settled.{BuildStays, HeadStays, IsAsking, IsSound, left_to_do}
use Rattle.session_core.specs.Standing.{Carries}
use Rattle.session_core.specs.State.{rest_of}
use Rattle.session_core.proofs.session.Core.take_up_next.Given as goal

abbrev pub invariant-waiting : goal.invariant-waiting
invariant-waiting l = record {
  carries : Carries l.fn.self l.self;
  sound : IsSound (rest_of l.self);
  asking : IsAsking (rest_of l.self);
  stays : HeadStays l.fn.self.head l.self.head;
  build : BuildStays l.fn.self.head l.self.head;
  drains : l.self.drains ≡ l.fn.self.drains;
  no_more : left_to_do (rest_of l.self) ≤ left_to_do (rest_of l.fn.self);
  beside : BesideHead l.fn.self l.self;
  bare : StaysBare l.fn.self l.self;
}

abbrev pub decreases-waiting : goal.decreases-waiting
decreases-waiting l = length l.self.queue
