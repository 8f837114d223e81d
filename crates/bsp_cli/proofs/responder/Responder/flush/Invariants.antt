use Rattle.std.proofs.Common.{◌≡◌, List}
use Rattle.session_law.specs.Order.{Event}
use Rattle.session_core.specs.Standing.{StandsFor, left_to_write}
use Rattle.session_core.specs.State.{rest_of}
use Rattle.bsp_cli.specs.Writing.{Flushes}
use Rattle.bsp_cli.proofs.responder.Responder.flush.Given as goal

abbrev pub invariant-messages : goal.invariant-messages
invariant-messages g l =
    record {
      flushes : Flushes l.initial.self.core l.self.core (g.K.Sink.given l.initial.output) (g.K.Sink.given l.output);
      stood : (order : List Event) × StandsFor l.self.core order;
      rest : rest_of l.self.core ≡ rest_of l.initial.self.core;
      same : g.K.Sink.faults l.output ≡ g.K.Sink.faults l.initial.output;
    }

abbrev pub decreases-messages : goal.decreases-messages
decreases-messages g l = left_to_write l.self.core
