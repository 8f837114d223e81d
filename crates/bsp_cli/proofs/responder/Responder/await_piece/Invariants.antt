use Rattle.std.proofs.Common.{◌≡◌, ◌<◌, List, length}
use Rattle.rpc_frame.specs.Frames.{HasNoFrame, Waiting}
use Rattle.session_law.specs.Order.{Event}
use Rattle.session_core.specs.Standing.{StandsFor}
use Rattle.session_core.specs.State.{rest_of}
use Rattle.bsp_cli.specs.Outside.{Heard, Told, heard, told}
use Rattle.bsp_cli.specs.Progress.{IsReady, Progress, Stays}
use Rattle.bsp_cli.specs.Shares.{Shares, left_with}
use Rattle.bsp_cli.proofs.responder.Responder.await_piece.Given as goal

abbrev pub invariant-outcomes : goal.invariant-outcomes
invariant-outcomes g l =
    record {
      room : 0 < length l.into;
      ready : IsReady l.self.core;
      shares : Shares (rest_of l.self.core) (g.C.Crew.sight l.crew);
      stood : (order : List Event) × StandsFor l.self.core order;
      progress : (stream : Waiting) (from : Heard) (start : Told) → HasNoFrame stream.bytes
          → Progress l.initial.self.core stream from (heard (g.S.Source.left l.initial.input) (g.S.Source.course l.initial.input) (g.C.Crew.sight l.initial.crew).collected) start
          (told (g.K.Sink.given l.initial.output) (g.T.Tree.handed l.initial.tree) (g.T.Tree.faults l.initial.tree))
          → Progress l.self.core stream from (heard (g.S.Source.left l.input) (g.S.Source.course l.input) (g.C.Crew.sight l.crew).collected) start
          (told (g.K.Sink.given l.output) (g.T.Tree.handed l.tree) (g.T.Tree.faults l.tree));
      left : g.S.Source.left l.input ≡ g.S.Source.left l.initial.input;
      stays : Stays (g.S.Source.course l.initial.input) (g.S.Source.course l.input);
      faults : g.S.Source.faults l.input ≡ g.S.Source.faults l.initial.input;
      same : g.K.Sink.faults l.output ≡ g.K.Sink.faults l.initial.output;
    }

abbrev pub decreases-outcomes : goal.decreases-outcomes
decreases-outcomes g l = left_with (rest_of l.self.core) (g.C.Crew.sight l.crew)
