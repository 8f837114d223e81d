use Rattle.std.proofs.Common.{◌≡◌, ◌-◌, List}
use Rattle.rpc_frame.specs.Frames.{HasNoFrame, IsSound}
use Rattle.rpc_frame.specs.Limits.{stream_limit}
use Rattle.session_law.specs.Order.{Event}
use Rattle.session_core.specs.Standing.{StandsFor}
use Rattle.session_core.specs.State.{rest_of}
use Rattle.bsp_cli.specs.Outside.{heard, told}
use Rattle.bsp_cli.specs.Shares.{Shares}
use Rattle.bsp_cli.specs.Offsets.{IsAt}
use Rattle.bsp_cli.specs.Progress.{IsReady, Progress, fed}
use Rattle.bsp_cli.proofs.serve.Server.serve.Given as goal

abbrev pub invariant-turns : goal.invariant-turns
invariant-turns g l =
    record {
      ready : IsReady l.self.responder.core;
      shares : Shares (rest_of l.self.responder.core) (g.C.Crew.sight l.crew);
      progress : Progress l.self.responder.core l.self.decoder
          (heard (g.S.Source.left l.initial.input) (g.S.Source.course l.initial.input) (g.C.Crew.sight l.initial.crew).collected) (heard (g.S.Source.left l.input) (g.S.Source.course l.input) (g.C.Crew.sight l.crew).collected)
          (told (g.K.Sink.given l.initial.output) (g.T.Tree.handed l.initial.tree) (g.T.Tree.faults l.initial.tree))
          (told (g.K.Sink.given l.output) (g.T.Tree.handed l.tree) (g.T.Tree.faults l.tree));
      further : IsAt (g.S.Source.course l.initial.input) (g.S.Source.course l.input) (fed l.self.decoder);
      stood : (order : List Event) × StandsFor l.self.responder.core order;
      drained : HasNoFrame l.self.decoder.bytes;
      sound : IsSound l.self.decoder.bytes;
      input_same : g.S.Source.faults l.input ≡ g.S.Source.faults l.initial.input;
      output_same : g.K.Sink.faults l.output ≡ g.K.Sink.faults l.initial.output;
    }

abbrev pub decreases-turns : goal.decreases-turns
decreases-turns g l = stream_limit - fed l.self.decoder
