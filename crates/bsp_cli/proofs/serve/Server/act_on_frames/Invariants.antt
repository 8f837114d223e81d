use Rattle.std.proofs.Common.{◌≡◌, ◌⊎◌, List, length}
use Rattle.rpc_frame.specs.Frames.{IsSound}
use Rattle.rpc_frame.specs.declared.damage.Damage.{Damage}
use Rattle.rpc_frame.specs.Damages.{HasDamage}
use Rattle.session_law.specs.Order.{Event}
use Rattle.session_core.specs.Standing.{StandsFor}
use Rattle.session_core.specs.State.{rest_of}
use Rattle.bsp_cli.specs.Outside.{Heard, Told, told}
use Rattle.bsp_cli.specs.Shares.{KeepsCrew, Shares}
use Rattle.bsp_cli.specs.Progress.{IsReady, Passes, Progress, fed}
use Rattle.bsp_cli.proofs.serve.Server.act_on_frames.Given as goal

abbrev pub invariant-frames : goal.invariant-frames
invariant-frames g l =
    record {
      ready : IsReady l.self.responder.core;
      stood : (order : List Event) × StandsFor l.self.responder.core order;
      shares : Shares (rest_of l.self.responder.core) (g.C.Crew.sight l.crew);
      progress : (from to : Heard) (start : Told)
          → Progress l.initial.self.responder.core l.initial.self.decoder from to start (told (g.K.Sink.given l.initial.output) (g.T.Tree.handed l.initial.tree) (g.T.Tree.faults l.initial.tree))
          → Progress l.self.responder.core l.self.decoder from to start (told (g.K.Sink.given l.output) (g.T.Tree.handed l.tree) (g.T.Tree.faults l.tree));
      passes : (l.self.decoder ≡ l.initial.self.decoder) ⊎ Passes l.initial.self.decoder l.self.decoder;
      sound : IsSound l.initial.self.decoder.bytes → IsSound l.self.decoder.bytes;
      damage : (damage : Damage) → HasDamage l.initial.self.decoder damage → HasDamage l.self.decoder damage;
      count : fed l.self.decoder ≡ fed l.initial.self.decoder;
      crew : KeepsCrew (g.C.Crew.sight l.initial.crew) (g.C.Crew.sight l.crew);
      same : g.K.Sink.faults l.output ≡ g.K.Sink.faults l.initial.output;
    }

abbrev pub decreases-frames : goal.decreases-frames
decreases-frames g l = length l.self.decoder.bytes
