use Rattle.std.proofs.Common.{◌≡◌, ◌≤◌, [], List, None}
use Rattle.session_law.specs.Order.{Event}
use Rattle.session_law.specs.Verdicts.{IsBare}
use Rattle.session_core.specs.Standing.{StandsFor, status_of}
use Rattle.session_core.specs.State.{rest_of}
use Rattle.bsp_cli.specs.Outside.{told}
use Rattle.bsp_cli.specs.Progress.{MayNeed}
use Rattle.bsp_cli.specs.Shares.{KeepsCrew, Shares, left_with, needs_left}
use Rattle.bsp_cli.specs.Writing.{GoesThrough}
use Rattle.bsp_cli.proofs.responder.Responder.meet_needs.Given as goal

abbrev pub invariant-needs : goal.invariant-needs
invariant-needs g l =
    record {
      may : MayNeed l.self.core;
      shares : Shares (rest_of l.self.core) (g.C.Crew.sight l.crew);
      stood : (order : List Event) × StandsFor l.self.core order;
      steps : GoesThrough IsBare l.initial.self.core l.self.core [] None
          (told (g.K.Sink.given l.initial.output) (g.T.Tree.handed l.initial.tree) (g.T.Tree.faults l.initial.tree))
          (told (g.K.Sink.given l.output) (g.T.Tree.handed l.tree) (g.T.Tree.faults l.tree));
      less : left_with (rest_of l.self.core) (g.C.Crew.sight l.crew) ≤ left_with (rest_of l.initial.self.core) (g.C.Crew.sight l.initial.crew);
      status : status_of l.self.core ≡ status_of l.initial.self.core;
      crew : KeepsCrew (g.C.Crew.sight l.initial.crew) (g.C.Crew.sight l.crew);
      same : g.K.Sink.faults l.output ≡ g.K.Sink.faults l.initial.output;
    }

abbrev pub decreases-needs : goal.decreases-needs
decreases-needs g l = needs_left (rest_of l.self.core)
