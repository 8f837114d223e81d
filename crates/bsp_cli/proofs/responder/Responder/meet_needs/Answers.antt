use Rattle.std.proofs.Common.{◌∙◌, ◌++◌, [], refl, None, arith}
use Rattle.session_law.specs.Verdicts.{IsBare}
use Rattle.bsp_cli.proofs.ShareLaws.{keeps_both, keeps_crew}
use Rattle.bsp_cli.proofs.WritingLaws.{steps_none, steps_then, stops_then}
use Rattle.bsp_cli.proofs.responder.Responder.meet_needs.Goals as goal

pub needs-init : goal.needs-init
needs-init g c =
    record {
      may = c.requires.may;
      shares = c.requires.shares;
      stood = c.requires.stood;
      steps = steps_none IsBare c.args.self.now.core c.args.self.now.core _ (λ order stands. stands);
      less = omega arith;
      status = refl;
      crew = keeps_crew _;
      same = refl;
    }

pub needs-preserved : goal.needs-preserved
needs-preserved g c =
    let so = c.needs.invariant in
    let met = c.in-Ok-true.ensures in
    record {
      may = met.may;
      shares = met.shares;
      stood = (met.steps.events ++ so.stood.0, met.steps.stands so.stood.0 so.stood.1);
      steps = steps_then IsBare c.args.self.now.core c.needs.self.core [] None _ _ _ so.steps c.meet_need.new.self.core met.steps;
      less = omega (arith, so.less, met.less);
      status = met.status ∙ so.status;
      crew = keeps_both _ _ _ so.crew c.meet_need.ensures.crew;
      same = c.meet_need.ensures.same (λ failed. cc) ∙ so.same;
    }

pub returns-in-Ok-false-clause-steps : goal.returns-in-Ok-false-clause-steps
returns-in-Ok-false-clause-steps g c =
    steps_then IsBare c.args.self.now.core c.needs.self.core [] None _ _ _ c.needs.invariant.steps c.meet_need.new.self.core c.in-Ok-false.ensures.steps

pub returns-in-Err-clause-stops : goal.returns-in-Err-clause-stops
returns-in-Err-clause-stops g c =
    stops_then IsBare c.args.self.now.core c.needs.self.core [] None _ _ _ c.needs.invariant.steps c.in-Err.ensures.stops
