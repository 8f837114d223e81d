use Rattle.std.proofs.Common.{◌++◌}
use Rattle.session_law.specs.Verdicts.{IsBare}
use Rattle.bsp_cli.proofs.NeedLaws.{may_outcome}
use Rattle.bsp_cli.proofs.ShareLaws.{collects_one, collects_then, outcome_back, shares_outcome, some_out}
use Rattle.bsp_cli.proofs.WritingLaws.{any_behind, any_stops_behind, on_err_then, on_ok_then}
use Rattle.bsp_cli.proofs.responder.Responder.take_outcome.Goals as goal

pub next_outcome-outcome-requires-clause-some : goal.next_outcome-outcome-requires-clause-some
next_outcome-outcome-requires-clause-some g c =
    let met = c.requires.ready.met in
    some_out _ _ met.settled met.needs met.up c.requires.busy c.requires.shares

pub act_on_outcome-requires-clause-back : goal.act_on_outcome-requires-clause-back
act_on_outcome-requires-clause-back g c =
    let came = c.next_outcome-outcome in
    outcome_back _ _ came.ensures.0 _ came.result came.ensures.1 came.ensures.2 c.requires.shares

pub meet_needs-requires-clause-may : goal.meet_needs-requires-clause-may
meet_needs-requires-clause-may g c = may_outcome _ c.act_on_outcome.new.self.core _ c.in-Ok.ensures.quiet c.in-Ok.ensures.took

pub meet_needs-requires-clause-shares : goal.meet_needs-requires-clause-shares
meet_needs-requires-clause-shares g c =
    let came = c.next_outcome-outcome in
    shares_outcome _ _ came.ensures.0 _ came.result came.ensures.1 came.ensures.2 c.requires.shares _ c.in-Ok.ensures.took

pub meet_needs-requires-clause-stood : goal.meet_needs-requires-clause-stood
meet_needs-requires-clause-stood g c =
    let steps = c.in-Ok.ensures.steps (g.T.Tree.handed c.args.tree.now) (g.T.Tree.faults c.args.tree.now) in
    let stood = c.requires.stood in
    (steps.events ++ stood.0, steps.stands stood.0 stood.1)

pub returns-in-Ok-clause-steps : goal.returns-in-Ok-clause-steps
returns-in-Ok-clause-steps g c =
    let steps = c.in-Ok.ensures.steps (g.T.Tree.handed c.args.tree.now) (g.T.Tree.faults c.args.tree.now) in
    on_ok_then _ _ _ (any_behind IsBare c.args.self.now.core c.act_on_outcome.new.self.core c.meet_needs.new.self.core _ _ _ steps) c.meet_needs.ensures.steps

pub returns-in-Ok-clause-stops : goal.returns-in-Ok-clause-stops
returns-in-Ok-clause-stops g c =
    let steps = c.in-Ok.ensures.steps (g.T.Tree.handed c.args.tree.now) (g.T.Tree.faults c.args.tree.now) in
    on_err_then _ _ _ (any_stops_behind IsBare c.args.self.now.core c.act_on_outcome.new.self.core _ _ _ steps) c.meet_needs.ensures.stops

pub returns-in-Ok-clause-crew : goal.returns-in-Ok-clause-crew
returns-in-Ok-clause-crew g c =
    let came = c.next_outcome-outcome in
    collects_then _ _ _ (collects_one _ _ came.ensures.0 _ came.result came.ensures.1 came.ensures.2 c.requires.shares) c.meet_needs.ensures.crew
