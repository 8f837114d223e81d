use Rattle.std.proofs.Common.{◌∷◌, [], Some}
use Rattle.session_law.specs.Order.{onto, ends}
use Rattle.session_law.specs.Verdicts.{IsBare}
use Rattle.bsp_cli.proofs.NeedLaws.{may_message}
use Rattle.bsp_cli.proofs.ShareLaws.{shares_message}
use Rattle.bsp_cli.proofs.WritingLaws.{on_err_then, on_ok_then, steps_end, steps_then, stops_end, stops_then}
use Rattle.bsp_cli.proofs.responder.Responder.end.Goals as goal

pub meet_needs-requires-clause-may : goal.meet_needs-requires-clause-may
meet_needs-requires-clause-may g c = may_message _ c.act_on_end.new.self.core c.in-Ok.ensures.quiet c.in-Ok.ensures.took

pub meet_needs-requires-clause-shares : goal.meet_needs-requires-clause-shares
meet_needs-requires-clause-shares g c = shares_message _ _ _ c.in-Ok.ensures.took c.requires.shares

pub meet_needs-requires-clause-stood : goal.meet_needs-requires-clause-stood
meet_needs-requires-clause-stood g c =
    let acts = c.in-Ok.ensures.acts in
    let stood = c.requires.stood in
    (onto acts.messages (ends c.args.how ∷ stood.0), acts.stands stood.0 stood.1)

pub returns-in-Ok-clause-steps : goal.returns-in-Ok-clause-steps
returns-in-Ok-clause-steps g c =
    let ended = steps_end IsBare c.args.self.now.core c.args.how (g.T.Tree.handed c.args.tree.now) (g.T.Tree.faults c.args.tree.now) (g.K.Sink.given c.args.output.now) (g.K.Sink.given c.act_on_end.new.output) c.act_on_end.new.self.core c.in-Ok.ensures.acts in
    on_ok_then _ _ _ (steps_then IsBare c.args.self.now.core c.act_on_end.new.self.core [] (Some c.args.how) _ _ _ ended c.meet_needs.new.self.core) c.meet_needs.ensures.steps

pub returns-in-Ok-clause-stops : goal.returns-in-Ok-clause-stops
returns-in-Ok-clause-stops g c =
    let ended = steps_end IsBare c.args.self.now.core c.args.how (g.T.Tree.handed c.args.tree.now) (g.T.Tree.faults c.args.tree.now) (g.K.Sink.given c.args.output.now) (g.K.Sink.given c.act_on_end.new.output) c.act_on_end.new.self.core c.in-Ok.ensures.acts in
    on_err_then _ _ _ (stops_then IsBare c.args.self.now.core c.act_on_end.new.self.core [] (Some c.args.how) _ _ _ ended) c.meet_needs.ensures.stops

pub returns-in-Err-clause-stops : goal.returns-in-Err-clause-stops
returns-in-Err-clause-stops g c = stops_end IsBare c.args.self.now.core c.args.how (g.T.Tree.handed c.args.tree.now) (g.T.Tree.faults c.args.tree.now) (g.K.Sink.given c.args.output.now) (g.K.Sink.given c.act_on_end.new.output) c.in-Err.ensures.halts
