use Rattle.std.proofs.Common.{◌∷◌, ◌∙◌, [], None}
use Rattle.session_law.specs.Order.{onto, take}
use Rattle.session_law.specs.Verdicts.{IsBare}
use Rattle.bsp_cli.proofs.NeedLaws.{may_message}
use Rattle.bsp_cli.proofs.ShareLaws.{shares_message}
use Rattle.bsp_cli.proofs.WritingLaws.{steps_take, steps_then, stops_take, stops_then, stopped_so}
use Rattle.bsp_cli.proofs.responder.Responder.act.Goals as goal

pub meet_needs-requires-clause-may : goal.meet_needs-requires-clause-may
meet_needs-requires-clause-may g c = may_message _ c.act_on_body.new.self.core c.in-Ok.ensures.quiet c.in-Ok.ensures.took

pub meet_needs-requires-clause-shares : goal.meet_needs-requires-clause-shares
meet_needs-requires-clause-shares g c = shares_message _ _ _ c.in-Ok.ensures.took c.requires.shares

pub meet_needs-requires-clause-stood : goal.meet_needs-requires-clause-stood
meet_needs-requires-clause-stood g c =
    let acts = c.in-Ok.ensures.acts in
    let stood = c.requires.stood in
    (onto acts.messages (take c.args.body.now ∷ stood.0), acts.stands stood.0 stood.1)

pub returns-in-Ok-meet_needs-clause-steps : goal.returns-in-Ok-meet_needs-clause-steps
returns-in-Ok-meet_needs-clause-steps g c =
    let taken = steps_take IsBare c.args.self.now.core c.args.body.now (g.T.Tree.handed c.args.tree.now) (g.T.Tree.faults c.args.tree.now) (g.K.Sink.given c.args.output.now) (g.K.Sink.given c.act_on_body.new.output) c.act_on_body.new.self.core c.in-Ok.ensures.acts in
    steps_then IsBare c.args.self.now.core c.act_on_body.new.self.core (c.args.body.now ∷ []) None _ _ _ taken c.meet_needs.new.self.core c.in-Ok-meet_needs.ensures.steps

pub returns-in-Err-meet_needs-clause-stops : goal.returns-in-Err-meet_needs-clause-stops
returns-in-Err-meet_needs-clause-stops g c =
    let taken = steps_take IsBare c.args.self.now.core c.args.body.now (g.T.Tree.handed c.args.tree.now) (g.T.Tree.faults c.args.tree.now) (g.K.Sink.given c.args.output.now) (g.K.Sink.given c.act_on_body.new.output) c.act_on_body.new.self.core c.in-Ok.ensures.acts in
    stops_then IsBare c.args.self.now.core c.act_on_body.new.self.core (c.args.body.now ∷ []) None _ _ _ taken c.in-Err-meet_needs.ensures.stops

pub returns-in-Err-clause-stops : goal.returns-in-Err-clause-stops
returns-in-Err-clause-stops g c = stops_take IsBare c.args.self.now.core c.args.body.now (g.T.Tree.handed c.args.tree.now) (g.T.Tree.faults c.args.tree.now) (g.K.Sink.given c.args.output.now) (g.K.Sink.given c.act_on_body.new.output) c.in-Err.ensures.halts

pub returns-in-Ok-meet_needs-clause-same : goal.returns-in-Ok-meet_needs-clause-same
returns-in-Ok-meet_needs-clause-same g c = λ other. c.in-Ok-meet_needs.ensures.same (λ failed. cc) ∙ c.in-Ok.ensures.same (λ failed. cc)

pub returns-in-Err-meet_needs-clause-same : goal.returns-in-Err-meet_needs-clause-same
returns-in-Err-meet_needs-clause-same g c = λ other. c.in-Err-meet_needs.ensures.same (λ failed. other (stopped_so _ _ failed)) ∙ c.in-Ok.ensures.same (λ failed. cc)
