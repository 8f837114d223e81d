use Rattle.bsp_cli.specs.Writing.{IsAny}
use Rattle.bsp_cli.specs.Outside.{told}
use Rattle.bsp_cli.proofs.NeedLaws.{took_outcome}
use Rattle.bsp_cli.proofs.WritingLaws.{on_err_then, on_ok, on_ok_then, outcome_steps, outcome_stops, stops_lost}
use Rattle.bsp_cli.proofs.responder.Responder.act_on_outcome.Goals as goal

pub returns-in-Ok-clause-steps : goal.returns-in-Ok-clause-steps
returns-in-Ok-clause-steps g c =
    on_ok_then _ _ _ (outcome_steps c.args.self.now.core c.outcome.new.self _ _ (c.outcome.ensures.stands c.requires.ready.met.alive) c.flush.new.self.core) c.flush.ensures.flushes

pub returns-in-Ok-clause-took : goal.returns-in-Ok-clause-took
returns-in-Ok-clause-took g c =
    let acted = c.in-Ok.ensures in
    on_ok _ _ (took_outcome c.args.self.now.core c.outcome.new.self c.flush.new.self.core c.flush.ensures.rest acted.settled acted.asking c.outcome.ensures.given acted.alive c.args.outcome.job.number acted.back acted.awaits acted.no_more c.outcome.ensures.status)

pub returns-in-Ok-clause-stops : goal.returns-in-Ok-clause-stops
returns-in-Ok-clause-stops g c =
    on_err_then _ _ _ (outcome_stops c.args.self.now.core c.outcome.new.self _ _ (c.outcome.ensures.stands c.requires.ready.met.alive)) c.flush.ensures.halts

pub returns-in-Err-clause-stops : goal.returns-in-Err-clause-stops
returns-in-Err-clause-stops g c = λ handed faults.
    stops_lost IsAny c.args.self.now.core c.outcome.new.self (told (g.K.Sink.given c.args.output.now) handed faults) (c.outcome.ensures.stands c.requires.ready.met.alive)
