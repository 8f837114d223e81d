use Rattle.session_law.specs.Order.{hand}
use Rattle.session_law.specs.Verdicts.{IsBare}
use Rattle.session_core.specs.State.{handed_of}
use Rattle.bsp_cli.proofs.NeedLaws.{took_hand}
use Rattle.bsp_cli.proofs.WritingLaws.{acts_by, halts_at, halts_lost, on_err_then, on_ok, on_ok_then}
use Rattle.bsp_cli.proofs.responder.Responder.act_on_hand.Goals as goal

pub returns-in-Ok-clause-acts : goal.returns-in-Ok-clause-acts
returns-in-Ok-clause-acts g c =
    on_ok_then _ _ _ (acts_by IsBare c.args.self.now.core c.snapshot.new.self c.flush.new.self.core _ _ (hand (handed_of c.args.got)) c.in-Ok.ensures.bare (c.snapshot.ensures.stands c.requires.alive)) c.flush.ensures.flushes

pub returns-in-Ok-clause-took : goal.returns-in-Ok-clause-took
returns-in-Ok-clause-took g c =
    let acted = c.in-Ok.ensures in
    on_ok _ _ (took_hand c.args.self.now.core c.snapshot.new.self c.flush.new.self.core c.flush.ensures.rest acted.settled acted.asking acted.given acted.alive acted.back acted.awaits acted.fewer c.snapshot.ensures.status)

pub returns-in-Ok-clause-halts : goal.returns-in-Ok-clause-halts
returns-in-Ok-clause-halts g c =
    on_err_then _ _ _ (halts_at IsBare c.args.self.now.core c.snapshot.new.self c.flush.new.self.core _ _ (hand (handed_of c.args.got)) c.in-Ok.ensures.bare (c.snapshot.ensures.stands c.requires.alive)) c.flush.ensures.halts

pub returns-in-Err-clause-halts : goal.returns-in-Err-clause-halts
returns-in-Err-clause-halts g c = halts_lost IsBare c.args.self.now.core c.snapshot.new.self _ (hand (handed_of c.args.got)) (c.snapshot.ensures.stands c.requires.alive)
