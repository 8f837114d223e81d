use Rattle.std.proofs.Common.{◌∙◌, ◌∷◌, rules}
use Rattle.build_messages.specs.Outgoing.{outgoing_said}
use Rattle.session_law.specs.Order.{write}
use Rattle.bsp_cli.proofs.WritingLaws.{flushes_more, halts_by}
use Rattle.bsp_cli.proofs.responder.Responder.flush.Goals as goal

pub messages-preserved : goal.messages-preserved
messages-preserved g c =
    let so = c.messages.invariant in
    let stood = so.stood in
    record {
      flushes = flushes_more c.args.self.now.core c.messages.self.core c.next_out.new.self _ _ _ (outgoing_said c.in-Some.message) so.flushes c.in-Some.ensures.next c.in-Some.ensures.stands c.in-Ok.ensures.sends;
      stood = (write (outgoing_said c.in-Some.message) ∷ stood.0, c.in-Some.ensures.stands stood.0 stood.1);
      rest = c.next_out.ensures.rest ∙ so.rest;
      same = search rules;
    }

pub returns-in-Err-clause-halts : goal.returns-in-Err-clause-halts
returns-in-Err-clause-halts g c =
    let so = c.messages.invariant in
    halts_by c.args.self.now.core c.messages.self.core c.next_out.new.self _ _ _ (outgoing_said c.in-Some.message) so.flushes c.in-Some.ensures.next c.in-Err.stop (c.in-Some.ensures.framed so.stood.0 so.stood.1)
    c.in-Err.ensures.sends
