use Rattle.std.proofs.Common.{◌≡◌, ◌∙◌, [], Err, refl, ap, subst, arith}
use Rattle.bsp_edge.specs.Faults.{Rose}
use Rattle.rpc_frame.proofs.FrameLaws.{begins_sound, nil_begins, nil_no_frame}
use Rattle.rpc_frame.specs.declared.damage.Damage.{Damage}
use Rattle.rpc_frame.specs.Damages.{HasDamage}
use Rattle.bsp_cli.specs.Progress.{fed}
use Rattle.bsp_cli.specs.declared.outcome.Ending.TheVariants.{Damaged}
use Rattle.bsp_cli.specs.declared.serve.Turn.TheVariants.{Ends}
use Rattle.bsp_cli.proofs.CourseLaws.{at_start}
use Rattle.bsp_cli.proofs.SessionLaws.{starts, same_cause, serves_exit, serves_stop, serves_end}
use Rattle.bsp_cli.proofs.serve.Server.serve.Goals as goal

pub turns-init : goal.turns-init
turns-init g c =
    let new = c.requires.fresh in
    record {
      ready = c.requires.ready;
      shares = c.requires.shares;
      progress = starts c.args.self.now.responder.core c.args.self.now.decoder _ _ c.requires.stands new;
      further = rw new (at_start _);
      stood = ([], c.requires.stands);
      drained = rw new nil_no_frame;
      sound = rw new (begins_sound [] nil_begins);
      input_same = refl;
      output_same = refl;
    }

pub returns-in-Ok-Exits-clause-serves : goal.returns-in-Ok-Exits-clause-serves
returns-in-Ok-Exits-clause-serves g c =
    let so = c.turns.invariant in
    let progress = c.in-Ok-Exits.ensures.progress _ _ so.progress in
    let exits = (rw c.in-Ok-Exits.field-0-is at c.in-Ok-Exits.ensures.exits) c.in-Ok-Exits.status refl in
    let last = (rw c.in-Ok-Exits.field-0-is at c.in-Ok-Exits.ensures.in_last) c.in-Ok-Exits.status refl _ so.further in
    rw c.given_end.ensures (serves_exit _ _ _ _ _ _ _ _ c.take_turn.new.self.responder.core c.take_turn.new.self.decoder c.in-Ok-Exits.status _ refl progress exits last)

pub turns-smaller : goal.turns-smaller
turns-smaller g c =
    let goes_on = (rw c.in-Ok-GoesOn.field-0-is at c.in-Ok-GoesOn.ensures.goes_on) refl in
    let within = (rw c.in-Ok-GoesOn.field-0-is at c.in-Ok-GoesOn.ensures.within) refl in
    omega (arith, goes_on.more, within)

pub finish-requires-clause-ready : goal.finish-requires-clause-ready
finish-requires-clause-ready g c =
    let ends = (rw c.in-Ok-Ends.field-0-is at c.in-Ok-Ends.ensures.ends) c.in-Ok-Ends.ending refl in
    ends.ready

pub returns-in-Ok-Ends-clause-serves : goal.returns-in-Ok-Ends-clause-serves
returns-in-Ok-Ends-clause-serves g c =
    let so = c.turns.invariant in
    let here = (rw c.in-Ok-Ends.field-0-is at c.in-Ok-Ends.ensures.at_end) c.in-Ok-Ends.ending refl _ _ so.progress in
    let ends = (rw c.in-Ok-Ends.field-0-is at c.in-Ok-Ends.ensures.ends) c.in-Ok-Ends.ending refl in
    let cause = same_cause c.in-Ok-Ends.ending c.take_turn.new.self.decoder _ _ _ _ so.input_same ends.cause in
    let last = λ (damage : Damage) (same : c.in-Ok-Ends.ending ≡ Damaged damage) (has : HasDamage c.take_turn.new.self.decoder damage).
    (rw c.in-Ok-Ends.field-0-is at c.in-Ok-Ends.ensures.damaged_in_last) damage (ap Ends same) has _ so.further in
    let taken : c.count.result ≡ fed c.take_turn.new.self.decoder = c.count.ensures ∙ ap fed c.finish.ensures.decoder in
    rw (taken, c.finish.ensures.crew.collected) (serves_end _ _ _ _ _ _ _ _ _ c.take_turn.new.self.responder.core c.finish.new.self.responder.core c.take_turn.new.self.decoder c.in-Ok-Ends.ending here ends.drained cause last c.finish.result
    (λ stopped. subst (λ before. Rose before (g.K.Sink.faults c.finish.new.output)) (c.in-Ok-Ends.ensures.same ∙ so.output_same) (c.finish.ensures.sink stopped)) c.finish.ensures.finishes)

pub returns-in-Err-clause-serves : goal.returns-in-Err-clause-serves
returns-in-Err-clause-serves g c =
    let so = c.turns.invariant in
    let stopped = c.in-Err.ensures.stopped _ _ so.progress so.further in
    rw c.given_end-in-Err.ensures (serves_stop _ _ _ _ _ _ _ _ _ c.take_turn.new.self.decoder.given_end c.in-Err.stop (λ same. ap Err same)
    (λ same. subst (λ before. Rose before (g.K.Sink.faults c.take_turn.new.output)) so.output_same (c.in-Err.ensures.sink (ap Err same))) stopped)
