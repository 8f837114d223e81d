use Rattle.std.proofs.Common.{◌++◌, ◌∙◌, refl, rules}
use Rattle.bsp_cli.proofs.WaitLaws.{poll_fails, poll_finds_end, poll_finds_piece, quiet_progress, quiet_waiting, read_finds, stays_more, stays_same}
use Rattle.bsp_cli.proofs.responder.Responder.await_piece.Goals as goal

pub outcomes-init : goal.outcomes-init
outcomes-init g c =
    record {
      room = c.requires.room;
      ready = c.requires.ready;
      shares = c.requires.shares;
      stood = c.requires.stood;
      progress = λ stream from start drained so. so;
      left = refl;
      stays = stays_same _;
      faults = refl;
      same = refl;
    }

pub returns-then-is_idle-clause-finds : goal.returns-then-is_idle-clause-finds
returns-then-is_idle-clause-finds g c = λ stream from start drained before.
    let so = c.outcomes.invariant in
    read_finds c.outcomes.self.core stream from _ start _ drained so.ready (so.progress stream from start drained before) _ _ c.read.new.into c.read.result
    (c.is_idle.ensures.0 c.if-is_idle.true).head c.read.ensures.left c.read.ensures.course c.read.ensures.stops

pub outcomes-preserved : goal.outcomes-preserved
outcomes-preserved g c =
    let so = c.outcomes.invariant in
    let took = c.in-Ok.ensures in
    record {
      room = search rules;
      ready = took.ready;
      shares = took.shares;
      stood = (took.steps.events ++ so.stood.0, took.steps.stands so.stood.0 so.stood.1);
      progress = λ stream from start drained before.
          quiet_progress c.outcomes.self.core c.take_outcome.new.self.core stream from _ _ start _ _ drained (so.progress stream from start drained before) c.in-Quiet.ensures.left c.in-Quiet.ensures.course
          c.take_outcome.ensures.crew.collected took.steps;
      left = c.in-Quiet.ensures.left ∙ so.left;
      stays = stays_more _ _ _ so.stays c.in-Quiet.ensures.course;
      faults = c.in-Quiet.ensures.faults ∙ so.faults;
      same = c.take_outcome.ensures.same (λ failed. cc) ∙ so.same;
    }

pub returns-in-Err-clause-stopped : goal.returns-in-Err-clause-stopped
returns-in-Err-clause-stopped g c = λ stream from start drained before.
    quiet_waiting c.outcomes.self.core c.take_outcome.new.self.core stream from _ _ start _ _ drained (c.outcomes.invariant.progress stream from start drained before) c.in-Quiet.ensures.left c.in-Quiet.ensures.course
    c.take_outcome.ensures.crew.collected c.outcomes.invariant.ready c.in-Err.ensures.stops

pub returns-in-Bytes-clause-finds : goal.returns-in-Bytes-clause-finds
returns-in-Bytes-clause-finds g c = λ stream from start drained before.
    let so = c.outcomes.invariant in
    poll_finds_piece c.outcomes.self.core stream from _ start _ drained so.ready (so.progress stream from start drained before) _ _ c.poll.new.into c.in-Bytes.count c.in-Bytes.ensures.left c.in-Bytes.ensures.course c.in-Bytes.ensures.stops

pub returns-in-End-clause-finds : goal.returns-in-End-clause-finds
returns-in-End-clause-finds g c = λ stream from start drained before.
    let so = c.outcomes.invariant in
    poll_finds_end c.outcomes.self.core stream from _ start _ drained so.ready (so.progress stream from start drained before) _ _ c.poll.new.into c.in-End.ensures.left c.in-End.ensures.course c.in-End.ensures.stops

pub returns-in-Failed-clause-finds : goal.returns-in-Failed-clause-finds
returns-in-Failed-clause-finds g c = λ stream from start drained before.
    let so = c.outcomes.invariant in
    poll_fails c.outcomes.self.core stream from _ start _ drained so.ready (so.progress stream from start drained before) _ _ c.poll.new.into c.in-Failed.ensures.left c.in-Failed.ensures.course
