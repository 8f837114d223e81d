use Rattle.std.proofs.Common.{map, refl, arith}
use Rattle.build_messages.specs.Outgoing.{outgoing_said}
use Rattle.session_build.proofs.GoesLaws.{goes_on, goes_start}
use Rattle.session_build.proofs.JobLaws.{keeps_same, starts_on, starts_same}
use Rattle.task_stream.specs.Showing.{shows}
use Rattle.session_build.proofs.going.Going.take_all.Goals as goal

pub documents-init : goal.documents-init
documents-init c = record {
  sound = c.requires.sound;
  goes =
      goes_start c.args.at.now c.args.cache.now c.args.self.now (map outgoing_said c.args.out.now.items) c.args.keys.now (shows c.args.shown.now);
  jobs = starts_same c.args.self.now c.args.self.now refl refl (keeps_same c.args.self.now.checks c.args.self.now.checks refl);
  left = omega arith;
}

pub documents-preserved : goal.documents-preserved
documents-preserved c = record {
  sound = c.in_ok-take.ensures.sound;
  goes =
      goes_on c.args.at.now c.args.cache.now c.args.self.now c.documents.self c.take.new.self (map outgoing_said c.args.out.now.items) (map outgoing_said c.documents.out.items)
      (map outgoing_said c.take.new.out.items) c.args.keys.now c.documents.keys c.take.new.keys (shows c.args.shown.now) (shows c.documents.shown) (shows c.take.new.shown)
      c.documents.invariant.goes c.in_ok-take.ensures.goes;
  jobs = starts_on c.args.self.now c.documents.self c.take.new.self c.documents.invariant.jobs c.in_ok-take.ensures.jobs;
  left = (let before = c.documents.invariant.left in let own = c.in_ok-take.ensures.left in omega (arith, before, own));
}

pub returns-clause-goes : goal.returns-clause-goes
returns-clause-goes c =
    goes_on c.args.at.now c.args.cache.now c.args.self.now c.documents.self c.take.new.self (map outgoing_said c.args.out.now.items) (map outgoing_said c.documents.out.items)
    (map outgoing_said c.take.new.out.items) c.args.keys.now c.documents.keys c.take.new.keys (shows c.args.shown.now) (shows c.documents.shown) (shows c.take.new.shown)
    c.documents.invariant.goes c.in_ok-take.ensures.goes

pub returns-clause-jobs : goal.returns-clause-jobs
returns-clause-jobs c = starts_on c.args.self.now c.documents.self c.take.new.self c.documents.invariant.jobs c.in_ok-take.ensures.jobs

pub returns-clause-none : goal.returns-clause-none
returns-clause-none c = c.in_ok-take.ensures.none c.if-branch.false

pub returns-clause-through : goal.returns-clause-through
returns-clause-through c = c.in_ok-take.ensures.through c.if-branch.false
