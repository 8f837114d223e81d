use Rattle.std.proofs.Common.{rules, List, length, sym, subst}
use Rattle.std.proofs.lemmas.Iterator.Adapters.{YieldsList-from_vec}
use Rattle.std.proofs.lemmas.Iterator.Consumers.{YieldsList-turn}
use Rattle.session_build.specs.Going.{IsJob}
use Rattle.session_build.specs.declared.going.Job.{Job}
use Rattle.session_build.proofs.LateLaws.{one_more_late}
use Rattle.session_build.proofs.late.wait_for.Goals as goal

pub late_of-requires-clause-job : goal.late_of-requires-clause-job
late_of-requires-clause-job c =
    let jobs : List Job = c.args.jobs.items in
    let road = YieldsList-from_vec {s = c.into_iter-job-iterator.result} jobs (search rules) (search rules) in
    let turn = YieldsList-turn road c.jobs.yielded c.jobs.job-iterator c.jobs.yielded_by c.next.result c.next.new.self c.in-Some.job c.in-Some.is c.next.ensures.steps in
    subst (IsJob c.args.checks.now) (sym turn.1) (c.requires.jobs (length c.jobs.yielded) c.in-Some.job turn.0)

pub jobs-preserved : goal.jobs-preserved
jobs-preserved c =
    one_more_late c.args.checks.now c.jobs.yielded c.in-Some.job c.in_ok-one.one c.args.late.now.items c.jobs.late.items c.put.new.late.items c.jobs.invariant c.in_ok-one.ensures c.in_ok-put.ensures
