use Rattle.std.proofs.Common.{◌≡◌, ◌<◌, ◌+◌, ◌-◌, suc, refl, ap, sym, subst, arith}
use Rattle.session_build.specs.AtWork.{IsOwnWork, Runs, begun_in}
use Rattle.session_core.proofs.Giving.{job_awaited, job_given, number_runs}
use Rattle.session_core.proofs.session.Core.next_job.Goals as goal
use Rattle.session_core.specs.Settled.{Awaits, IsBack}
use Rattle.session_core.specs.State.{Rest, rest_of}
use Rattle.worker_pool.specs.Jobs.{JobTree, check_work, plain_check}

pub work-requires-clause-runs : goal.work-requires-clause-runs
work-requires-clause-runs c =
    let rest : Rest = rest_of c.args.self.now in
    let more : rest.given - rest.jobs < begun_in c.in-Built.build = subst (λ n. rest.given - rest.jobs < n) c.begun.ensures.begun c.if-before-begun.false in
    let runs = number_runs rest c.requires.settled c.in-Some.head c.in-Built.build c.in-Built.field-1 c.in-Some.is c.in-Built.is more in
    let number : suc (rest.given - rest.jobs) ≡ rest.given - rest.jobs + 1 = omega (arith) in
    (runs.0, subst (λ n. Runs c.in-Built.build n runs.0) number runs.1)

pub returns-clause-needed : goal.returns-clause-needed
returns-clause-needed c =
    let rest : Rest = rest_of c.args.self.now in
    let more : rest.given - rest.jobs < begun_in c.in-Built.build = subst (λ n. rest.given - rest.jobs < n) c.begun.ensures.begun c.if-before-begun.false in
    let next = c.in-Some-checked_add.ensures in
    let is_next = next.1 in
    let given : suc rest.given ≡ c.in-Some-checked_add.given = omega (arith, is_next) in
    let below : rest.given < 18446744073709551615 = let few = next.0 in omega (arith, few) in
    let number : rest.given - rest.jobs + 1 ≡ suc (rest.given - rest.jobs) = omega (arith) in
    let job : JobTree = record { number = rest.given; work = check_work (plain_check c.in_ok-work.field-0) } in
    let own : IsOwnWork c.in-Built.build (suc (rest.given - rest.jobs)) (plain_check c.in_ok-work.field-0)
    = subst (λ n. IsOwnWork c.in-Built.build n (plain_check c.in_ok-work.field-0)) number c.in_ok-work.ensures.own in
    let back = job_given rest c.requires.settled c.in-Some.head c.in-Built.build c.in-Built.field-1 c.in-Some.is c.in-Built.is more job refl own in
    let awaited = job_awaited rest c.requires.settled c.in-Some.head c.in-Built.build c.in-Built.field-1 c.in-Some.is c.in-Built.is more in
    (refl, below, subst (λ n. IsBack (record rest { given = n }) job) given back, ap (λ n. record rest { given = n }) (sym given), subst (λ n. Awaits (record rest { given = n }) rest.given) given awaited)
