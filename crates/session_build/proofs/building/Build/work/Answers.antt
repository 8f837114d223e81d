use Rattle.std.proofs.Common.{List, subst}
use Rattle.std.specs.List.{Contains}
use Rattle.std.proofs.lemmas.List.Elements.{All-contains}
use Rattle.build_checks.specs.Stand.{IsClear, modules_of, settled_of, world_of}
use Rattle.session_build.specs.Going.{IsJob, numbers_of}
use Rattle.session_build.specs.declared.going.Job.{Job}
use Rattle.session_law.proofs.ListLaws.{contains_map}
use Rattle.session_build.proofs.RestLaws.{work_is, work_own}
use Rattle.worker_pool.specs.Jobs.{plain_check}
use Rattle.session_build.proofs.building.Build.work.Goals as goal

pub pair_of-pair-requires : goal.pair_of-pair-requires
pair_of-pair-requires c =
    let jobs : List Job = c.args.self.now.going.jobs.items in
    let runs = c.requires.runs.1 in
    subst (Contains (numbers_of jobs)) runs.number_is (contains_map (λ (j : Job). j.number) jobs runs.job runs.there)

pub work-requires-clause-among : goal.work-requires-clause-among
work-requires-clause-among c =
    let going = c.args.self.now.going in
    let here = c.pair_of-pair.ensures in
    subst (Contains (modules_of going.checks)) here.pair_is (All-contains (IsJob going.checks) going.jobs.items here.job c.requires.rests.sound.each here.there).among

pub work-requires-clause-clear : goal.work-requires-clause-clear
work-requires-clause-clear c =
    let going = c.args.self.now.going in
    let here = c.pair_of-pair.ensures in
    subst (IsClear (world_of going.checks) (settled_of going.checks)) here.pair_is (All-contains (IsJob going.checks) going.jobs.items here.job c.requires.rests.sound.each here.there).clear

pub returns-clause-own : goal.returns-clause-own
returns-clause-own c =
    work_own c.args.self.now c.requires.rests c.args.number c.pair_of-pair.result c.pair_of-pair.ensures (plain_check c.in_ok-check.check) c.in_ok-check.ensures.work

pub returns-clause-work : goal.returns-clause-work
returns-clause-work c =
    work_is c.args.self.now c.args.number (plain_check c.in_ok-check.check)
    (work_own c.args.self.now c.requires.rests c.args.number c.pair_of-pair.result c.pair_of-pair.ensures (plain_check c.in_ok-check.check) c.in_ok-check.ensures.work)
