use Rattle.std.proofs.Common.{List, map, refl, subst}
use Rattle.std.specs.List.{Contains}
use Rattle.session_build.specs.Going.{numbers_of}
use Rattle.build_messages.specs.Outgoing.{outgoing_said}
use Rattle.session_build.specs.declared.going.Job.{Job}
use Rattle.session_law.proofs.ListLaws.{contains_map}
use Rattle.session_build.proofs.PausedLaws.{gone_on, leaves, rests_of}
use Rattle.task_stream.specs.Showing.{shows}
use Rattle.worker_pool.specs.Jobs.{plain_check}
use Rattle.session_build.proofs.building.Build.outcome.Goals as goal

pub outcome-requires-clause-runs : goal.outcome-requires-clause-runs
outcome-requires-clause-runs c =
    let jobs : List Job = c.args.self.going.jobs.items in
    let runs = c.requires.runs.1 in
    subst (Contains (numbers_of jobs)) runs.number_is (contains_map (λ (j : Job). j.number) jobs runs.job runs.there)

pub go_on-requires : goal.go_on-requires
go_on-requires c = record {
  setting = c.requires.rests.setting;
  sound = c.in_ok-outcome.ensures.sound;
  ordered = c.in_ok-outcome.ensures.jobs.ordered c.requires.rests.ordered;
  none = c.in_ok-outcome.ensures.none;
  through = c.in_ok-outcome.ensures.through;
}

pub returns-clause-went : goal.returns-clause-went
returns-clause-went c =
    gone_on c.args.self c.args.number (plain_check c.args.check) c.outcome.new.self c.in_ok-went.went c.args.kept.now (record c.args.kept.now { keys = c.outcome.new.keys })
    c.go_on.new.kept (shows c.args.shown.now) (shows c.outcome.new.shown) (map outgoing_said c.args.out.now.items) (map outgoing_said c.outcome.new.out.items)
    (map outgoing_said c.go_on.new.out.items) refl refl c.in_ok-outcome.ensures.goes c.in_ok-went.ensures

pub returns-clause-rests : goal.returns-clause-rests
returns-clause-rests c = rests_of (record { at = c.args.self.at; going = c.outcome.new.self }) c.in_ok-went.went c.in_ok-went.ensures.stays

pub returns-clause-jobs : goal.returns-clause-jobs
returns-clause-jobs c =
    leaves c.args.self c.args.number c.outcome.new.self c.in_ok-went.went c.requires.rests.ordered c.in_ok-outcome.ensures.jobs c.in_ok-went.ensures.stays
