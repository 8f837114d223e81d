use Rattle.std.proofs.Common.{◌∷◌, ℕ, List, map, ap, sym, subst, ◌∙◌}
use Rattle.std.specs.Prelude.{Vec}
use Rattle.std.specs.declared.alloc.Global.{Global}
use Rattle.build_checks.specs.Kept.{AreNumbered, IsKept}
use Rattle.build_checks.specs.Stand.{left_of}
use Rattle.build_checks.specs.Work.{IsWorkOf}
use Rattle.build_checks.specs.declared.checks.Checks.{Checks}
use Rattle.build_rules.specs.Locality.{IsApart}
use Rattle.build_rules.specs.World.{World}
use Rattle.session_build.specs.Going.{AreSound, KeepsViews, NoneCanBeTaken, TakesOut}
use Rattle.build_messages.specs.Outgoing.{outgoing_said}
use Rattle.session_build.specs.declared.going.Going.{Going}
use Rattle.session_build.specs.declared.going.Job.{Job}
use Rattle.session_build.proofs.GoesLaws.{outcome_goes}
use Rattle.session_build.proofs.JobLaws.{finishes}
use Rattle.session_build.proofs.SoundLaws.{taken_sound}
use Rattle.task_stream.specs.Showing.{shows}
use Rattle.worker_pool.specs.Jobs.{plain_check}
use Rattle.session_build.proofs.going.Going.outcome.Goals as goal

pub finish-requires-clause-sound : goal.finish-requires-clause-sound
finish-requires-clause-sound c =
    let old = c.args.self.now in
    let job = c.take_job-job.result in
    subst (λ (x : Going). AreSound c.args.at.now x.checks (job ∷ c.take_job-job.new.self.jobs.items) x.tallies.items) (sym c.take_job-job.ensures.others)
    (taken_sound c.args.at.now old.checks old.jobs.items c.take_job-job.new.self.jobs.items job old.tallies.items c.take_job-job.ensures.jobs c.requires.sound)

pub finish-requires-clause-none : goal.finish-requires-clause-none
finish-requires-clause-none c = subst (λ (x : Going). NoneCanBeTaken x.checks) (sym c.take_job-job.ensures.others) c.requires.none

pub returns-clause-goes : goal.returns-clause-goes
returns-clause-goes c =
    outcome_goes c.args.at.now c.requires.setting c.args.cache.now c.args.number (plain_check c.args.check) c.in_ok-fact.fact c.args.self.now c.take_job-job.new.self c.finish.new.self c.take_all.new.self c.take_job-job.result
    (map outgoing_said c.args.out.now.items) (map outgoing_said c.finish.new.out.items) (map outgoing_said c.take_all.new.out.items) c.args.keys.now c.finish.new.keys
    c.take_all.new.keys (shows c.args.shown.now) (shows c.finish.new.shown) (shows c.take_all.new.shown) c.requires.sound.space
    (subst (λ (is : List (List ℕ × ℕ)). (keys : List (List ℕ)) (w : World) (p : ℕ) → IsApart w → IsWorkOf w p (plain_check c.args.check) → AreNumbered keys w p is → IsKept keys w p c.in_ok-fact.fact)
    c.as_slice.ensures.value c.in_ok-fact.ensures.kept) c.take_job-job.ensures.jobs c.take_job-job.ensures.others
    c.take_job-job.ensures.number c.in_ok-finish.ensures.goes c.in_ok-take_all.ensures.goes

pub returns-clause-jobs : goal.returns-clause-jobs
returns-clause-jobs c =
    let old = c.args.self.now in
    let job : Job = c.take_job-job.result in
    finishes old c.finish.new.self c.take_all.new.self job c.args.number
    (subst (λ (v : Vec Job Global). TakesOut old.jobs.items v.items job) (sym c.in_ok-finish.ensures.jobs) c.take_job-job.ensures.jobs) c.take_job-job.ensures.number
    (c.in_ok-finish.ensures.begun ∙ ap (λ (x : Going). x.begun) c.take_job-job.ensures.others)
    (c.in_ok-finish.ensures.left ∙ ap (λ (x : Going). left_of x.checks) c.take_job-job.ensures.others)
    (subst (λ (k : Checks). KeepsViews k c.finish.new.self.checks) (ap (λ (x : Going). x.checks) c.take_job-job.ensures.others) c.in_ok-finish.ensures.keeps) c.in_ok-take_all.ensures.jobs c.in_ok-take_all.ensures.left
