use Rattle.std.proofs.Common.{◌≡◌, inr, ap, subst, sym, ◌∙◌}
use Rattle.std.proofs.lemmas.Result.{on_err_weaker, on_ok_weaker}
use Rattle.session_core.proofs.Bare.{went_one}
use Rattle.session_core.proofs.Continued.{build_rests, check_runs, check_work_is, continued, origin_short, was_head}
use Rattle.session_core.proofs.Giving.{still_awaited, still_awaits, still_back, went_sound}
use Rattle.session_core.proofs.Resting.{goes_on}
use Rattle.session_core.proofs.Settling.{on_ok_both}
use Rattle.session_core.specs.Building.{GoesOnBy, TookBuild}
use Rattle.session_core.specs.Standing.{IsQuiet}
use Rattle.session_core.specs.declared.session.Core.{Core}
use Rattle.session_law.specs.Verdicts.{FinishesOneFirst}
use Rattle.worker_pool.specs.Outcomes.{OutcomeParts}
use Rattle.session_core.specs.Settled.{IsWorkOf}
use Rattle.worker_pool.specs.Jobs.{check_work, plain_check}
use Rattle.worker_pool.specs.Plain.{plain_job, plain_work}
use Rattle.session_core.proofs.session.Core.take_outcome.Goals as goal

pub go_on-requires-clause-runs : goal.go_on-requires-clause-runs
go_on-requires-clause-runs c =
    let took : TookBuild c.args.self.now c.take_build.new.self c.args.outcome.job.number c.in-Some.found
    = subst (λ n. TookBuild c.args.self.now c.take_build.new.self n c.in-Some.found) (sym (ap (λ (o : OutcomeParts). o.job.number) c.into_parts-job.ensures.parts)) c.in-Some.ensures.some in
    check_runs c.args.self.now c.take_build.new.self (plain_job c.args.outcome.job) c.in-Some.found took c.requires.settled c.requires.back

pub returns-clause-ok : goal.returns-clause-ok
returns-clause-ok c =
    let old = c.args.self.now in
    let it = c.in-Some.found in
    let took : TookBuild old c.take_build.new.self c.args.outcome.job.number it
    = subst (λ n. TookBuild old c.take_build.new.self n it) (sym (ap (λ (o : OutcomeParts). o.job.number) c.into_parts-job.ensures.parts)) c.in-Some.ensures.some in
    let work_is : plain_work c.args.outcome.job.work ≡ check_work (plain_check c.check_of.result)
    = ap (λ (o : OutcomeParts). plain_work o.job.work) c.into_parts-job.ensures.parts ∙ sym c.check_of.ensures in
    on_ok_weaker c.take_up_next.result
    (λ carries order whole. carries order
    (continued old c.go_on.new.self it (was_head old c.take_build.new.self (plain_job c.args.outcome.job) it took c.requires.settled c.requires.back) c.requires.quiet
    (goes_on old c.requires.settled.sound).waiting (plain_check c.check_of.result) (subst (λ w. IsWorkOf it.build it.check w) work_is (check_work_is old c.take_build.new.self (plain_job c.args.outcome.job) it took c.requires.settled c.requires.back)) (subst (λ (core : Core). GoesOnBy core c.go_on.new.self it (plain_check c.check_of.result)) took.same c.in_ok-go_on.ensures.ok) (origin_short old c.take_build.new.self (plain_job c.args.outcome.job) it took c.requires.settled c.requires.back) order whole))
    c.take_up_next.ensures.ok

pub returns-clause-lost : goal.returns-clause-lost
returns-clause-lost c =
    let old = c.args.self.now in
    let it = c.in-Some.found in
    let took : TookBuild old c.take_build.new.self c.args.outcome.job.number it
    = subst (λ n. TookBuild old c.take_build.new.self n it) (sym (ap (λ (o : OutcomeParts). o.job.number) c.into_parts-job.ensures.parts)) c.in-Some.ensures.some in
    let work_is : plain_work c.args.outcome.job.work ≡ check_work (plain_check c.check_of.result)
    = ap (λ (o : OutcomeParts). plain_work o.job.work) c.into_parts-job.ensures.parts ∙ sym c.check_of.ensures in
    on_err_weaker c.take_up_next.result
    (λ loses order whole. loses order
    (continued old c.go_on.new.self it (was_head old c.take_build.new.self (plain_job c.args.outcome.job) it took c.requires.settled c.requires.back) c.requires.quiet
    (goes_on old c.requires.settled.sound).waiting (plain_check c.check_of.result) (subst (λ w. IsWorkOf it.build it.check w) work_is (check_work_is old c.take_build.new.self (plain_job c.args.outcome.job) it took c.requires.settled c.requires.back)) (subst (λ (core : Core). GoesOnBy core c.go_on.new.self it (plain_check c.check_of.result)) took.same c.in_ok-go_on.ensures.ok) (origin_short old c.take_build.new.self (plain_job c.args.outcome.job) it took c.requires.settled c.requires.back) order whole))
    c.take_up_next.ensures.lost

pub returns-clause-back : goal.returns-clause-back
returns-clause-back c =
    let old = c.args.self.now in
    let it = c.in-Some.found in
    let took : TookBuild old c.take_build.new.self c.args.outcome.job.number it
    = subst (λ n. TookBuild old c.take_build.new.self n it) (sym (ap (λ (o : OutcomeParts). o.job.number) c.into_parts-job.ensures.parts)) c.in-Some.ensures.some in
    on_ok_weaker c.take_up_next.result
    (λ stays job back other.
    still_back old c.go_on.new.self c.take_up_next.new.self it c.args.outcome.job.number (was_head old c.take_build.new.self (plain_job c.args.outcome.job) it took c.requires.settled c.requires.back) took.at took.some
    (build_rests old c.take_build.new.self (plain_job c.args.outcome.job) it took c.requires.settled c.requires.back) c.requires.needs (plain_check c.check_of.result)
    (subst (λ (core : Core). GoesOnBy core c.go_on.new.self it (plain_check c.check_of.result)) took.same c.in_ok-go_on.ensures.ok) stays c.take_up_next.ensures.beside.jobs job back other)
    c.take_up_next.ensures.stays

pub returns-clause-awaits : goal.returns-clause-awaits
returns-clause-awaits c =
    let old = c.args.self.now in
    let it = c.in-Some.found in
    let took : TookBuild old c.take_build.new.self c.args.outcome.job.number it
    = subst (λ n. TookBuild old c.take_build.new.self n it) (sym (ap (λ (o : OutcomeParts). o.job.number) c.into_parts-job.ensures.parts)) c.in-Some.ensures.some in
    on_ok_weaker c.take_up_next.result
    (λ stays number awaits.
    still_awaits old c.go_on.new.self c.take_up_next.new.self it c.args.outcome.job.number (was_head old c.take_build.new.self (plain_job c.args.outcome.job) it took c.requires.settled c.requires.back) took.at took.some
    (build_rests old c.take_build.new.self (plain_job c.args.outcome.job) it took c.requires.settled c.requires.back) c.requires.needs (plain_check c.check_of.result)
    (subst (λ (core : Core). GoesOnBy core c.go_on.new.self it (plain_check c.check_of.result)) took.same c.in_ok-go_on.ensures.ok) stays c.take_up_next.ensures.beside.jobs number awaits)
    c.take_up_next.ensures.stays

pub take_up_next-requires-clause-sound : goal.take_up_next-requires-clause-sound
take_up_next-requires-clause-sound c =
    let old = c.args.self.now in
    let it = c.in-Some.found in
    let took : TookBuild old c.take_build.new.self c.args.outcome.job.number it
    = subst (λ n. TookBuild old c.take_build.new.self n it) (sym (ap (λ (o : OutcomeParts). o.job.number) c.into_parts-job.ensures.parts)) c.in-Some.ensures.some in
    went_sound old c.go_on.new.self it (was_head old c.take_build.new.self (plain_job c.args.outcome.job) it took c.requires.settled c.requires.back) c.requires.settled.sound c.requires.needs
    (plain_check c.check_of.result) (subst (λ (core : Core). GoesOnBy core c.go_on.new.self it (plain_check c.check_of.result)) took.same c.in_ok-go_on.ensures.ok)

pub returns-clause-others : goal.returns-clause-others
returns-clause-others c =
    let old = c.args.self.now in
    let it = c.in-Some.found in
    let took : TookBuild old c.take_build.new.self c.args.outcome.job.number it
    = subst (λ n. TookBuild old c.take_build.new.self n it) (sym (ap (λ (o : OutcomeParts). o.job.number) c.into_parts-job.ensures.parts)) c.in-Some.ensures.some in
    on_ok_weaker c.take_up_next.result
    (λ both number awaits other.
    still_awaited old c.go_on.new.self c.take_up_next.new.self it c.args.outcome.job.number (was_head old c.take_build.new.self (plain_job c.args.outcome.job) it took c.requires.settled c.requires.back) took.at took.some
    (build_rests old c.take_build.new.self (plain_job c.args.outcome.job) it took c.requires.settled c.requires.back) c.requires.needs (plain_check c.check_of.result)
    (subst (λ (core : Core). GoesOnBy core c.go_on.new.self it (plain_check c.check_of.result)) took.same c.in_ok-go_on.ensures.ok) both.0 c.take_up_next.ensures.beside.jobs both.1 number awaits other)
    (on_ok_both _ _ c.take_up_next.result c.take_up_next.ensures.stays c.take_up_next.ensures.build)

pub returns-clause-one : goal.returns-clause-one
returns-clause-one c =
    let old = c.args.self.now in
    let it = c.in-Some.found in
    let went = c.in_ok-go_on.ensures.ok in
    let quiet : IsQuiet c.take_build.new.self = ap (λ (core : Core). core.out.items) c.in-Some.ensures.some.same ∙ c.requires.quiet in
    let told : FinishesOneFirst went.told = subst FinishesOneFirst (sym went.gone.tells.are) went.gone.one in
    on_ok_weaker c.take_up_next.result
    (λ stays. inr (stays.one (went_one (record c.take_build.new.self { kept = c.go_on.new.self.kept; shown = c.go_on.new.self.shown }) c.go_on.new.self it.id it.number it.origin went.went went.told quiet went.goes told)))
    c.take_up_next.ensures.bare
