use Rattle.std.proofs.Common.{◌++◌, ℕ, List, [], ◌∷◌, map, take, refl, sym, ap, subst, ◌∙◌}
use Rattle.std.proofs.lemmas.List.{take_all}
use Rattle.bsp_records.specs.declared.results.StatusCode.TheVariants as statuses
use Rattle.rpc_peer.specs.Said.{Said}
use Rattle.session_law.specs.IsFramed.{IsFramed}
use Rattle.session_law.specs.Tasks.{check_finishes}
use Rattle.session_build.specs.Cancels.{checks_said}
use Rattle.build_messages.specs.Outgoing.{outgoing_said}
use Rattle.session_build.specs.Telling.{TellsBehind}
use Rattle.session_build.specs.declared.going.Job.{Job}
use Rattle.session_build.proofs.CancelSteps.{checks_more}
use Rattle.session_build.proofs.CourseSteps.{finish_told}
use Rattle.session_build.proofs.TellLaws.{said_push, tells_none, tells_push}
use Rattle.session_build.proofs.cancelling.cancel_checks.Goals as goal

pub loop-job-init : goal.loop-job-init
loop-job-init c = tells_none (map outgoing_said c.args.out.now.items) (map outgoing_said c.args.out.now.items) refl

pub loop-job-preserved : goal.loop-job-preserved
loop-job-preserved c =
    let at = c.args.at.now in
    let jobs : List Job = c.args.jobs.now in
    let k = c.loop-job.job-index in
    let job : Job = c.job-item.result in
    let m : ℕ → ℕ → Said = (λ number target. check_finishes at.number number target statuses.Cancelled) in
    let said = c.in_ok-finish.ensures.said in
    subst (λ (told : List Said). TellsBehind told (map outgoing_said c.args.out.now.items) (map outgoing_said c.push_back.new.self.items))
    (sym (checks_more at jobs k job c.loop-job-test.true ∙ ap (λ (j : Job). checks_said at (take k jobs) ++ m j.number j.target ∷ []) (sym c.job-item.is)))
    (tells_push (checks_said at (take k jobs)) (map outgoing_said c.args.out.now.items) (map outgoing_said c.loop-job.out.items)
    (map outgoing_said c.push_back.new.self.items) (m job.number job.target) c.loop-job.invariant
    (said_push c.loop-job.out.items c.push_back.new.self.items c.in_ok-finish.finish (m job.number job.target) c.in_ok-push_back.ensures.items said)
    (subst IsFramed said c.in_ok-finish.ensures.framed) (finish_told _))

pub returns : goal.returns
returns c =
    subst (λ (jobs : List Job). TellsBehind (checks_said c.args.at.now jobs) (map outgoing_said c.args.out.now.items) (map outgoing_said c.loop-job.out.items))
    (take_all c.loop-job.job-index c.args.jobs.now c.loop-job-test.false) c.loop-job.invariant
