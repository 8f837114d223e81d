use Rattle.std.proofs.Common.{◌++◌, ◌∷◌, [], List, map, subst}
use Rattle.bsp_records.specs.declared.results.StatusCode.TheVariants as statuses
use Rattle.rpc_peer.specs.Said.{Said}
use Rattle.session_law.specs.IsFramed.{IsFramed}
use Rattle.session_law.specs.Tasks.{build_finishes}
use Rattle.session_build.specs.Cancels.{checks_said, targets_said}
use Rattle.build_messages.specs.Outgoing.{outgoing_said}
use Rattle.session_build.proofs.CourseSteps.{finish_told}
use Rattle.session_build.proofs.TellLaws.{said_push, tells_on, tells_push}
use Rattle.session_build.proofs.cancelling.cancel_build.Goals as goal

pub returns-clause-tells : goal.returns-clause-tells
returns-clause-tells c =
    let at = c.args.at.now in
    let jobs = c.args.jobs.now in
    let m = build_finishes at.number statuses.Cancelled in
    let first : List Said = map outgoing_said c.args.out.now.items in
    let second : List Said = map outgoing_said c.cancel_checks.new.out.items in
    let third : List Said = map outgoing_said c.cancel_targets.new.out.items in
    let last : List Said = map outgoing_said c.push_back.new.self.items in
    let said = c.in_ok-finish.ensures.said in
    tells_on (checks_said at jobs) (targets_said at 1 at.targets.keys ++ m ∷ []) first second last c.in_ok-cancel_checks.ensures
    (tells_push (targets_said at 1 at.targets.keys) second third last m c.in_ok-cancel_targets.ensures
    (said_push c.cancel_targets.new.out.items c.push_back.new.self.items c.in_ok-finish.finish m c.in_ok-push_back.ensures.items said)
    (subst IsFramed said c.in_ok-finish.ensures.framed) (finish_told _))
