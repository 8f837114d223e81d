use Rattle.std.proofs.Common.{map, ap, subst, ◌∙◌}
use Rattle.std.specs.List.{list_any}
use Rattle.session_law.specs.Builds.{build_status}
use Rattle.session_law.specs.IsFramed.{IsFramed}
use Rattle.session_law.specs.Tasks.{build_finishes}
use Rattle.session_build.specs.Ending.{targets_reported}
use Rattle.build_messages.specs.Outgoing.{outgoing_said}
use Rattle.session_build.specs.Tallies.{has_errors}
use Rattle.session_build.proofs.CourseSteps.{finish_told}
use Rattle.session_build.proofs.TellLaws.{said_push, tells_push}
use Rattle.session_build.proofs.ending.end_build.Goals as goal

pub returns-clause-tells : goal.returns-clause-tells
returns-clause-tells c =
    let at = c.args.at.now in
    let tallies = c.args.tallies.now in
    let m = build_finishes at.number (build_status (list_any has_errors tallies)) in
    let said = c.in_ok-finish.ensures.said ∙ ap (build_finishes at.number) (c.status_of.ensures ∙ ap build_status c.has_errors-failed.ensures) in
    tells_push (targets_reported at tallies 1 at.targets.keys) (map outgoing_said c.args.out.now.items) (map outgoing_said c.report_targets.new.out.items)
    (map outgoing_said c.push_back.new.self.items) m c.in_ok-report_targets.ensures
    (said_push c.report_targets.new.out.items c.push_back.new.self.items c.in_ok-finish.finish m c.in_ok-push_back.ensures.items said)
    (subst IsFramed said c.in_ok-finish.ensures.framed) (finish_told _)
