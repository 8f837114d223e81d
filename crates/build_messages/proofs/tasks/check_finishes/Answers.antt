use Rattle.std.proofs.Common.{◌≡◌, rules}
use Rattle.std.specs.Prelude.{IfOk}
use Rattle.session_law.proofs.TaskFrames.{framed_check_finishes}
use Rattle.session_law.specs.Tasks.{check_finishes}
use Rattle.build_messages.proofs.TellingLaws.{said_framed}
use Rattle.build_messages.specs.Outgoing.{outgoing_said}
use Rattle.build_messages.proofs.tasks.check_finishes.Goals as goal

pub returns-clause-framed : goal.returns-clause-framed
returns-clause-framed c =
    let said : IfOk c.finish.result (λ m. outgoing_said m ≡ check_finishes c.args.build c.args.number c.args.target c.args.status) = search rules in
    said_framed c.finish.result (check_finishes c.args.build c.args.number c.args.target c.args.status) (framed_check_finishes c.args.build c.args.number c.args.target c.args.status) said
