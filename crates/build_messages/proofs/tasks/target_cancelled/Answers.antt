use Rattle.std.proofs.Common.{◌≡◌, rules}
use Rattle.std.specs.Prelude.{IfOk}
use Rattle.session_law.proofs.TaskFrames.{framed_target_cancelled}
use Rattle.session_law.specs.Tasks.{target_cancelled}
use Rattle.build_messages.proofs.TellingLaws.{said_framed}
use Rattle.build_messages.specs.Outgoing.{outgoing_said}
use Rattle.build_messages.proofs.tasks.target_cancelled.Goals as goal

pub returns-clause-framed : goal.returns-clause-framed
returns-clause-framed c =
    let said : IfOk c.finish.result (λ m. outgoing_said m ≡ target_cancelled c.args.build c.args.number) = search rules in
    said_framed c.finish.result (target_cancelled c.args.build c.args.number) (framed_target_cancelled c.args.build c.args.number) said
