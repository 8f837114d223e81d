use Rattle.std.proofs.Common.{◌≡◌, rules}
use Rattle.std.specs.Prelude.{IfOk}
use Rattle.session_law.proofs.TaskFrames.{framed_build_starts}
use Rattle.session_law.specs.Tasks.{build_starts}
use Rattle.build_messages.proofs.TellingLaws.{said_framed}
use Rattle.build_messages.specs.Outgoing.{outgoing_said}
use Rattle.build_messages.proofs.tasks.build_starts.Goals as goal

pub returns-clause-framed : goal.returns-clause-framed
returns-clause-framed c =
    let said : IfOk c.start.result (λ m. outgoing_said m ≡ build_starts c.args.build) = search rules in
    said_framed c.start.result (build_starts c.args.build) (framed_build_starts c.args.build) said
