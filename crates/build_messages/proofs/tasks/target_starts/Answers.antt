use Rattle.std.proofs.Common.{◌≡◌, rules, subst}
use Rattle.std.specs.Prelude.{IfOk}
use Rattle.bsp_address.specs.Address.{IsAddress}
use Rattle.session_law.proofs.TaskFrames.{framed_target_starts}
use Rattle.session_law.specs.Tasks.{target_starts}
use Rattle.build_messages.proofs.TellingLaws.{said_framed}
use Rattle.build_messages.specs.Outgoing.{outgoing_said}
use Rattle.build_messages.proofs.tasks.target_starts.Goals as goal

pub returns-clause-framed : goal.returns-clause-framed
returns-clause-framed c =
    let said : IfOk c.start.result (λ m. outgoing_said m ≡ target_starts c.args.build c.args.number c.args.id.now) = search rules in
    said_framed c.start.result (target_starts c.args.build c.args.number c.args.id.now) (framed_target_starts c.args.build c.args.number c.args.id.now (subst IsAddress c.as_text.ensures.text c.as_text.ensures.address)) said
