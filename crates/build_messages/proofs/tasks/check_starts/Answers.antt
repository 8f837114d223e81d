use Rattle.std.proofs.Common.{◌≡◌, rules, subst}
use Rattle.std.specs.Prelude.{IfOk}
use Rattle.bsp_address.specs.Address.{IsAddress}
use Rattle.session_law.proofs.TaskFrames.{framed_check_starts}
use Rattle.session_law.specs.Tasks.{check_starts}
use Rattle.build_messages.proofs.TellingLaws.{said_framed}
use Rattle.build_messages.specs.Outgoing.{outgoing_said}
use Rattle.build_messages.proofs.tasks.check_starts.Goals as goal

pub returns-clause-framed : goal.returns-clause-framed
returns-clause-framed c =
    let said : IfOk c.start.result (λ m. outgoing_said m ≡ check_starts c.args.build c.args.number c.args.target c.args.document.now) = search rules in
    said_framed c.start.result (check_starts c.args.build c.args.number c.args.target c.args.document.now) (framed_check_starts c.args.build c.args.number c.args.target c.args.document.now (subst IsAddress c.as_text.ensures.text c.as_text.ensures.address)) said
