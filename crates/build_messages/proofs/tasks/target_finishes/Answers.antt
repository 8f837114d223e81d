use Rattle.std.proofs.Common.{◌≡◌, rules}
use Rattle.std.specs.Prelude.{IfOk}
use Rattle.bsp_address.proofs.AddressLaws.{address_utf8}
use Rattle.bsp_records.specs.Limits.{origin_limit}
use Rattle.session_law.proofs.TaskFrames.{framed_target_finishes}
use Rattle.session_law.specs.Tasks.{target_finishes}
use Rattle.build_messages.proofs.TellingLaws.{origin_utf8, said_framed}
use Rattle.build_messages.specs.Outgoing.{outgoing_said}
use Rattle.build_messages.proofs.tasks.target_finishes.Goals as goal

pub finish-requires : goal.finish-requires
finish-requires c = record {
  task_id = c.in_ok-compiling_id.ensures.texts;
  body = record { target = address_utf8 c.args.report.target.uri c.requires.target; origin_id = origin_utf8 c.args.report.origin_id origin_limit c.requires.origin };
}

pub returns-clause-framed : goal.returns-clause-framed
returns-clause-framed c =
    let said : IfOk c.finish.result (λ m. outgoing_said m ≡ target_finishes c.args.build c.args.number c.args.report) = search rules in
    said_framed c.finish.result (target_finishes c.args.build c.args.number c.args.report)
    (framed_target_finishes c.args.build c.args.number c.args.report c.requires.target c.requires.origin) said
