use Rattle.session_law.proofs.TaskFrames.{task_id_texts}
use Rattle.session_law.specs.Tasks.{task_id, checking}
use Rattle.build_messages.proofs.TellingLaws.{id_texts}
use Rattle.std.proofs.Common.{◌≡◌, rules}
use Rattle.std.specs.Prelude.{IfOk}
use Rattle.build_messages.proofs.tasks.checking_id.Goals as goal

pub returns-clause-texts : goal.returns-clause-texts
returns-clause-texts c =
    let is : IfOk c.inside.result (λ t. t ≡ task_id c.args.build (checking c.args.number c.args.target)) = search rules in
    id_texts c.inside.result (task_id c.args.build (checking c.args.number c.args.target)) (task_id_texts c.args.build (checking c.args.number c.args.target) c.ranges.build.fits (c.ranges.number.fits, c.ranges.target.fits)) is
