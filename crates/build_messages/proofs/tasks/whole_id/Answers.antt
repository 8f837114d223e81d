use Rattle.std.proofs.Common.{sym, subst}
use Rattle.std.specs.Str.{IsUtf8}
use Rattle.session_law.proofs.TaskFrames.{task_id_texts}
use Rattle.session_law.specs.Tasks.{whole}
use Rattle.build_messages.proofs.tasks.whole_id.Goals as goal

pub returns-clause-texts : goal.returns-clause-texts
returns-clause-texts c =
    record { id = subst IsUtf8 (sym c.in_ok-whole_name.ensures) (task_id_texts c.args.build whole c.ranges.build.fits tt).id; parents = tt }
