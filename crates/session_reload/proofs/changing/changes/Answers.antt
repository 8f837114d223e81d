use Rattle.session_reload.proofs.ChangeLaws.{all_valid}
use Rattle.session_reload.proofs.changing.changes.Goals as goal

pub returns-clause-valid : goal.returns-clause-valid
returns-clause-valid c = all_valid c.targets.result.now c.targets-2.result.now c.targets.ensures.valid c.targets-2.ensures.valid c.changes_of.result c.changes_of.ensures.changes
