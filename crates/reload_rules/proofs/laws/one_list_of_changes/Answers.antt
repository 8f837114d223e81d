use Rattle.reload_rules.proofs.OneList.{changes_once}
use Rattle.reload_rules.proofs.laws.one_list_of_changes.Goals as goal

pub returns : goal.returns
returns c = changes_once
