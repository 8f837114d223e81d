use Rattle.reload_rules.proofs.SameLaws.{decided}
use Rattle.reload_rules.proofs.laws.same_where_all_is.Goals as goal

pub returns : goal.returns
returns c = decided
