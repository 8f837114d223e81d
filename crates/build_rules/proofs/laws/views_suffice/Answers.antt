use Rattle.build_rules.proofs.Suffice.{suffice}
use Rattle.build_rules.proofs.laws.views_suffice.Goals as goal

pub returns : goal.returns
returns c = λ w apart. suffice w apart
