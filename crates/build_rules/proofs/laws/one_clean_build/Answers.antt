use Rattle.build_rules.proofs.OneState.{determined}
use Rattle.build_rules.proofs.laws.one_clean_build.Goals as goal

pub returns : goal.returns
returns c = λ w apart. determined w c.one_tree.ensures apart
