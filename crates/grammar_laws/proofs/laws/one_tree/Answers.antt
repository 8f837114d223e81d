use Rattle.grammar_laws.proofs.OneTree.{one_tree}
use Rattle.grammar_laws.proofs.laws.one_tree.Goals as goal

pub returns : goal.returns
returns c = one_tree
