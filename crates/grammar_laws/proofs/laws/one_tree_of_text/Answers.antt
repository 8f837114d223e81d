use Rattle.grammar_laws.proofs.OneTree.{one_tree_of_text}
use Rattle.grammar_laws.proofs.laws.one_tree_of_text.Goals as goal

pub returns : goal.returns
returns c = one_tree_of_text
