use Rattle.target_graph.proofs.Fronts.{stripped}
use Rattle.target_graph.proofs.address.behind.Goals as goal

pub returns-clause-some : goal.returns-clause-some
returns-clause-some c = (stripped c.args.text.now c.args.front.now c.strip_prefix.result c.strip_prefix.ensures.cases).0

pub returns-clause-none : goal.returns-clause-none
returns-clause-none c = (stripped c.args.text.now c.args.front.now c.strip_prefix.result c.strip_prefix.ensures.cases).1
