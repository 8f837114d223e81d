use Rattle.std.proofs.Common.{rules}
use Rattle.run_scalars.proofs.set.with_element.Goals as goal

pub returns-in-Take : goal.returns-in-Take
returns-in-Take c = search rules
