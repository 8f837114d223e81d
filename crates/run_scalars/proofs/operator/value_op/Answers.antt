use Rattle.std.proofs.Common.{rules}
use Rattle.run_scalars.proofs.operator.value_op.Goals as goal

pub returns-in-Subtract-Integer : goal.returns-in-Subtract-Integer
returns-in-Subtract-Integer c = search rules
