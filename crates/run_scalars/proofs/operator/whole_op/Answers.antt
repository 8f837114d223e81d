use Rattle.std.proofs.Common.{rules}
use Rattle.run_scalars.proofs.operator.whole_op.Goals as goal

pub returns-in-Add : goal.returns-in-Add
returns-in-Add c = search rules

pub returns-in-Subtract : goal.returns-in-Subtract
returns-in-Subtract c = search rules

pub returns-then-y-gt0 : goal.returns-then-y-gt0
returns-then-y-gt0 c = search rules
