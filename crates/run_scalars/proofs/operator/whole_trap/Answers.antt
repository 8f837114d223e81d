use Rattle.std.proofs.Common.{rules}
use Rattle.run_scalars.proofs.operator.whole_trap.Goals as goal

pub returns-in-Div : goal.returns-in-Div
returns-in-Div c = search rules
