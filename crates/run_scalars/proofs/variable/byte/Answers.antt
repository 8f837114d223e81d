use Rattle.std.proofs.Common.{rules}
use Rattle.run_scalars.proofs.variable.byte.Goals as goal

pub returns-else-is_byte : goal.returns-else-is_byte
returns-else-is_byte c = search rules
