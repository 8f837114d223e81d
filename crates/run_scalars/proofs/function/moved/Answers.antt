use Rattle.std.proofs.Common.{rules}
use Rattle.run_scalars.proofs.function.moved.Goals as goal

pub returns-in-Asr : goal.returns-in-Asr
returns-in-Asr c = search rules
