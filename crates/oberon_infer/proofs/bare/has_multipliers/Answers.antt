use Rattle.oberon_infer.proofs.BareMemory.{some_multipliers}
use Rattle.oberon_infer.proofs.bare.has_multipliers.Goals as goal

pub returns-in-len1-up : goal.returns-in-len1-up
returns-in-len1-up c = some_multipliers c.args.multipliers.now c.in-len1-up.len_at_least
