use Rattle.oberon_infer.proofs.BareMemory.{some_addends}
use Rattle.oberon_infer.proofs.bare.has_addends.Goals as goal

pub returns-in-len1-up : goal.returns-in-len1-up
returns-in-len1-up c = some_addends c.args.addends.now c.in-len1-up.len_at_least
