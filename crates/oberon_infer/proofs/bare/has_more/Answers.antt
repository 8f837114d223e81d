use Rattle.oberon_infer.proofs.BareMemory.{some_more}
use Rattle.oberon_infer.proofs.bare.has_more.Goals as goal

pub returns-in-len1-up : goal.returns-in-len1-up
returns-in-len1-up c = some_more c.args.exprs.now c.in-len1-up.len_at_least
