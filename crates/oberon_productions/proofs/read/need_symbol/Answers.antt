use Rattle.oberon_productions.proofs.Descending.{lacks_symbol}
use Rattle.oberon_productions.proofs.read.need_symbol.Goals as goal

pub returns-in-None : goal.returns-in-None
returns-in-None c = lacks_symbol c.args.wanted c.args.given.now c.in-None.ensures.none
