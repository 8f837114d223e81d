use Rattle.oberon_productions.proofs.Descending.{lacks_word}
use Rattle.oberon_productions.proofs.read.need_word.Goals as goal

pub returns-in-None : goal.returns-in-None
returns-in-None c = lacks_word c.args.wanted c.args.given.now c.in-None.ensures.none
