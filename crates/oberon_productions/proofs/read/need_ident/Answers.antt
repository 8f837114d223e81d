use Rattle.oberon_productions.proofs.Descending.{lacks_ident}
use Rattle.oberon_productions.proofs.read.need_ident.Goals as goal

pub returns-in-None : goal.returns-in-None
returns-in-None c = lacks_ident c.args.given.now (rw c.in-None.is at c.in_ok-found.ensures)
