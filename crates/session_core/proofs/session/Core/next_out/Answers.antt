use Rattle.session_core.proofs.AtRest.{first_framed}
use Rattle.session_core.proofs.session.Core.next_out.Goals as goal

pub returns-clause-framed : goal.returns-clause-framed
returns-clause-framed c order stands = first_framed c.args.self.now c.pop_front.result c.pop_front.new.self.items order c.pop_front.ensures.items stands
