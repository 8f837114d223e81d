use Rattle.session_core.proofs.Ready.{end_each}
use Rattle.session_core.proofs.Requests.{ready}
use Rattle.session_core.proofs.session.Core.take_end.Goals as goal

pub returns-then-self-clause-lost : goal.returns-then-self-clause-lost
returns-then-self-clause-lost c order whole =
    end_each c.args.self.now order (ready c.args.self.now c.requires.settled c.requires.up c.requires.running c.requires.quiet) whole c.args.how
