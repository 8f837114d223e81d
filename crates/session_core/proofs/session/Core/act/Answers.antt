use Rattle.session_core.proofs.Requests.{ready}
use Rattle.session_core.proofs.Taken.{taken_each}
use Rattle.session_core.proofs.session.Core.act.Goals as goal

pub returns-then-self-clause-lost : goal.returns-then-self-clause-lost
returns-then-self-clause-lost c order whole =
    taken_each c.args.self.now order (ready c.args.self.now c.requires.settled c.requires.up c.requires.running c.requires.quiet) whole c.args.body.now

pub returns-in_default-clause-lost : goal.returns-in_default-clause-lost
returns-in_default-clause-lost c order whole =
    taken_each c.args.self.now order (ready c.args.self.now c.requires.settled c.requires.up c.requires.running c.requires.quiet) whole c.args.body.now

pub returns-in-Err-NoMemory-clause-lost : goal.returns-in-Err-NoMemory-clause-lost
returns-in-Err-NoMemory-clause-lost c order whole =
    taken_each c.args.self.now order (ready c.args.self.now c.requires.settled c.requires.up c.requires.running c.requires.quiet) whole c.args.body.now
