use Rattle.bsp_cli.specs.Progress.{ended, halted}
use Rattle.bsp_cli.proofs.WritingLaws.{outcome_so}
use Rattle.bsp_cli.proofs.serve.Server.finish.Goals as goal

pub returns-in-Ok-clause-finishes : goal.returns-in-Ok-clause-finishes
returns-in-Ok-clause-finishes g c = ended (rw c.how.ensures at c.in-Ok.ensures.steps) c.in-Ok.ensures.met

pub returns-in-Err-clause-finishes : goal.returns-in-Err-clause-finishes
returns-in-Err-clause-finishes g c = halted c.in-Err.stop (rw c.how.ensures at c.in-Err.ensures.stops)

pub returns-in-Err-clause-sink : goal.returns-in-Err-clause-sink
returns-in-Err-clause-sink g c = λ same. c.in-Err.ensures.sink (outcome_so _ _ same)
