use Rattle.bsp_cli.specs.Notes.{whole, failed}
use Rattle.bsp_cli.proofs.run.note.Goals as goal

pub returns-in-Ok : goal.returns-in-Ok
returns-in-Ok g c = rw c.status.ensures (whole c.in-Ok.ensures.given)

pub returns-in-Err : goal.returns-in-Err
returns-in-Err g c = rw c.status-in-Err.ensures (failed c.in-Err.ensures.part c.in-Err.ensures.rose)
