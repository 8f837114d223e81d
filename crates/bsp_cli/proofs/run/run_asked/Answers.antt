use Rattle.std.proofs.Common.{arith}
use Rattle.bsp_cli.proofs.RunLaws.{served, read_failed, sink_failed, served_within}
use Rattle.bsp_cli.proofs.WritingLaws.{on_ok}
use Rattle.bsp_cli.proofs.run.run_asked.Goals as goal

pub returns-in-Ok-Serve-clause-session : goal.returns-in-Ok-Serve-clause-session
returns-in-Ok-Serve-clause-session g c = on_ok _ _ (served _ _ _ _ _ c.serve-served.result.outcome c.serve-served.result.taken _ c.serve-served.ensures.serves c.note.ensures)

pub returns-in-Ok-Serve-clause-usage : goal.returns-in-Ok-Serve-clause-usage
returns-in-Ok-Serve-clause-usage g c = λ six.
    let within = served_within _ _ _ _ _ c.serve-served.result.outcome c.serve-served.result.taken _ c.serve-served.ensures.serves c.note.ensures in
    absurd (omega (arith, six, within))

pub returns-in-Ok-Serve-clause-within : goal.returns-in-Ok-Serve-clause-within
returns-in-Ok-Serve-clause-within g c = on_ok _ _ (served_within _ _ _ _ _ c.serve-served.result.outcome c.serve-served.result.taken _ c.serve-served.ensures.serves c.note.ensures)

pub returns-in-Ok-Serve-clause-input : goal.returns-in-Ok-Serve-clause-input
returns-in-Ok-Serve-clause-input g c = λ three. read_failed _ _ _ _ _ c.serve-served.result.outcome c.serve-served.result.taken _ c.serve-served.ensures.serves c.note.ensures three

pub returns-in-Ok-Serve-clause-sink : goal.returns-in-Ok-Serve-clause-sink
returns-in-Ok-Serve-clause-sink g c = λ four. sink_failed _ _ _ _ _ _ c.note.ensures c.serve-served.ensures.serves.sink four
