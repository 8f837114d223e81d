-- Why a run is over, and the exit status that it ends with.
use Rattle.std.specs.Prelude.{ℕ, true, false, Result, Ok, Err}
use Rattle.ob_text.specs.declared.no_memory.NoMemory.{NoMemory}
use Rattle.session_law.specs.declared.InputEnd.{InputEnd}
use Rattle.session_law.specs.declared.InputEnd.TheVariants as input_end
use Rattle.bsp_cli.specs.declared.outcome.Ending.{Ending}
use Rattle.bsp_cli.specs.declared.outcome.Ending.TheVariants as ending
use Rattle.bsp_cli.specs.declared.outcome.Outcome.{Outcome}
use Rattle.bsp_cli.specs.declared.outcome.Outcome.TheVariants.{Exited, InputEnded, Stopped, Unasked}
use Rattle.bsp_cli.specs.declared.run.Ended.{Ended}
use Rattle.bsp_cli.specs.declared.status.Status.{Status}
use Rattle.bsp_cli.specs.declared.status.Status.TheVariants as status
use Rattle.bsp_cli.specs.declared.stop.Stop.TheVariants as stop

-- the exit status of the process
abbrev pub code_of : Status → ℕ
code_of status.Closed = 0
code_of status.Unclosed = 1
code_of status.Damaged = 2
code_of status.InputFailed = 3
code_of status.SinkFailed = 4
code_of status.NoMemory = 5
code_of status.Usage = 6

-- the exit status of a run that is over so
abbrev pub status_by : Outcome → ℕ
status_by (Exited true) = 0
status_by (Exited false) = 1
status_by (InputEnded ending.Border) = 1
status_by (InputEnded (ending.Damaged damage)) = 2
status_by (InputEnded ending.Failed) = 3
status_by (Stopped stop.Sink) = 4
status_by (Stopped stop.NoMemory) = 5
status_by Unasked = 6

-- what the session is told of the end of its input
abbrev pub how_of : Ending → InputEnd
how_of ending.Border = input_end.Border
how_of (ending.Damaged damage) = input_end.Damaged
how_of ending.Failed = input_end.Failed

-- the exit status of the program, which may find no memory before its run
abbrev pub exit_of : Result Ended NoMemory → ℕ
exit_of (Ok ended) = code_of ended.status
exit_of (Err error) = 5
