use Rattle.std.proofs.Common.{take}
use Rattle.std.specs.List.{All}
use Rattle.task_stream.specs.Waiting.{IsShortDiagnostic}
use Rattle.task_stream.proofs.shown.read_ranges.Given as goal

abbrev pub invariant-loop-diagnostic : goal.invariant-loop-diagnostic
invariant-loop-diagnostic l = All IsShortDiagnostic (take l.diagnostic-index l.list)
