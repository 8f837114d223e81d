use Rattle.std.proofs.Common.{map, take}
use Rattle.session_build.specs.Cancels.{checks_said}
use Rattle.build_messages.specs.Outgoing.{outgoing_said}
use Rattle.session_build.specs.Telling.{TellsBehind}
use Rattle.session_build.proofs.cancelling.cancel_checks.Given as goal

abbrev pub invariant-loop-job : goal.invariant-loop-job
invariant-loop-job l = TellsBehind (checks_said l.at (take l.job-index l.jobs)) (map outgoing_said l.fn.out.items) (map outgoing_said l.out.items)
