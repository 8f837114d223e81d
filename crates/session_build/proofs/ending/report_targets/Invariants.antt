use Rattle.std.proofs.Common.{map, take}
use Rattle.session_build.specs.Ending.{targets_reported}
use Rattle.build_messages.specs.Outgoing.{outgoing_said}
use Rattle.session_build.specs.Telling.{TellsBehind}
use Rattle.session_build.proofs.ending.report_targets.Given as goal

abbrev pub invariant-loop-index : goal.invariant-loop-index
invariant-loop-index l =
    TellsBehind (targets_reported l.at l.tallies 1 (take l.index l.at.targets.keys)) (map outgoing_said l.fn.out.items) (map outgoing_said l.out.items)
