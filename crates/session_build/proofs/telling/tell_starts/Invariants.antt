use Rattle.std.proofs.Common.{◌∷◌, map, take}
use Rattle.session_law.specs.Tasks.{build_starts}
use Rattle.build_messages.specs.Outgoing.{outgoing_said}
use Rattle.session_build.specs.Telling.{TellsBehind, starts_from}
use Rattle.session_build.proofs.telling.tell_starts.Given as goal

abbrev pub invariant-loop-before : goal.invariant-loop-before
invariant-loop-before l =
    TellsBehind (build_starts l.at.number ∷ starts_from l.at 1 (take l.before l.at.targets.keys)) (map outgoing_said l.fn.out.items) (map outgoing_said l.out.items)
