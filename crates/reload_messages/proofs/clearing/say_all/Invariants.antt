use Rattle.std.proofs.Common.{◌≡◌, ◌++◌, map}
use Rattle.session_law.specs.Builds.{publication_said}
use Rattle.build_messages.specs.Outgoing.{outgoing_said}
use Rattle.reload_messages.proofs.clearing.say_all.Given as goal

abbrev pub invariant-loop-piece : goal.invariant-loop-piece
invariant-loop-piece l = map outgoing_said l.told.items ≡ map outgoing_said l.initial.told.items ++ map publication_said l.yielded
