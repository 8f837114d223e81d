use Rattle.std.proofs.Common.{map, take}
use Rattle.reload_messages.proofs.ClearLaws.{AreCleared}
use Rattle.build_messages.specs.Outgoing.{outgoing_said}
use Rattle.task_stream.specs.Showing.{shows}
use Rattle.reload_messages.proofs.clearing.clear_all.Given as goal

abbrev pub invariant-loop-key : goal.invariant-loop-key
invariant-loop-key l = AreCleared (shows l.initial.shown) (shows l.shown) (take l.key-index l.keys) (map outgoing_said l.initial.told.items) (map outgoing_said l.told.items)
