use Rattle.std.proofs.Common.{take}
use Rattle.reload_messages.proofs.ToldLaws.{AreEvents}
use Rattle.reload_messages.proofs.telling.events_of.Given as goal

abbrev pub invariant-loop-change : goal.invariant-loop-change
invariant-loop-change l = AreEvents l.workspace.root (take l.change-index l.found) l.events.items
