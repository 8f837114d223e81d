use Rattle.std.proofs.Common.{◌≡◌, take}
use Rattle.build_messages.proofs.publishing.copy_of.Given as goal

abbrev pub invariant-loop-diagnostic : goal.invariant-loop-diagnostic
invariant-loop-diagnostic l = l.own.items ≡ take l.diagnostic-index l.list
