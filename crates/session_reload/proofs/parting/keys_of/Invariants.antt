use Rattle.std.proofs.Common.{take}
use Rattle.session_reload.specs.Keys.{AreKeys}
use Rattle.session_reload.proofs.parting.keys_of.Given as goal

abbrev pub invariant-loop-target : goal.invariant-loop-target
invariant-loop-target l = AreKeys l.keys.keys (take l.target-index l.targets)
