use Rattle.std.proofs.Common.{take}
use Rattle.session_build.specs.Cleaning.{AreKeysAt}
use Rattle.session_build.proofs.cleaning.keys_at.Given as goal

abbrev pub invariant-loop-index : goal.invariant-loop-index
invariant-loop-index l = AreKeysAt l.workspace.targets (take l.index-index l.pairs) l.keys.keys
