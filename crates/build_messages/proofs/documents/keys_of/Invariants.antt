use Rattle.std.proofs.Common.{◌≡◌, map, take}
use Rattle.build_messages.proofs.DocumentLaws.{key_at}
use Rattle.build_messages.proofs.documents.keys_of.Given as goal

abbrev pub invariant-loop-pair : goal.invariant-loop-pair
invariant-loop-pair l = l.keys.items ≡ map (key_at l.workspace) (take l.pair-index l.pairs)
