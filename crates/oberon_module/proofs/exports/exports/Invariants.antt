use Rattle.std.specs.Prelude.{◌≡◌, ◌++◌, map, length}
use Rattle.oberon_types.specs.Memory.{plain_export}
use Rattle.oberon_module.specs.Sorted.{sorted_exports}
use Rattle.oberon_module.proofs.exports.exports.Given as goal

abbrev pub invariant-names : goal.invariant-names
invariant-names l = map plain_export l.entities.entries ++ sorted_exports l.sorted.entries ≡ sorted_exports l.initial.sorted.entries

abbrev pub decreases-names : goal.decreases-names
decreases-names l = length l.sorted.entries
