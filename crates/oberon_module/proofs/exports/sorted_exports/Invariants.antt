use Rattle.std.specs.Prelude.{◌≡◌, ◌≤◌, drop, length}
use Rattle.oberon_module.specs.Sorted.{sorted_exports, written_exports}
use Rattle.oberon_module.proofs.exports.sorted_exports.Given as goal

abbrev pub invariant-loop-index : goal.invariant-loop-index
invariant-loop-index l = record {
  within : l.index ≤ length l.bindings.entries;
  sorted : sorted_exports l.sorted.entries ≡ written_exports (drop l.index l.bindings.entries);
}

abbrev pub decreases-loop-index : goal.decreases-loop-index
decreases-loop-index l = l.index
