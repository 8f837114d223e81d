use Rattle.std.specs.Prelude.{◌≡◌, drop, Some}
use Rattle.oberon_types.specs.Folding.{with_ranges}
use Rattle.oberon_types.specs.Constants.{ranges_list}
use Rattle.oberon_types.proofs.fold.+value.Given as goal

abbrev pub invariant-with_ranges-loop-first : goal.invariant-with_ranges-loop-first
invariant-with_ranges-loop-first l = with_ranges (Some 0) (ranges_list l.ranges) ≡ with_ranges l.set (ranges_list (drop l.first-index l.ranges))
