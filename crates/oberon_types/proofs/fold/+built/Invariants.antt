use Rattle.std.specs.Prelude.{◌≡◌, drop}
use Rattle.oberon_types.specs.Folding.{are_built, parts_built}
use Rattle.oberon_types.specs.Constants.{ranges_list, parts_list}
use Rattle.oberon_types.proofs.fold.+built.Given as goal

abbrev pub invariant-are_built-loop-first : goal.invariant-are_built-loop-first
invariant-are_built-loop-first l = are_built (ranges_list l.ranges) ≡ are_built (ranges_list (drop l.first-index l.ranges))

abbrev pub invariant-parts_built-loop-part : goal.invariant-parts_built-loop-part
invariant-parts_built-loop-part l = parts_built (parts_list l.parts) ≡ parts_built (parts_list (drop l.part-index l.parts))
