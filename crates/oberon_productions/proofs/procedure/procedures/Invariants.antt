use Rattle.std.proofs.Common.{map}
use Rattle.std.proofs.Common.{length}
use Rattle.oberon_productions.specs.Reading.{ReadsSome}
use Rattle.oberon_tree.specs.Print.{print_each, print_procedure_item}
use Rattle.oberon_tree.specs.Levels.{depth_of_each, depth_of_procedure_item}
use Rattle.oberon_tree.specs.Memory.{procedure_item_tree}
use Rattle.oberon_productions.specs.Expected as want
use Rattle.oberon_productions.proofs.procedure.procedures.Given as goal

abbrev pub invariant-loop-span : goal.invariant-loop-span
invariant-loop-span l =
    ReadsSome (want.procedures l.levels) l.levels l.given (print_each print_procedure_item (map procedure_item_tree l.items.items)) (depth_of_each depth_of_procedure_item (map procedure_item_tree l.items.items)) l.rest

abbrev pub decreases-loop-span : goal.decreases-loop-span
decreases-loop-span l = length l.rest
