use Rattle.std.proofs.Common.{length, map}
use Rattle.oberon_productions.specs.Reading.{ReadsSome}
use Rattle.oberon_tree.specs.Print.{print_each, print_variable}
use Rattle.oberon_tree.specs.Levels.{depth_of_each, depth_of_variable}
use Rattle.oberon_tree.specs.Memory.{variable_tree}
use Rattle.oberon_productions.specs.Expected as want
use Rattle.oberon_productions.proofs.declaration.more_variables.Given as goal

abbrev pub invariant-loop-items : goal.invariant-loop-items
invariant-loop-items l =
    ReadsSome (want.variables l.levels) l.levels l.given (print_each print_variable (map variable_tree l.items.items)) (depth_of_each depth_of_variable (map variable_tree l.items.items)) l.rest

abbrev pub decreases-loop-items : goal.decreases-loop-items
decreases-loop-items l = length l.rest
