use Rattle.std.proofs.Common.{length, map}
use Rattle.oberon_productions.specs.Reading.{ReadsSome}
use Rattle.oberon_tree.specs.Print.{print_each, print_constant}
use Rattle.oberon_tree.specs.Levels.{depth_of_each, depth_of_constant}
use Rattle.oberon_tree.specs.Memory.{constant_tree}
use Rattle.oberon_productions.specs.Expected as want
use Rattle.oberon_productions.proofs.declaration.more_constants.Given as goal

abbrev pub invariant-loop-items : goal.invariant-loop-items
invariant-loop-items l =
    ReadsSome (want.constants l.levels) l.levels l.given (print_each print_constant (map constant_tree l.items.items)) (depth_of_each depth_of_constant (map constant_tree l.items.items)) l.rest

abbrev pub decreases-loop-items : goal.decreases-loop-items
decreases-loop-items l = length l.rest
