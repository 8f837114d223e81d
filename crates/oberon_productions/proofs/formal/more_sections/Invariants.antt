use Rattle.std.proofs.Common.{map}
use Rattle.std.proofs.Common.{length}
use Rattle.oberon_productions.specs.Reading.{ReadsSome}
use Rattle.oberon_tree.specs.Print.{print_each, print_next_section}
use Rattle.oberon_tree.specs.Levels.{depth_of_each, depth_of_next_section}
use Rattle.oberon_tree.specs.Memory.{next_section_tree}
use Rattle.oberon_productions.specs.Expected as want
use Rattle.oberon_productions.proofs.formal.more_sections.Given as goal

abbrev pub invariant-loop-semicolon : goal.invariant-loop-semicolon
invariant-loop-semicolon l =
    ReadsSome (want.sections l.levels) l.levels l.given (print_each print_next_section (map next_section_tree l.items.items)) (depth_of_each depth_of_next_section (map next_section_tree l.items.items)) l.rest

abbrev pub decreases-loop-semicolon : goal.decreases-loop-semicolon
decreases-loop-semicolon l = length l.rest
