use Rattle.std.proofs.Common.{length}
use Rattle.oberon_productions.specs.Reading.{ReadsSome}
use Rattle.oberon_tree.specs.Print.{print_each, print_next_label}
use Rattle.oberon_productions.specs.Expected as want
use Rattle.oberon_productions.proofs.label.more_labels.Given as goal

abbrev pub invariant-loop-comma : goal.invariant-loop-comma
invariant-loop-comma l =
    ReadsSome want.labels 0 l.given (print_each print_next_label l.items.items) 0 l.rest

abbrev pub decreases-loop-comma : goal.decreases-loop-comma
decreases-loop-comma l = length l.rest
