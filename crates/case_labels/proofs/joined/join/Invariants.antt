use Rattle.std.proofs.Common.{length}
use Rattle.case_labels.specs.Joins.{Joins}
use Rattle.case_labels.proofs.joined.join.Given as goal

abbrev pub invariant-loop-met : goal.invariant-loop-met
invariant-loop-met l = Joins l.low l.high l.initial.firsts.entries l.firsts.entries l.joined

abbrev pub decreases-loop-met : goal.decreases-loop-met
decreases-loop-met l = length l.firsts.entries
