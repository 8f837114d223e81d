use Rattle.std.proofs.Common.{◌-◌, length}
use Rattle.oberon_scan.proofs.Nesting.{Skipped}
use Rattle.oberon_scan.proofs.comment.after_comment.Given as goal

abbrev pub invariant-loop-at : goal.invariant-loop-at
invariant-loop-at l = Skipped l.body l.at l.depth

abbrev pub decreases-loop-at : goal.decreases-loop-at
decreases-loop-at l = length l.body - l.at
