use Rattle.std.proofs.Common.{length}
use Rattle.oberon_productions.proofs.OpenArrays.{ReadsOpens}
use Rattle.oberon_productions.proofs.formal.opens.Given as goal

abbrev pub invariant-loop-span : goal.invariant-loop-span
invariant-loop-span l =
    ReadsOpens l.levels l.left l.given l.items.items l.rest

abbrev pub decreases-loop-span : goal.decreases-loop-span
decreases-loop-span l = length l.rest
