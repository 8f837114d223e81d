use Rattle.build_plan.specs.Lists.{lists}
use Rattle.build_plan.proofs.links.Links.new.Given as goal
use Rattle.build_plan.proofs.TurnedLaws.{AreTurnedTo}

abbrev pub invariant-loop-place : goal.invariant-loop-place
invariant-loop-place l = AreTurnedTo (lists l.imports) l.place (lists l.importers)
