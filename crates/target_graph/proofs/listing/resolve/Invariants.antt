use Rattle.target_graph.specs.Faults.{IsResolved}
use Rattle.target_graph.proofs.listing.resolve.Given as goal

abbrev pub invariant-loop-entry : goal.invariant-loop-entry
invariant-loop-entry l = IsResolved l.names.keys l.yielded l.targets.items
