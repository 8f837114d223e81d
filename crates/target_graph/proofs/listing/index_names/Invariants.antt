use Rattle.std.proofs.Common.{take}
use Rattle.target_graph.specs.Faults.{names_of, IsNameIndex}
use Rattle.target_graph.proofs.listing.index_names.Given as goal

abbrev pub invariant-loop-entry : goal.invariant-loop-entry
invariant-loop-entry l = IsNameIndex l.names.keys (names_of (take l.entry-index l.entries))
