use Rattle.std.proofs.Common.{◌≡◌, ◌≤◌, length, take}
use Rattle.target_graph.specs.Limits.{dependencies_limit}
use Rattle.target_graph.specs.Faults.{dependencies_of}
use Rattle.target_graph.proofs.listing.has_many_dependencies.Given as goal

abbrev pub invariant-loop-entry : goal.invariant-loop-entry
invariant-loop-entry l = (l.count ≡ length (dependencies_of (take l.entry-index l.entries))) × (l.count ≤ dependencies_limit)
