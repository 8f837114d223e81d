use Rattle.std.proofs.Common.{◌≡◌, ◌≤◌, length, take}
use Rattle.target_graph.specs.Limits.{pairs_limit}
use Rattle.target_graph.specs.Faults.{modules_of}
use Rattle.target_graph.proofs.listing.has_many_modules.Given as goal

abbrev pub invariant-loop-entry : goal.invariant-loop-entry
invariant-loop-entry l = (l.count ≡ length (modules_of (take l.entry-index l.entries))) × (l.count ≤ pairs_limit)
