use Rattle.std.proofs.Common.{◌-◌, length}
use Rattle.target_graph.proofs.Segments.{Sweeps}
use Rattle.target_graph.proofs.names.has_segments.Given as goal

abbrev pub invariant-sweep : goal.invariant-sweep
invariant-sweep l = Sweeps l.path l.start l.at

abbrev pub decreases-sweep : goal.decreases-sweep
decreases-sweep l = length l.path - l.at
