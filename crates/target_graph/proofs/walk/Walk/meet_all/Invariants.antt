use Rattle.std.proofs.Common.{◌≡◌, take, length}
use Rattle.target_graph.specs.Met.{met}
use Rattle.target_graph.specs.Walk.{meet_all}
use Rattle.target_graph.proofs.walk.Walk.meet_all.Given as goal

abbrev pub invariant-loop-target : goal.invariant-loop-target
invariant-loop-target l = (met l.self ≡ meet_all (met l.initial.self) (take l.target-index l.targets)) × (length l.self.marks.items ≡ length l.initial.self.marks.items)
