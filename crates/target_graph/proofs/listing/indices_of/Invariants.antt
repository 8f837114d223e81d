use Rattle.std.proofs.Common.{◌≡◌, All, Contains, map, take}
use Rattle.target_graph.specs.Faults.{index_of}
use Rattle.target_graph.proofs.listing.indices_of.Given as goal

abbrev pub invariant-loop-name : goal.invariant-loop-name
invariant-loop-name l = (l.indices.items ≡ map (index_of l.names.keys) (take l.name-index l.wanted)) × All (Contains l.names.keys) (take l.name-index l.wanted)
