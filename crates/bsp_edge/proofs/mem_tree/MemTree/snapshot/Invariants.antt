use Rattle.std.proofs.Common.{◌≡◌, map, take}
use Rattle.bsp_edge.specs.Documents.{as_handed}
use Rattle.bsp_edge.specs.Trees.{held_in_call}
use Rattle.bsp_edge.proofs.mem_tree.MemTree.snapshot.Given as goal

abbrev pub invariant-loop-path : goal.invariant-loop-path
invariant-loop-path l =
    l.entries.items ≡ map (λ path. (path, as_handed (held_in_call l.self.files l.self.changes l.call path))) (take l.path-index l.paths)
