use Rattle.std.proofs.Common.{ℕ, List}
use Rattle.ob_text.specs.declared.held.Held.{Held}
use Rattle.bsp_edge.specs.Trees.{held_in_call}
use Rattle.bsp_edge.proofs.DocumentLaws.{all_readable, paths_handed}
use Rattle.bsp_edge.proofs.mem_tree.MemTreeTree.read_all.Goals as goal

pub returns-clause-paths : goal.returns-clause-paths
returns-clause-paths c =
    let tree = c.args.self.now in
    let held : List ℕ → Held = λ path. held_in_call tree.files tree.changes c.next_call.result path in
    rw c.in_ok-snapshot.ensures (paths_handed held c.args.paths.now)

pub returns-clause-texts : goal.returns-clause-texts
returns-clause-texts c =
    let tree = c.args.self.now in
    let held : List ℕ → Held = λ path. held_in_call tree.files tree.changes c.next_call.result path in
    rw c.in_ok-snapshot.ensures (all_readable held c.args.paths.now)
