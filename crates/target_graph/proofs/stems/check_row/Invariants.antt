use Rattle.std.proofs.Common.{◌≡◌, ℕ, ◌<◌, length}
use Rattle.target_graph.specs.Stems.{IsTwice}
use Rattle.target_graph.proofs.SeenStems.{IsSeenTo}
use Rattle.target_graph.proofs.stems.check_row.Given as goal

abbrev pub invariant-loop-index : goal.invariant-loop-index
invariant-loop-index l =
    (length l.seen.items ≡ l.width) × IsSeenTo l.marks l.pairs l.numbers l.index l.seen.items
    × ((q : ℕ) → q < l.index → ¬ (IsTwice l.marks l.pairs l.numbers q))
