use Rattle.std.proofs.Common.{◌≡◌, ◌<◌, ◌≤◌, ◌||◌, ℕ, length}
use Rattle.target_graph.specs.Walk.{has_met}
use Rattle.target_graph.proofs.closures.add_marks.Given as goal

abbrev pub invariant-loop-index : goal.invariant-loop-index
invariant-loop-index l =
    (length l.row.items ≡ length l.fn.row.items)
    × ((b : ℕ) → b < l.index → has_met l.row.items b ≡ (has_met l.fn.row.items b || has_met l.other b))
    × ((b : ℕ) → l.index ≤ b → has_met l.row.items b ≡ has_met l.fn.row.items b)
