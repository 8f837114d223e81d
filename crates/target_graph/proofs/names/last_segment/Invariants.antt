use Rattle.std.proofs.Common.{◌≡◌, ℕ, ◌<◌, ◌≤◌, eqb, false, length, get_or}
use Rattle.target_graph.proofs.names.last_segment.Given as goal

abbrev pub invariant-back : goal.invariant-back
invariant-back l = (l.start ≤ length l.path) × ((k : ℕ) → l.start ≤ k → k < length l.path → eqb (get_or l.path k 0) 47 ≡ false)

abbrev pub decreases-back : goal.decreases-back
decreases-back l = l.start
