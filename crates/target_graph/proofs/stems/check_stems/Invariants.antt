use Rattle.std.proofs.Common.{ℕ, ◌<◌}
use Rattle.target_graph.specs.Faults.{IsRepeat}
use Rattle.target_graph.proofs.stems.check_stems.Given as goal

abbrev pub invariant-loop-index : goal.invariant-loop-index
invariant-loop-index l = (t : ℕ) → t < l.index → (q : ℕ) → ¬ (IsRepeat l.targets t q)
