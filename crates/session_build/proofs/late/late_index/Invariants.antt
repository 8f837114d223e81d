use Rattle.std.proofs.Common.{◌≡◌, ℕ, ◌<◌, length, get_or}
use Rattle.session_build.specs.declared.late.Late.{Late}
use Rattle.session_build.proofs.late.late_index.Given as goal

abbrev pub invariant-loop-index : goal.invariant-loop-index
invariant-loop-index l = (k : ℕ) (d : Late) → k < l.index → k < length l.late.items → ¬ ((get_or l.late.items k d).number ≡ l.number)
