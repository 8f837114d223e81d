-- Counts of 64 bits, which stay at their last value.
use Rattle.std.specs.Prelude.{ℕ, ◌+◌, ◌-◌, ◌^◌, ◌<◌, ◌≤◌, min}

-- one more
abbrev pub counted : ℕ → ℕ
counted n = min (n + 1) (2 ^ 64 - 1)

-- the count of faults went up; one that stands at its last value counts as risen
abbrev pub Rose : ℕ → ℕ → Type 0
Rose before after = (before ≤ after) × (after < 2 ^ 64 - 1 → before < after)
