-- The order in which a source in memory keeps its quiet offsets.
use Rattle.std.specs.Prelude.{ℕ, ◌+◌, ◌*◌, ◌≤◌, min, List}
use Rattle.std.specs.List.Sorted.{IsNonDecreasing, IsNonDecreasingBy}

-- a quiet offset ranks by its offset, and behind those without polls at the same offset where it has polls left
abbrev pub quiet_rank : ℕ × ℕ → ℕ
quiet_rank quiet = 2 * quiet.0 + min quiet.1 1

-- what a source in memory keeps true of its fields
pub record IsInOrder (offset size : ℕ) (cuts : List ℕ) (polls : List (ℕ × ℕ)) : Type 0 where
  pub inside : offset ≤ size
  pub cuts_rise : IsNonDecreasing cuts
  pub polls_rise : IsNonDecreasingBy quiet_rank polls
