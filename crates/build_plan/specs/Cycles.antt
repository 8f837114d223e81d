-- What is known of cycles, place after place.
use Rattle.std.specs.Prelude.{◌≡◌, ℕ, Bool, true, false, List, length}
use Rattle.build_plan.specs.Rows.{Path, OnCycle}
use Rattle.build_plan.specs.Lists.{has_mark}

-- A place with a mark in `undecided` isn't decided yet. Places that lead to each other are decided together.
pub record IsKnown (rows : List (List ℕ)) (undecided cyclic : List Bool) : Type 0 where
  pub undecided_size : length undecided ≡ length rows
  pub cyclic_size : length cyclic ≡ length rows
  pub sound : (b : ℕ) → has_mark cyclic b ≡ true → OnCycle rows b
  pub whole : (b : ℕ) → has_mark undecided b ≡ false → OnCycle rows b → has_mark cyclic b ≡ true
  pub together : (b c : ℕ) → has_mark undecided b ≡ false → Path rows b c → Path rows c b → has_mark undecided c ≡ false

-- the marks stand at the places that are on a cycle
pub record AreCyclic (rows : List (List ℕ)) (marks : List Bool) : Type 0 where
  pub size : length marks ≡ length rows
  pub sound : (b : ℕ) → has_mark marks b ≡ true → OnCycle rows b
  pub whole : (b : ℕ) → OnCycle rows b → has_mark marks b ≡ true

-- each place without a mark is on no cycle
pub record LeavesCycles (rows : List (List ℕ)) (marks : List Bool) : Type 0 where
  pub size : length marks ≡ length rows
  pub whole : (b : ℕ) → OnCycle rows b → has_mark marks b ≡ true
