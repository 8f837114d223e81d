-- Who imports whom, both ways.
use Rattle.std.specs.Prelude.{◌≡◌, ℕ, ◌+◌, ◌<◌, ◌^◌, ◌==◌, List, length, if◌then◌else◌}
use Rattle.build_plan.specs.Rows.{row_at, AreWithin}
use Rattle.build_plan.specs.Lists.{count_of}

-- A place stands in the row of another here as often as that one stands in its row there.
pub record AreTurned (rows turned : List (List ℕ)) : Type 0 where
  pub size : length turned ≡ length rows
  pub count : (a b : ℕ) → count_of a (row_at turned b) ≡ count_of b (row_at rows a)

pub record AreLinks (imports importers : List (List ℕ)) : Type 0 where
  pub within : AreWithin imports
  pub few : length imports < 2 ^ 32
  pub turned : AreTurned imports importers

-- an importer was put to the rows of all that it imports
pub record IsAdded (old new : List (List ℕ)) (importer : ℕ) (imports : List ℕ) : Type 0 where
  pub size : length new ≡ length old
  pub count : (a b : ℕ) → count_of a (row_at new b) ≡ count_of a (row_at old b) + (if a == importer then count_of b imports else 0)
