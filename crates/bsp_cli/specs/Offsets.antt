-- Where a source stands in its stream, by what it tells of its course.
use Rattle.std.specs.Prelude.{◌≡◌, ◌+◌, ◌<◌, ◌≤◌, ℕ, Option, Some, None}
use Rattle.bsp_edge.specs.Course.{Course}

-- where the source tells its course, then and now
abbrev pub WhereTold : (Course → Course → Type 0) → Option Course → Option Course → Type 0
WhereTold Holds None now = Unit {0}
WhereTold Holds (Some start) None = Unit {0}
WhereTold Holds (Some start) (Some now) = Holds start now

-- so many bytes were taken since
abbrev pub IsAt : Option Course → Option Course → ℕ → Type 0
IsAt start now count = WhereTold (λ from to. to.offset ≡ from.offset + count) start now

-- the last of the bytes taken since lies in the last piece that was read
pub record EndsInLast (taken : ℕ) (start now : Course) : Type 0 where
  pub behind : now.began < start.offset + taken
  pub within : start.offset + taken ≤ now.offset
