-- What one call of a source does, by its answer.
use Rattle.std.specs.Prelude.{◌≡◌, ℕ, ◌<◌, ◌≤◌, List, length, take, Option, Some, None, IsSomeAnd}
use Rattle.std.specs.Option.{option_map}
use Rattle.std.specs.Io.KnownBytes.{Consumes, IsAtEnd, Keeps}
use Rattle.bsp_edge.specs.declared.reading.Got.{Got}
use Rattle.bsp_edge.specs.declared.reading.Got.TheVariants.{Bytes, End, Quiet, Failed}
use Rattle.bsp_edge.specs.Course.{Course, moved, UsesPoll}
use Rattle.bsp_edge.specs.Faults.{Rose}
use Rattle.bsp_edge.specs.Streams.{Takes, IsDry}

-- the first `count` bytes of `into` are a piece that was taken from the front of what was left
pub record TakesPiece (old new : Option (List ℕ)) (into : List ℕ) (count : ℕ) : Type 0 where
  pub some : 0 < count
  pub within : count ≤ length into
  pub taken : Takes old new (take count into)

-- nothing was left, and nothing was taken
pub record StaysDry (old new : Option (List ℕ)) : Type 0 where
  pub dry : IsDry old
  pub same : new ≡ old

-- what becomes of the bytes that are left
abbrev pub ReadLeaves : Option (List ℕ) → Option (List ℕ) → List ℕ → Got → Type 0
ReadLeaves old new into (Bytes count) = TakesPiece old new into count
ReadLeaves old new into End = StaysDry old new
ReadLeaves old new into Quiet = new ≡ old
ReadLeaves old new into Failed = new ≡ old

-- where the course is told, one of the polls left at this offset is used up
abbrev pub QuietMoves : Option Course → Option Course → Type 0
QuietMoves None new = new ≡ None
QuietMoves (Some course) new = IsSomeAnd new (λ next. UsesPoll course next)

-- what becomes of the course
abbrev pub ReadMoves : Option Course → Option Course → Got → Type 0
ReadMoves old new (Bytes count) = new ≡ option_map (moved count) old
ReadMoves old new End = new ≡ old
ReadMoves old new Quiet = QuietMoves old new
ReadMoves old new Failed = new ≡ old

-- what becomes of the count of faults
abbrev pub ReadFaults : ℕ → ℕ → Got → Type 0
ReadFaults before after (Bytes count) = after ≡ before
ReadFaults before after End = after ≡ before
ReadFaults before after Quiet = after ≡ before
ReadFaults before after Failed = Rose before after

-- the piece that was taken stands in `into`, and isn't empty; the call didn't find it quiet
abbrev pub TookInto : List ℕ → Got → Type 0
TookInto into (Bytes count) = (0 < count) × (count ≤ length into)
TookInto into End = Unit {0}
TookInto into Quiet = ⊥
TookInto into Failed = Unit {0}

-- what becomes of the bytes that are known to be left
abbrev pub TookKnown : Option (List ℕ) → Option (List ℕ) → List ℕ → Got → Type 0
TookKnown old new into (Bytes count) = Consumes old new (take count into)
TookKnown old new into End = IsAtEnd old
TookKnown old new into Quiet = Unit {0}
TookKnown old new into Failed = Keeps old new
