-- What one call of a sink does, by its answer.
use Rattle.std.specs.Prelude.{◌≡◌, ℕ, ◌<◌, ◌≤◌, List, length, take, Option}
use Rattle.std.specs.Io.KnownBytes.{Appends, Keeps}
use Rattle.bsp_edge.specs.declared.writing.Put.{Put}
use Rattle.bsp_edge.specs.declared.writing.Put.TheVariants.{Took, Failed}
use Rattle.bsp_edge.specs.Faults.{Rose}
use Rattle.bsp_edge.specs.Streams.{Gives}

-- the first `count` bytes of `piece` were added behind what was given
pub record TookFront (old new : Option (List ℕ)) (piece : List ℕ) (count : ℕ) : Type 0 where
  pub some : 0 < count
  pub within : count ≤ length piece
  pub given : Gives old new (take count piece)

-- what becomes of the bytes that were given
abbrev pub WriteGives : Option (List ℕ) → Option (List ℕ) → List ℕ → Put → Type 0
WriteGives old new piece (Took count) = TookFront old new piece count
WriteGives old new piece Failed = new ≡ old

-- what becomes of the count of faults
abbrev pub WriteFaults : ℕ → ℕ → Put → Type 0
WriteFaults before after (Took count) = after ≡ before
WriteFaults before after Failed = Rose before after

-- what becomes of the bytes that are known to be given
abbrev pub GaveKnown : Option (List ℕ) → Option (List ℕ) → List ℕ → Put → Type 0
GaveKnown old new piece (Took count) = Appends old new (take count piece)
GaveKnown old new piece Failed = Keeps old new

-- what was taken of the piece isn't empty
abbrev pub TookWithin : List ℕ → Put → Type 0
TookWithin piece (Took count) = (0 < count) × (count ≤ length piece)
TookWithin piece Failed = Unit {0}
