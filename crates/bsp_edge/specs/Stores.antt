-- What a sink in memory answers, and why.
use Rattle.std.specs.Prelude.{◌≡◌, ℕ, ◌+◌, ◌≤◌, ◌<◌, ◌⊎◌, List, length}
use Rattle.bsp_edge.specs.declared.writing.Put.{Put}
use Rattle.bsp_edge.specs.declared.writing.Put.TheVariants.{Took, Failed}
use Rattle.bsp_edge.specs.Calls.{Calls, FailsNext, passed_call, failed_call}

-- a sink in memory
pub record SinkState : Type 0 where
  pub given : List ℕ
  -- how many bytes it takes in all
  pub room : ℕ
  pub calls : Calls

-- what it holds fits its room, and its memory holds its room
pub record FitsRoom (len room capacity : ℕ) : Type 0 where
  pub held : len ≤ room
  pub reserved : room ≤ capacity

-- a piece of `count` bytes passes the room that is left
abbrev pub PassesRoom : SinkState → ℕ → Type 0
PassesRoom sink count = sink.room < length sink.given + count

-- what a `write` of a piece of `size` bytes answers
abbrev pub WriteAnswers : SinkState → ℕ → Put → Type 0
WriteAnswers sink size (Took count) = ¬ FailsNext sink.calls × (length sink.given + size ≤ sink.room) × (count ≡ size)
WriteAnswers sink size Failed = FailsNext sink.calls ⊎ PassesRoom sink size

-- the calls behind one that answered so
abbrev pub calls_written : Put → Calls → Calls
calls_written (Took count) calls = passed_call calls
calls_written Failed calls = failed_call calls
