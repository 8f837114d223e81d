-- Pieces of a source in memory.
use Rattle.std.proofs.Common.{◌≡◌, ℕ, ◌+◌, List, ◌++◌, take, drop, sym, ◌∙◌}
use Rattle.std.proofs.lemmas.List.{take-append-drop, drop-drop}
use Rattle.bsp_edge.specs.Calls.{FailsNext}
use Rattle.bsp_edge.specs.Pieces.{HasNoPoll, PieceAnswers, PollAnswers, ReadAnswers, SourceState}
use Rattle.bsp_edge.specs.declared.reading.Got.{Got}
use Rattle.bsp_edge.specs.declared.reading.Got.TheVariants.{Bytes, End, Quiet, Failed}

-- a piece and what is left behind it are what was left
pub piece_taken : (bytes front : List ℕ) (offset count : ℕ) → front ≡ take count (drop offset bytes) → drop offset bytes ≡ front ++ drop (offset + count) bytes
piece_taken bytes front offset count is =
    sym (take-append-drop count (drop offset bytes)) ∙ rw (is, drop-drop)

-- a call that doesn't fail reads the next piece
pub read_answers : (source : SourceState) (size : ℕ) (got : Got) → ¬ FailsNext source.calls → PieceAnswers source.left source.course source.cuts size got → ReadAnswers source size got
read_answers source size (Bytes count) passes piece = (passes, piece)
read_answers source size End passes piece = passes
read_answers source size Quiet passes piece = piece
read_answers source size Failed passes piece = absurd piece

-- and so does one that isn't quiet
pub poll_answers : (source : SourceState) (size : ℕ) (got : Got) → ¬ FailsNext source.calls → HasNoPoll source.course → PieceAnswers source.left source.course source.cuts size got → PollAnswers source size got
poll_answers source size (Bytes count) passes awake piece = (passes, awake, piece)
poll_answers source size End passes awake piece = (passes, awake)
poll_answers source size Quiet passes awake piece = absurd piece
poll_answers source size Failed passes awake piece = absurd piece
