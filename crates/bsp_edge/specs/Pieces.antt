-- What a source in memory answers, and why.
use Rattle.std.specs.Prelude.{◌≡◌, ℕ, ◌+◌, ◌<◌, ◌≤◌, List, length, All, Option, IfSome}
use Rattle.bsp_edge.specs.declared.reading.Got.{Got}
use Rattle.bsp_edge.specs.declared.reading.Got.TheVariants.{Bytes, End, Quiet, Failed}
use Rattle.bsp_edge.specs.Calls.{Calls, FailsNext, passed_call, failed_call}
use Rattle.bsp_edge.specs.Course.{Course}

-- a source in memory
pub record SourceState : Type 0 where
  pub left : List ℕ
  pub course : Course
  -- the offsets where a piece ends, beside the quiet offsets
  pub cuts : List ℕ
  pub calls : Calls

-- a piece of `count` bytes from `offset` passes none of the cuts
abbrev pub PassesNoCut : List ℕ → ℕ → ℕ → Type 0
PassesNoCut cuts offset count = All (λ cut. offset < cut → offset + count ≤ cut) cuts

-- nor any of the quiet offsets
abbrev pub PassesNoQuiet : List (ℕ × ℕ) → ℕ → ℕ → Type 0
PassesNoQuiet polls offset count = All (λ quiet. offset < quiet.0 → offset + count ≤ quiet.0) polls

-- a piece of `count` bytes may be taken from what is left into `size` bytes
pub record MayTake (left : List ℕ) (course : Course) (cuts : List ℕ) (size count : ℕ) : Type 0 where
  pub fits : count ≤ size
  pub there : count ≤ length left
  pub uncut : PassesNoCut cuts course.offset count
  pub awake : PassesNoQuiet course.polls course.offset count

-- no longer piece may be taken
pub record IsLongestPiece (left : List ℕ) (course : Course) (cuts : List ℕ) (size count : ℕ) : Type 0 where
  pub piece : MayTake left course cuts size count
  pub longest : (other : ℕ) → MayTake left course cuts size other → other ≤ count

-- no poll is left at this offset
abbrev pub HasNoPoll : Course → Type 0
HasNoPoll course = All (λ quiet. quiet.0 ≡ course.offset → quiet.1 ≡ 0) course.polls

-- a piece that a `read` takes passes no quiet offset, where the course is told
abbrev pub ReadStops : Option Course → Got → Type 0
ReadStops told (Bytes count) = IfSome told (λ course. PassesNoQuiet course.polls course.offset count)
ReadStops told End = Unit {0}
ReadStops told Quiet = ⊥
ReadStops told Failed = Unit {0}

-- nor does one that a `poll` takes, which finds a piece or the end only where no poll is left
abbrev pub PollStops : Option Course → Got → Type 0
PollStops told (Bytes count) = IfSome told (λ course. HasNoPoll course × PassesNoQuiet course.polls course.offset count)
PollStops told End = IfSome told HasNoPoll
PollStops told Quiet = Unit {0}
PollStops told Failed = Unit {0}

-- what the next piece is, of a call that doesn't fail and isn't quiet
abbrev pub PieceAnswers : List ℕ → Course → List ℕ → ℕ → Got → Type 0
PieceAnswers left course cuts size (Bytes count) = IsLongestPiece left course cuts size count
PieceAnswers left course cuts size End = Unit {0}
PieceAnswers left course cuts size Quiet = ⊥
PieceAnswers left course cuts size Failed = ⊥

-- what a `read` into `size` bytes answers
abbrev pub ReadAnswers : SourceState → ℕ → Got → Type 0
ReadAnswers source size (Bytes count) = ¬ FailsNext source.calls × IsLongestPiece source.left source.course source.cuts size count
ReadAnswers source size End = ¬ FailsNext source.calls
ReadAnswers source size Quiet = ⊥
ReadAnswers source size Failed = FailsNext source.calls

-- what a `poll` into `size` bytes answers
abbrev pub PollAnswers : SourceState → ℕ → Got → Type 0
PollAnswers source size (Bytes count) = ¬ FailsNext source.calls × HasNoPoll source.course × IsLongestPiece source.left source.course source.cuts size count
PollAnswers source size End = ¬ FailsNext source.calls × HasNoPoll source.course
PollAnswers source size Quiet = ¬ FailsNext source.calls
PollAnswers source size Failed = FailsNext source.calls

-- the calls behind one that answered so
abbrev pub calls_after : Got → Calls → Calls
calls_after (Bytes count) calls = passed_call calls
calls_after End calls = passed_call calls
calls_after Quiet calls = passed_call calls
calls_after Failed calls = failed_call calls
