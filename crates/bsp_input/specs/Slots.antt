-- What stands in the slot between the reading thread and the session, and what each move of the slot does.
use Rattle.std.specs.Prelude.{◌≡◌, ℕ, ◌<◌, ◌≤◌, List, [], ◌∷◌, take, Option, Some, None}
use Rattle.bsp_edge.specs.declared.reading.Got.{Got}
use Rattle.bsp_edge.specs.declared.reading.Got.TheVariants.{Bytes, End, Quiet, Failed}
use Rattle.bsp_edge.specs.Reading.{TakesPiece}
use Rattle.bsp_input.specs.declared.slot.State.{State}
use Rattle.bsp_input.specs.declared.slot.State.TheVariants as states

-- the most bytes of a piece
abbrev pub piece_limit : ℕ
piece_limit = 65536

pub data Place : Type 0 where
  -- nothing was asked for
  idle : Place
  -- a piece is to be read
  asked : Place
  -- these bytes are left of a piece that was read
  holds : List ℕ → Place
  -- reading found the end of the input
  ended : Place
  -- reading failed
  failed : Place

-- the bytes that were read and not handed out
abbrev pub left_of : Place → List ℕ
left_of idle = []
left_of asked = []
left_of (holds left) = left
left_of ended = []
left_of failed = []

-- what stands in the slot behind a piece of which these bytes are left
abbrev pub kept : List ℕ → Place
kept [] = idle
kept (byte ∷ left) = holds (byte ∷ left)

-- the place where a piece is asked for
abbrev pub asked_of : Place → Place
asked_of idle = asked
asked_of asked = asked
asked_of (holds left) = holds left
asked_of ended = ended
asked_of failed = failed

-- the place where this was read into the front of `read`
abbrev pub put_of : List ℕ → Got → Place
put_of read (Bytes count) = holds (take count read)
put_of read End = ended
put_of read Quiet = failed
put_of read Failed = failed

-- the first `count` bytes of `into` are the first ones that were left, and at least one; the others are still there
pub record HandsPiece (left : List ℕ) (count : ℕ) (into : List ℕ) (new : Place) : Type 0 where
  pub piece : TakesPiece (Some left) (Some (left_of new)) into count
  pub rest : new ≡ kept (left_of new)

-- the answer is a piece
pub record AnswersPiece (left : List ℕ) (answer : Option Got) (into : List ℕ) (new : Place) : Type 0 where
  pub count : ℕ
  pub bytes : answer ≡ Some (Bytes count)
  pub hands : HandsPiece left count into new

-- what is handed out into the front of `into`, and what stands in the slot then. The end is told again and again, a failure once
abbrev pub HandsOut : Place → Option Got → List ℕ → Place → Type 0
HandsOut idle answer into new = (answer ≡ None) × (new ≡ idle)
HandsOut asked answer into new = (answer ≡ None) × (new ≡ asked)
HandsOut (holds left) answer into new = AnswersPiece left answer into new
HandsOut ended answer into new = (answer ≡ Some End) × (new ≡ ended)
HandsOut failed answer into new = (answer ≡ Some Failed) × (new ≡ idle)

-- the place of a slot in this state, with these bytes behind its offset
abbrev pub place_of : State → List ℕ → Place
place_of states.Idle left = idle
place_of states.Asked left = asked
place_of states.Holds left = holds left
place_of states.Ended left = ended
place_of states.Failed left = failed

-- the buffer has room for a piece, and where one is held something of it is left
pub record IsWithin (state : State) (offset size : ℕ) : Type 0 where
  pub room : size ≡ piece_limit
  pub within : offset ≤ size
  pub some : state ≡ states.Holds → offset < size
