-- The moves of a slot, one after another: the session asks and takes, and the thread puts there what it read.
use Rattle.std.specs.Prelude.{◌≡◌, ℕ, List, [], ◌∷◌, ◌++◌, take, Option, Some, None}
use Rattle.bsp_edge.specs.declared.reading.Got.{Got}
use Rattle.bsp_edge.specs.declared.reading.Got.TheVariants.{Bytes, End, Quiet, Failed}
use Rattle.bsp_input.specs.Slots.{Place, idle, asked, asked_of, put_of, HandsOut}

pub data Move : Type 0 where
  -- the session asks for a piece
  ask : Move
  -- the thread puts there what it read, into the front of the bytes
  put : List ℕ → Got → Move
  -- the session is handed out what there is, into the front of the bytes
  hand : Option Got → List ℕ → Move

-- the thread reads only where a piece is asked for
pub record Puts (old : Place) (read : List ℕ) (got : Got) (new : Place) : Type 0 where
  pub due : old ≡ asked
  pub puts : new ≡ put_of read got

abbrev pub Leads : Move → Place → Place → Type 0
Leads ask old new = new ≡ asked_of old
Leads (put read got) old new = Puts old read got new
Leads (hand answer into) old new = HandsOut old answer into new

-- the moves, the newest first, lead from a slot from which nothing was asked to this place
abbrev pub Runs : List Move → Place → Type 0
Runs [] place = place ≡ idle
Runs (move ∷ past) place = (before : Place) × Runs past before × Leads move before place

-- the piece of a read
abbrev pub piece_of : List ℕ → Got → List ℕ
piece_of bytes (Bytes count) = take count bytes
piece_of bytes End = []
piece_of bytes Quiet = []
piece_of bytes Failed = []

-- the piece of an answer
abbrev pub handed_by : Option Got → List ℕ → List ℕ
handed_by None into = []
handed_by (Some got) into = piece_of into got

-- all that the thread read, in order
abbrev pub read_of : List Move → List ℕ
read_of [] = []
read_of (ask ∷ past) = read_of past
read_of (put read got ∷ past) = read_of past ++ piece_of read got
read_of (hand answer into ∷ past) = read_of past

-- all that was handed out, in order
abbrev pub handed_of : List Move → List ℕ
handed_of [] = []
handed_of (ask ∷ past) = handed_of past
handed_of (put read got ∷ past) = handed_of past
handed_of (hand answer into ∷ past) = handed_of past ++ handed_by answer into
