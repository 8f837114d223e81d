-- When a session waits for more input, when a check may have finished, and what is answered by then: by the offsets at which the
-- input was quiet and at which its pieces began, where the source tells them.
use Rattle.std.specs.Prelude.{◌≡◌, ◌+◌, ◌-◌, ◌++◌, ◌<◌, ◌≤◌, ℕ, suc, List, [], ◌∷◌, length, take, Contains, Some, None, slice_get}
use Rattle.bsp_edge.specs.Course.{Course}
use Rattle.rpc_frame.specs.Frames.{Frames}
use Rattle.session_law.specs.EachRests.{IsAtRest}
use Rattle.session_law.specs.Order.{Event, takes_of}
use Rattle.session_law.specs.Past.{after, status_after}
use Rattle.session_law.specs.Verdicts.{HasVerdict}

-- ---- where so many bytes were read

-- Just the frames were taken that are whole in the first `count` bytes read, the session hadn't ended, and this holds.
pub record StoodAt (Holds : List Event → Type 0) (order : List Event) (read : List ℕ) (count : ℕ) : Type 0 where
  pub later : List Event
  pub earlier : List Event
  pub parts : order ≡ later ++ earlier
  pub running : status_after earlier ≡ None
  pub rest : List ℕ
  pub frames : Frames (take count read) (takes_of earlier) rest
  pub holds : Holds earlier

-- no request is open
abbrev pub NoneOpen : List Event → Type 0
NoneOpen past = (after past).requests ≡ []

-- what is owed at once is written, and the session rests
abbrev pub OwesNothingAtOnce : List Event → Type 0
OwesNothingAtOnce past = IsAtRest (after past)

-- ---- quiet offsets

-- the polls that are left at all quiet offsets
abbrev pub polls_left : List (ℕ × ℕ) → ℕ
polls_left [] = 0
polls_left (quiet ∷ others) = quiet.1 + polls_left others

-- wherever the input was passed with polls left, from the start up to this offset, no request was open
abbrev pub WaitsIdle : List Event → List ℕ → Course → Course → ℕ → Type 0
WaitsIdle order read start now upto =
    (quiet : ℕ × ℕ) → Contains now.polls quiet → 0 < quiet.1 → start.offset ≤ quiet.0 → quiet.0 < upto → StoodAt NoneOpen order read (quiet.0 - start.offset)

-- the polls fell at a quiet offset before which just these frames are whole
pub record FellAt (start now : Course) (read : List ℕ) (bodies : List (List ℕ)) : Type 0 where
  pub index : ℕ
  pub offset : ℕ
  pub before : ℕ
  pub after : ℕ
  pub was : slice_get start.polls index ≡ Some (offset, before)
  pub is_now : slice_get now.polls index ≡ Some (offset, after)
  pub fell : after < before
  pub behind : start.offset ≤ offset
  pub reached : offset ≤ now.offset
  pub rest : List ℕ
  pub frames : Frames (take (offset - start.offset) read) bodies rest

-- the polls fell at the quiet offset where the source stands now
pub record FoundQuiet (start now : Course) : Type 0 where
  pub index : ℕ
  pub before : ℕ
  pub after : ℕ
  pub was : slice_get start.polls index ≡ Some (now.offset, before)
  pub is_now : slice_get now.polls index ≡ Some (now.offset, after)
  pub fell : after < before

-- ---- what is promised

-- More input is waited for only where no request is open. As many outcomes are collected as polls found the input quiet. A check
-- finishes only where just those frames were taken that are whole before an offset at which the input was found quiet.
pub record Patient (order : List Event) (read : List ℕ) (collected_old collected_new : ℕ) (start now : Course) : Type 0 where
  pub idle : WaitsIdle order read start now now.offset
  pub counted : polls_left start.polls + collected_old ≡ polls_left now.polls + collected_new
  pub verdicts : (bodies : List (List ℕ)) → HasVerdict order bodies → FellAt start now read bodies

-- neither was a request open where the input was found to have no more
pub record PatientAtEnd (order : List Event) (read : List ℕ) (start now : Course) : Type 0 where
  pub idle : WaitsIdle order read start now (suc now.offset)

-- All frames that were read were taken, and what they owed at once was written, and the input was found quiet behind them.
pub record WaitedLast (order : List Event) (read : List ℕ) (start now : Course) : Type 0 where
  pub all : StoodAt OwesNothingAtOnce order read (length read)
  pub quiet : FoundQuiet start now

-- The order has a moment at which just those frames were taken that are whole before the last piece began, and nothing was owed
-- at once.
pub record Prompt (order : List Event) (read : List ℕ) (start now : Course) : Type 0 where
  pub owed : start.offset < now.offset → StoodAt OwesNothingAtOnce order read (now.began - start.offset)
