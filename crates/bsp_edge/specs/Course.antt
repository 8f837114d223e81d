-- How far a source has come. An offset is a number of bytes from the start of its stream.
use Rattle.std.specs.Prelude.{◌≡◌, ℕ, ◌+◌, List, Some, slice_get, slice_set}

pub record Course : Type 0 where
  -- how many bytes were taken
  pub offset : ℕ
  -- the offset where the last piece began
  pub began : ℕ
  -- the quiet offsets, each with the polls that are left there
  pub polls : List (ℕ × ℕ)

-- the course behind a piece of this many bytes
abbrev pub moved : ℕ → Course → Course
moved count course = record { offset = course.offset + count; began = course.offset; polls = course.polls }

-- a poll was left at this offset, and one is used up
pub record UsesPoll (old new : Course) : Type 0 where
  pub index : ℕ
  pub after : ℕ
  pub had : slice_get old.polls index ≡ Some (old.offset, after + 1)
  pub has : new ≡ record { offset = old.offset; began = old.began; polls = slice_set old.polls index (old.offset, after) }
