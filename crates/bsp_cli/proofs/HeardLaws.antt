-- What holds of a course where the source tells it.
use Rattle.std.proofs.Common.{◌≡◌, ◌⊎◌, inl, inr, ◌++◌, suc, ℕ, List, [], length, All, Option, Some, None, IfSome, option_map}
use Rattle.bsp_edge.specs.Course.{Course, moved, UsesPoll}
use Rattle.bsp_edge.specs.Pieces.{HasNoPoll, PassesNoQuiet}
use Rattle.bsp_edge.specs.Reading.{QuietMoves}
use Rattle.rpc_frame.specs.Frames.{Frames}
use Rattle.session_law.specs.Order.{Event, takes_of, writes_of}
use Rattle.session_law.specs.Past.{status_after}
use Rattle.session_law.specs.Verdicts.{IsBare}
use Rattle.bsp_cli.proofs.PatienceLaws.{acts_so_far, at_end_on, begins, found_quiet, idle_here, patient_by, patient_on, piece_so_far, prompt_on, quiet_so_far}
use Rattle.bsp_cli.specs.Outside.{Heard}
use Rattle.bsp_cli.specs.Patience.{NoneOpen, OwesNothingAtOnce, Patient, PatientAtEnd, Prompt, StoodAt, WaitedLast}
use Rattle.bsp_cli.specs.Offsets.{WhereTold}
use Rattle.bsp_cli.specs.Progress.{SoFar}

pub where_then : (P Q : Course → Course → Type 0) (start now : Option Course) → ((s n : Course) → P s n → Q s n) → WhereTold P start now → WhereTold Q start now
where_then P Q None now next holds = tt
where_then P Q (Some start) None next holds = tt
where_then P Q (Some start) (Some now) next holds = next start now holds

-- a piece was read
where_moved : (P Q : Course → Course → Type 0) (F : Course → Type 0) (count : ℕ) (start now next : Option Course) → ((s n : Course) → P s n → F n → Q s (moved count n)) → next ≡ option_map (moved count) now → IfSome now F
    → WhereTold P start now → WhereTold Q start next
where_moved P Q F count None now next then moves fact holds = tt
where_moved P Q F count (Some start) None next then moves fact holds = rw moves tt
where_moved P Q F count (Some start) (Some now) next then moves fact holds = rw moves (then start now holds fact)

-- a poll was quiet
where_quiet : (P Q : Course → Course → Type 0) (start now next : Option Course) → ((s n m : Course) → P s n → UsesPoll n m → Q s m) → QuietMoves now next → WhereTold P start now → WhereTold Q start next
where_quiet P Q None now next then moves holds = tt
where_quiet P Q (Some start) None next then moves holds = rw moves tt
where_quiet P Q (Some start) (Some now) None then moves holds = absurd moves
where_quiet P Q (Some start) (Some now) (Some next) then moves holds = then start now next holds moves

-- a fact of the course that is told now
where_with : (P Q : Course → Course → Type 0) (F : Course → Type 0) (start now : Option Course) → ((s n : Course) → P s n → F n → Q s n) → IfSome now F → WhereTold P start now → WhereTold Q start now
where_with P Q F None now next fact holds = tt
where_with P Q F (Some start) None next fact holds = tt
where_with P Q F (Some start) (Some now) next fact holds = next start now holds fact

-- ---- the order so far

pub starts_course : (from : Heard) → WhereTold (SoFar [] [] from.collected from.collected) from.course from.course
starts_course from = by from.course
  where
    by : (course : Option Course) → WhereTold (SoFar [] [] from.collected from.collected) course course
    by None = tt
    by (Some course) = begins course from.collected

module _ (events order : List Event) (read : List ℕ) (from to : Heard) where
  pub acts_course : All IsBare (writes_of events) → WhereTold (SoFar order read from.collected to.collected) from.course to.course → WhereTold (SoFar (events ++ order) read from.collected to.collected) from.course to.course
  acts_course bare so =
      where_then (SoFar order read from.collected to.collected) (SoFar (events ++ order) read from.collected to.collected) from.course to.course
      (λ s n here. acts_so_far events order read from.collected to.collected s n bare here) so

  pub patient_course_on : All IsBare (writes_of events) → WhereTold (Patient order read from.collected to.collected) from.course to.course → WhereTold (Patient (events ++ order) read from.collected to.collected) from.course to.course
  patient_course_on bare so =
      where_then (Patient order read from.collected to.collected) (Patient (events ++ order) read from.collected to.collected) from.course to.course
      (λ s n here. patient_on events order read from.collected to.collected s n bare here) so

  pub prompt_course_on : WhereTold (Prompt order read) from.course to.course → WhereTold (Prompt (events ++ order) read) from.course to.course
  prompt_course_on so =
      where_then (Prompt order read) (Prompt (events ++ order) read) from.course to.course (λ s n here. prompt_on events order read s n here) so

  pub end_course_on : WhereTold (PatientAtEnd order read) from.course to.course → WhereTold (PatientAtEnd (events ++ order) read) from.course to.course
  end_course_on so =
      where_then (PatientAtEnd order read) (PatientAtEnd (events ++ order) read) from.course to.course (λ s n here. at_end_on events order read s n here) so

module _ (order : List Event) (read : List ℕ) (from to : Heard) (so : WhereTold (SoFar order read from.collected to.collected) from.course to.course) where
  pub patient_course : WhereTold (Patient order read from.collected to.collected) from.course to.course
  patient_course =
      where_then (SoFar order read from.collected to.collected) (Patient order read from.collected to.collected) from.course to.course
      (λ s n here. patient_by order read from.collected to.collected s n here) so

  pub prompt_course : WhereTold (Prompt order read) from.course to.course
  prompt_course = where_then (SoFar order read from.collected to.collected) (Prompt order read) from.course to.course (λ s n here. here.prompt) so

  -- a poll was quiet, and an outcome was taken
  pub quiet_course : (events : List Event) (rest : List ℕ) (next : Option Course) → Frames read (takes_of order) rest → takes_of events ≡ [] → QuietMoves to.course next
      → WhereTold (SoFar (events ++ order) read from.collected (suc to.collected)) from.course next
  quiet_course events rest next frames none moves =
      where_quiet (SoFar order read from.collected to.collected) (SoFar (events ++ order) read from.collected (suc to.collected)) from.course to.course next
      (λ s n m here uses. quiet_so_far events order read rest from.collected to.collected s n m here frames none uses) moves so

  -- the session waited, and all frames that were read were taken before
  pub waited_course : (events : List Event) (next : Option Course) → StoodAt OwesNothingAtOnce (events ++ order) read (length read) → QuietMoves to.course next
      → WhereTold (WaitedLast (events ++ order) read) from.course next
  waited_course events next all moves =
      where_quiet (SoFar order read from.collected to.collected) (WaitedLast (events ++ order) read) from.course to.course next
      (λ s n m here uses. record { all = all; quiet = found_quiet s n m here.stems uses }) moves so

  abbrev MayRead : Course → Type 0
  MayRead course = NoneOpen order ⊎ HasNoPoll course

  -- a piece was read where nothing was owed at once, and no request was open or no poll left
  pub piece_course : (rest piece : List ℕ) (count : ℕ) (next : Option Course) → Frames read (takes_of order) rest → status_after order ≡ None → OwesNothingAtOnce order → length piece ≡ count
      → IfSome to.course (λ course. MayRead course × PassesNoQuiet course.polls course.offset count) → next ≡ option_map (moved count) to.course
      → WhereTold (SoFar order (read ++ piece) from.collected to.collected) from.course next
  piece_course rest piece count next frames running caught size fact moves =
      where_moved (SoFar order read from.collected to.collected) (SoFar order (read ++ piece) from.collected to.collected) (λ course. MayRead course × PassesNoQuiet course.polls course.offset count) count from.course to.course next
      (λ s n here may. piece_so_far order read rest piece from.collected to.collected count s n here frames running caught may.0 may.1 size) moves fact so

  -- the input has no more here
  pub end_course : (rest : List ℕ) → Frames read (takes_of order) rest → status_after order ≡ None → IfSome to.course MayRead → WhereTold (PatientAtEnd order read) from.course to.course
  end_course rest frames running fact =
      where_with (SoFar order read from.collected to.collected) (PatientAtEnd order read) MayRead from.course to.course
      (λ s n here may. record { idle = idle_here order read rest from.collected to.collected s n here frames running may }) fact so

-- where no request is open, whatever the course
pub may_idle : (order : List Event) (F : Course → Type 0) (course : Option Course) → NoneOpen order → IfSome course F → IfSome course (λ c. (NoneOpen order ⊎ HasNoPoll c) × F c)
may_idle order F None idle fact = tt
may_idle order F (Some course) idle fact = (inl idle, fact)

pub may_end : (order : List Event) (course : Option Course) → NoneOpen order → IfSome course (λ c. NoneOpen order ⊎ HasNoPoll c)
may_end order None idle = tt
may_end order (Some course) idle = inl idle

-- where no poll is left
pub may_polled : (order : List Event) (F : Course → Type 0) (course : Option Course) → IfSome course (λ c. HasNoPoll c × F c) → IfSome course (λ c. (NoneOpen order ⊎ HasNoPoll c) × F c)
may_polled order F None fact = tt
may_polled order F (Some course) fact = (inr fact.0, fact.1)

pub may_polled_end : (order : List Event) (course : Option Course) → IfSome course HasNoPoll → IfSome course (λ c. NoneOpen order ⊎ HasNoPoll c)
may_polled_end order None fact = tt
may_polled_end order (Some course) fact = inr fact
