-- How a session waits for the next piece of its input.
use Rattle.std.proofs.Common.{◌≡◌, ◌⊎◌, ◌++◌, suc, ℕ, List, [], length, take, Option, Some, None, IfSome, option_map, refl, sym, ap, ◌∙◌, subst, arith, append-nil, length-append}
use Rattle.std.proofs.lemmas.List.{length-take-le}
use Rattle.bsp_edge.specs.Course.{Course, moved}
use Rattle.bsp_edge.specs.Pieces.{HasNoPoll, PassesNoQuiet, PollStops, ReadStops}
use Rattle.bsp_edge.specs.Reading.{QuietMoves, ReadLeaves, ReadMoves}
use Rattle.bsp_edge.specs.Streams.{Takes}
use Rattle.bsp_edge.specs.declared.reading.Got.{Got}
use Rattle.bsp_edge.specs.declared.reading.Got.TheVariants.{Bytes, End, Quiet}
use Rattle.bsp_edge.specs.declared.reading.Got.TheVariants as got
use Rattle.bsp_edge.proofs.StreamLaws.{takes_append}
use Rattle.rpc_frame.specs.Frames.{Frames, FramesTo, HasNoFrame, Waiting}
use Rattle.rpc_frame.proofs.FrameLaws.{frames_more}
use Rattle.session_law.specs.Order.{Event, takes_of}
use Rattle.session_law.specs.Past.{status_after}
use Rattle.session_core.proofs.AtRest.{is_at_rest, nothing_open, status_is}
use Rattle.session_core.specs.declared.session.Core.{Core}
use Rattle.bsp_cli.proofs.EventLaws.{takes_of-append, end_of-append, tells_append}
use Rattle.bsp_cli.proofs.HeardLaws.{end_course, may_end, may_idle, may_polled, may_polled_end, patient_course, piece_course, prompt_course, quiet_course, waited_course}
use Rattle.bsp_cli.specs.Outside.{Heard, Told, heard}
use Rattle.bsp_cli.specs.Patience.{NoneOpen, OwesNothingAtOnce, PatientAtEnd}
use Rattle.bsp_cli.specs.declared.outcome.Ending.{Ending}
use Rattle.bsp_cli.specs.declared.outcome.Ending.TheVariants.{Border}
use Rattle.bsp_cli.specs.Offsets.{WhereTold}
use Rattle.bsp_cli.specs.Progress.{EndsHere, Finds, IsReady, Progress, SoFar, Stays, Stopped, StoppedWaiting, with_piece}
use Rattle.bsp_cli.proofs.PatienceLaws.{stood_here, stood_on}
use Rattle.bsp_cli.specs.Writing.{GoesThrough, IsAny, Stops}

-- ---- the input was quiet, and an outcome was taken

module _ (c d : Core) (stream : Waiting) (from to next : Heard) (start before behind : Told) (drained : HasNoFrame stream.bytes) (so : Progress c stream from to start before)
    (left : next.left ≡ to.left) (moves : QuietMoves to.course next.course) (one : next.collected ≡ suc to.collected) where
  same_frames : (events : List Event) → takes_of events ≡ [] → FramesTo so.read (takes_of (events ++ so.order)) stream.bytes
  same_frames events none =
      subst (λ bodies. FramesTo so.read bodies stream.bytes) (sym (takes_of-append events so.order ∙ (ap (λ more. takes_of so.order ++ more) none ∙ append-nil (takes_of so.order)))) so.frames

  next_course : (events : List Event) → takes_of events ≡ [] → WhereTold (SoFar (events ++ so.order) so.read from.collected next.collected) from.course next.course
  next_course events none =
      rw one (quiet_course so.order so.read from to so.course events stream.bytes next.course (record { frames = so.frames; none = drained }) none moves)

  pub quiet_progress : GoesThrough IsAny c d [] None before behind → Progress d stream from next start behind
  quiet_progress steps =
      record {
        order = steps.events ++ so.order;
        stands = steps.stands so.order so.stands;
        unended = end_of-append steps.events so.order steps.ended ∙ so.unended;
        read = so.read;
        consumed = subst (λ l. Takes from.left l so.read) (sym left) so.consumed;
        frames = same_frames steps.events steps.takes;
        count = so.count;
        tells = tells_append so.order steps.events [] start before behind so.tells steps.tells;
        course = next_course steps.events steps.takes;
      }

  quiet_stopped : Stops IsAny c [] None before behind → Stopped stream.given_end from next start behind
  quiet_stopped stops =
      let course = next_course stops.events stops.takes in
      record {
        order = stops.events ++ so.order;
        well = stops.well so.order so.stands;
        unended = end_of-append stops.events so.order stops.ended ∙ so.unended;
        read = so.read;
        consumed = subst (λ l. Takes from.left l so.read) (sym left) so.consumed;
        waiting = stream.bytes;
        frames = same_frames stops.events stops.takes;
        count = so.count;
        tail = stops.tail;
        tells = tells_append so.order stops.events stops.tail start before behind so.tells stops.tells;
        cut = stops.cut;
        patient = patient_course (stops.events ++ so.order) so.read from next course;
        prompt = prompt_course (stops.events ++ so.order) so.read from next course;
      }

  -- all frames that were read were taken
  pub quiet_waiting : IsReady c → Stops IsAny c [] None before behind → StoppedWaiting stream.given_end from next start behind
  unfolding quiet_stopped
  quiet_waiting ready stops =
      let running = status_is c so.order ready.met.quiet ready.met.alive so.stands ∙ ready.running in
      let caught = is_at_rest c so.order ready.met.quiet ready.met.alive ready.met.settled ready.met.up so.stands in
      record {
        stopped = quiet_stopped stops;
        waited = waited_course so.order so.read from to so.course stops.events next.course
            (stood_on OwesNothingAtOnce stops.events so.order so.read (length so.read)
            (stood_here OwesNothingAtOnce so.order so.read stream.bytes (length so.read) refl (record { frames = so.frames; none = drained }) running caught))
            moves;
      }

-- ---- a piece, or the end

module _ (core : Core) (stream : Waiting) (from to : Heard) (start now : Told) (drained : HasNoFrame stream.bytes) (ready : IsReady core) (so : Progress core stream from to start now) (left : Option (List ℕ)) (course : Option Course) where
  abbrev behind : Heard
  behind = heard left course to.collected

  frames : Frames so.read (takes_of so.order) stream.bytes
  frames = record { frames = so.frames; none = drained }

  running : status_after so.order ≡ None
  running = status_is core so.order ready.met.quiet ready.met.alive so.stands ∙ ready.running

  caught : OwesNothingAtOnce so.order
  caught = is_at_rest core so.order ready.met.quiet ready.met.alive ready.met.settled ready.met.up so.stands

  pub idle_none : core.head ≡ None → NoneOpen so.order
  idle_none idle = nothing_open core so.order ready.met.quiet ready.met.alive ready.met.settled idle so.stands

  found_piece : (piece : List ℕ) (count : ℕ) → length piece ≡ count → Takes to.left left piece → course ≡ option_map (moved count) to.course
      → IfSome to.course (λ c. (NoneOpen so.order ⊎ HasNoPoll c) × PassesNoQuiet c.polls c.offset count) → Progress core (with_piece piece stream) from behind start now
  found_piece piece count size taken moves fact =
      record {
        order = so.order;
        stands = so.stands;
        unended = so.unended;
        read = so.read ++ piece;
        consumed = takes_append from.left to.left left so.read piece so.consumed taken;
        frames = frames_more so.read (takes_of so.order) stream.bytes piece so.frames;
        count = omega (arith, so.count, length-append so.read piece, length-append stream.bytes piece);
        tells = so.tells;
        course = piece_course so.order so.read from to so.course stream.bytes piece count course frames running caught size fact moves;
      }

  found_same : left ≡ to.left → course ≡ to.course → Progress core stream from behind start now
  found_same none same =
      record {
        order = so.order;
        stands = so.stands;
        unended = so.unended;
        read = so.read;
        consumed = subst (λ l. Takes from.left l so.read) (sym none) so.consumed;
        frames = so.frames;
        count = so.count;
        tells = so.tells;
        course = subst (λ c. WhereTold (SoFar so.order so.read from.collected to.collected) from.course c) (sym same) so.course;
      }

  found_end : left ≡ to.left → course ≡ to.course → IfSome to.course (λ c. NoneOpen so.order ⊎ HasNoPoll c) → EndsHere core stream Border from behind start now
  unfolding found_same
  found_end none same fact =
      record {
        progress = found_same none same;
        at_end = λ sound within other.
            subst (λ c. WhereTold (PatientAtEnd so.order so.read) from.course c) (sym same) (end_course so.order so.read from to so.course stream.bytes frames running fact);
      }

  -- a read found this where no request was open
  pub read_finds : (into : List ℕ) (found : Got) → core.head ≡ None → ReadLeaves to.left left into found → ReadMoves to.course course found → ReadStops to.course found → Finds core stream from behind start now into found
  read_finds into (Bytes count) idle leaves moves stops =
      found_piece (take count into) count (length-take-le count into leaves.within) leaves.taken moves (may_idle so.order (λ c. PassesNoQuiet c.polls c.offset count) to.course (idle_none idle) stops)
  read_finds into End idle leaves moves stops = found_end leaves.same moves (may_end so.order to.course (idle_none idle))
  read_finds into Quiet idle leaves moves stops = stops
  read_finds into got.Failed idle leaves moves stops = found_same leaves moves

  -- a poll found this
  pub poll_finds_piece : (into : List ℕ) (count : ℕ) → ReadLeaves to.left left into (Bytes count) → ReadMoves to.course course (Bytes count) → PollStops to.course (Bytes count)
      → Progress core (with_piece (take count into) stream) from behind start now
  poll_finds_piece into count leaves moves stops =
      found_piece (take count into) count (length-take-le count into leaves.within) leaves.taken moves (may_polled so.order (λ c. PassesNoQuiet c.polls c.offset count) to.course stops)

  pub poll_finds_end : (into : List ℕ) → ReadLeaves to.left left into End → ReadMoves to.course course End → PollStops to.course End → EndsHere core stream Border from behind start now
  poll_finds_end into leaves moves stops = found_end leaves.same moves (may_polled_end so.order to.course stops)

  pub poll_fails : (into : List ℕ) → ReadLeaves to.left left into got.Failed → ReadMoves to.course course got.Failed → Progress core stream from behind start now
  poll_fails into leaves moves = found_same leaves moves

-- ---- offsets

stays_quiet : (from next : Option Course) → QuietMoves from next → Stays from next
stays_quiet None next moves None count at = tt
stays_quiet None next moves (Some start) count at = rw moves tt
stays_quiet (Some from) None moves start count at = absurd moves
stays_quiet (Some from) (Some next) moves None count at = tt
stays_quiet (Some from) (Some next) moves (Some start) count at = let same : next.offset ≡ from.offset = ap (λ (c : Course). c.offset) moves.has in omega (arith, at, same)

pub stays_more : (course from next : Option Course) → Stays course from → QuietMoves from next → Stays course next
stays_more course from next stays moves = λ start count at. stays_quiet from next moves start count (stays start count at)

pub stays_same : (course : Option Course) → Stays course course
stays_same course = λ start count at. at

-- however the input is found to end where it has no more
pub ends_as : (ending : Ending) (core : Core) (stream : Waiting) (from to : Heard) (start now : Told) → EndsHere core stream Border from to start now → EndsHere core stream ending from to start now
ends_as ending core stream from to start now here = record { progress = here.progress; at_end = λ sound within other. here.at_end sound within (λ failed. absurd cc) }
