-- How far a session has come.
use Rattle.std.specs.Prelude.{◌≡◌, ◌≢◌, ◌⊎◌, ◌+◌, ◌++◌, ◌<◌, ◌≤◌, ℕ, List, [], length, take, false, Option, Some, None, slice_get}
use Rattle.std.specs.Option.{option_map}
use Rattle.bsp_edge.specs.Course.{Course, moved}
use Rattle.bsp_edge.specs.Faults.{Rose}
use Rattle.bsp_edge.specs.declared.reading.Got.{Got}
use Rattle.bsp_edge.specs.declared.reading.Got.TheVariants.{Bytes, End, Quiet}
use Rattle.bsp_edge.specs.declared.reading.Got.TheVariants as got
use Rattle.bsp_edge.specs.Streams.{Takes, IsDry}
use Rattle.rpc_frame.specs.Frames.{FramesTo, HasNoFrame, IsSound, Waiting}
use Rattle.rpc_frame.specs.Limits.{stream_limit}
use Rattle.rpc_frame.specs.declared.damage.Damage.{Damage}
use Rattle.rpc_frame.specs.declared.damage.DamageKind.TheVariants.{Truncated}
use Rattle.rpc_frame.specs.Damages.{HasDamage}
use Rattle.session_law.specs.Order.{Event, takes_of, end_of}
use Rattle.session_law.specs.Verdicts.{HasVerdict, IsBare}
use Rattle.session_core.specs.Settled.{Awaits, IsAsking, IsBack, IsSettled, NeedsNothing, left_to_do}
use Rattle.session_core.specs.Standing.{StandsFor, IsAlive, IsQuiet, IsUpHead, status_of}
use Rattle.session_core.specs.State.{Rest, rest_of}
use Rattle.session_core.specs.declared.session.Core.{Core}
use Rattle.bsp_cli.specs.Outcomes.{how_of}
use Rattle.bsp_cli.specs.Session.{FailedInLast, IsCut}
use Rattle.bsp_cli.specs.Outside.{Heard, Told, ToldBy}
use Rattle.bsp_cli.specs.Patience.{FellAt, Patient, PatientAtEnd, Prompt, WaitedLast, WaitsIdle, polls_left}
use Rattle.bsp_cli.specs.Offsets.{IsAt, WhereTold}
use Rattle.bsp_cli.specs.Writing.{GoesThrough, GoesWell, Stops}
use Rattle.worker_pool.specs.Jobs.{JobTree}
use Rattle.bsp_cli.specs.declared.outcome.Ending.{Ending}
use Rattle.bsp_cli.specs.declared.outcome.Ending.TheVariants.{Border, Damaged, Failed}
use Rattle.bsp_cli.specs.declared.outcome.Outcome.{Outcome}
use Rattle.bsp_cli.specs.declared.outcome.Outcome.TheVariants as outcomes
use Rattle.bsp_cli.specs.declared.stop.Stop.{Stop}

-- ---- between two calls

-- the core has written all, and found memory so far; what it needs is still to be met
pub record MayNeed (core : Core) : Type 0 where
  pub quiet : IsQuiet core
  pub settled : IsSettled (rest_of core)
  pub asking : IsAsking (rest_of core)
  pub alive : IsAlive core

-- and what it needed was met
pub record IsMet (core : Core) : Type 0 where
  pub quiet : IsQuiet core
  pub settled : IsSettled (rest_of core)
  pub needs : NeedsNothing (rest_of core)
  pub up : IsUpHead core.head
  pub alive : IsAlive core

-- the core may be given the next event
pub record IsReady (core : Core) : Type 0 where
  pub met : IsMet core
  pub running : status_of core ≡ None

-- the core took an exit, and owes nothing more
pub record HasEnded (core : Core) (status : Option ℕ) : Type 0 where
  pub met : IsMet core
  pub status_is : status_of core ≡ status

-- the core acted on what the tree handed out
pub record TookHand (old new : Rest) : Type 0 where
  pub settled : IsSettled new
  pub asking : IsAsking new
  pub back : (job : JobTree) → IsBack old job → IsBack new job
  pub awaits : (number : ℕ) → Awaits new number → ⊥
  pub given : new.given ≡ old.given
  pub fewer : left_to_do new < left_to_do old
  pub status : new.status ≡ old.status
  pub dead : new.dead ≡ false

-- it acted on a message, or on the end of the input
pub record TookMessage (old new : Rest) : Type 0 where
  pub settled : IsSettled new
  pub asking : IsAsking new
  pub back : (job : JobTree) → IsBack old job → IsBack new job
  pub awaits : (number : ℕ) → Awaits new number → Awaits old number
  pub given : new.given ≡ old.given
  pub dead : new.dead ≡ false

-- it acted on the outcome of the job with this number
pub record TookOutcome (old new : Rest) (number : ℕ) : Type 0 where
  pub settled : IsSettled new
  pub asking : IsAsking new
  pub back : (job : JobTree) → IsBack old job → job.number ≢ number → IsBack new job
  pub awaits : (other : ℕ) → Awaits new other → Awaits old other × (other ≢ number)
  pub given : new.given ≡ old.given
  pub no_more : left_to_do new ≤ left_to_do old
  pub status : new.status ≡ old.status
  pub dead : new.dead ≡ false

-- ---- how far the loop is

-- how many bytes of its stream a decoder was fed
abbrev pub fed : Waiting → ℕ
fed stream = stream.given_end + length stream.bytes

-- each quiet offset is one of before, with no more polls left
abbrev pub Stems : List (ℕ × ℕ) → List (ℕ × ℕ) → Type 0
Stems old new = (index offset after : ℕ) → slice_get new index ≡ Some (offset, after) → (before : ℕ) × (slice_get old index ≡ Some (offset, before)) × (after ≤ before)

-- what a source told of its course fits the order so far
pub record SoFar (order : List Event) (read : List ℕ) (collected_old collected_new : ℕ) (start now : Course) : Type 0 where
  pub at : now.offset ≡ start.offset + length read
  pub idle : WaitsIdle order read start now now.offset
  pub counted : polls_left start.polls + collected_old ≡ polls_left now.polls + collected_new
  pub stems : Stems start.polls now.polls
  pub verdicts : (bodies : List (List ℕ)) → HasVerdict order bodies → FellAt start now read bodies
  pub prompt : Prompt order read start now

-- The bytes read so far are the frames that the core took and then those that wait, and what the tree
-- handed out and the bytes written so far are the core's hands and writes.
pub record Progress (core : Core) (stream : Waiting) (from to : Heard) (start now : Told) : Type 0 where
  pub order : List Event
  pub stands : StandsFor core order
  pub unended : end_of order ≡ None
  pub read : List ℕ
  pub consumed : Takes from.left to.left read
  pub frames : FramesTo read (takes_of order) stream.bytes
  pub count : length read ≡ fed stream
  pub tells : ToldBy order [] start now
  pub course : WhereTold (SoFar order read from.collected to.collected) from.course to.course

-- the same, once the session had to stop before an end of its input
pub record Stopped (given_end : ℕ) (from to : Heard) (start now : Told) : Type 0 where
  pub order : List Event
  pub well : GoesWell order
  pub unended : end_of order ≡ None
  pub read : List ℕ
  pub consumed : Takes from.left to.left read
  pub waiting : List ℕ
  pub frames : FramesTo read (takes_of order) waiting
  pub count : length read ≡ given_end + length waiting
  pub tail : List ℕ
  pub tells : ToldBy order tail start now
  pub cut : tail ≢ [] → IsCut tail
  pub patient : WhereTold (Patient order read from.collected to.collected) from.course to.course
  pub prompt : WhereTold (Prompt order read) from.course to.course

-- the session had to stop as it waited: behind a poll that found the input quiet
pub record StoppedWaiting (given_end : ℕ) (from to : Heard) (start now : Told) : Type 0 where
  pub stopped : Stopped given_end from to start now
  pub waited : WhereTold (WaitedLast stopped.order stopped.read) from.course to.course

-- The session had to stop. Where the output failed, the last frame that was taken lies in the last piece that was read, or
-- the session waited.
pub record StoppedAt (Failed : Type 0) (given_end : ℕ) (from to : Heard) (start now : Told) : Type 0 where
  pub stopped : Stopped given_end from to start now
  pub at_last : Failed → WhereTold (FailedInLast stopped.order stopped.read given_end) from.course to.course

-- the input has no more, and no request is open
pub record EndsHere (core : Core) (stream : Waiting) (ending : Ending) (from to : Heard) (start now : Told) : Type 0 where
  pub progress : Progress core stream from to start now
  pub at_end : IsSound stream.bytes → fed stream < stream_limit → ending ≢ Failed → WhereTold (PatientAtEnd progress.order progress.read) from.course to.course

-- ---- the next piece

-- the damaged byte is one of this many behind so many
pub record IsWithin (damage : Damage) (before count : ℕ) : Type 0 where
  pub behind : before ≤ damage.place
  pub inside : damage.place < before + count

-- the bytes that wait, and a piece more
abbrev pub with_piece : List ℕ → Waiting → Waiting
with_piece piece stream = record stream { bytes = stream.bytes ++ piece }

-- the source came no further
abbrev pub Stays : Option Course → Option Course → Type 0
Stays course next = (start : Option Course) (count : ℕ) → IsAt start course count → IsAt start next count

-- a piece of this many bytes was read into the front of `into`
pub record Fetches (left left_new : Option (List ℕ)) (course course_new : Option Course) (into : List ℕ) (count : ℕ) : Type 0 where
  pub some : 0 < count
  pub fits : count ≤ length into
  pub taken : Takes left left_new (take count into)
  pub before : Option Course
  pub stays : Stays course before
  pub moves : course_new ≡ option_map (moved count) before

-- what a read found, and how far the session is with it
abbrev pub Finds : Core → Waiting → Heard → Heard → Told → Told → List ℕ → Got → Type 0
Finds core stream from to start now into (Bytes count) = Progress core (with_piece (take count into) stream) from to start now
Finds core stream from to start now into End = EndsHere core stream Border from to start now
Finds core stream from to start now into Quiet = ⊥
Finds core stream from to start now into got.Failed = Progress core stream from to start now

-- nothing more is left of the input, or its limit is reached
abbrev pub HasRunOut : Waiting → Option (List ℕ) → Type 0
HasRunOut stream left = IsDry left ⊎ (fed stream ≡ stream_limit)

-- the bytes that wait have no more, and end inside a frame
pub record EndsInside (stream : Waiting) (left : Option (List ℕ)) (damage : Damage) : Type 0 where
  pub sound : IsSound stream.bytes
  pub kind : damage.kind ≡ Truncated
  pub place : damage.place ≡ fed stream
  pub inside : stream.bytes ≢ []
  pub out : HasRunOut stream left

-- why the input is found to have ended, by the bytes that wait
abbrev pub EndsBy : Ending → Waiting → Option (List ℕ) → ℕ → ℕ → Type 0
EndsBy Border stream left faults_old faults_new = (stream.bytes ≡ []) × HasRunOut stream left
EndsBy (Damaged damage) stream left faults_old faults_new = HasDamage stream damage ⊎ EndsInside stream left damage
EndsBy Failed stream left faults_old faults_new = IsSound stream.bytes × Rose faults_old faults_new

-- ---- the next turn

-- the loop may go on: more was fed, no frame waits, and a list of frames can begin so
pub record MayGoOn (core : Core) (stream : Waiting) (fed_before faults_old faults_new : ℕ) : Type 0 where
  pub ready : IsReady core
  pub drained : HasNoFrame stream.bytes
  pub sound : IsSound stream.bytes
  pub more : fed_before < fed stream
  pub same : faults_new ≡ faults_old

-- the core may be told how the input ended
pub record MayEnd (core : Core) (stream : Waiting) (ending : Ending) (left : Option (List ℕ)) (faults_old faults_new : ℕ) : Type 0 where
  pub ready : IsReady core
  pub drained : HasNoFrame stream.bytes
  pub cause : EndsBy ending stream left faults_old faults_new

-- a frame was acted on that ends behind each front of the bytes in which none is whole
abbrev pub Passes : Waiting → Waiting → Type 0
Passes old new = (front rest : List ℕ) → old.bytes ≡ front ++ rest → HasNoFrame front → old.given_end + length front < new.given_end

-- the core acted on the end of the input and owes nothing more, or the session had to stop
pub data Finishes (c d : Core) (ending : Ending) (old new : Told) : Outcome → Type 0 where
  ended : GoesThrough IsBare c d [] (Some (how_of ending)) old new → IsMet d → Finishes c d ending old new (outcomes.InputEnded ending)
  halted : (stop : Stop) → Stops IsBare c [] (Some (how_of ending)) old new → Finishes c d ending old new (outcomes.Stopped stop)
