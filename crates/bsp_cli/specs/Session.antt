-- What `serve` does to its input, its tree and its output, whatever they are: the bytes taken, what the
-- tree handed out and the bytes written are the takes, the hands and the writes of one lawful order, and
-- the status agrees with it. (`Patience.antt` says of the same order when more input is waited for.)
use Rattle.std.specs.Prelude.{◌≡◌, ◌≢◌, ◌⊎◌, ◌+◌, ◌-◌, ◌^◌, ◌++◌, ◌≤◌, ◌<◌, ℕ, suc, List, [], length, take, flat_map, Option, Some, None}
use Rattle.bsp_edge.specs.Course.{Course}
use Rattle.bsp_edge.specs.Faults.{Rose}
use Rattle.ob_text.specs.Held.{Entries}
use Rattle.bsp_edge.specs.Handing.{Hands}
use Rattle.bsp_edge.specs.Streams.{Takes, Gives, IsDry}
use Rattle.rpc_frame.specs.Frames.{Frames, IsBroken, IsSound}
use Rattle.rpc_frame.specs.Limits.{stream_limit}
use Rattle.rpc_frame.specs.declared.damage.Damage.{Damage}
use Rattle.rpc_frame.specs.declared.damage.DamageKind.TheVariants.{Truncated}
use Rattle.rpc_frame.specs.Damages.{DamageAt}
use Rattle.rpc_peer.specs.Said.{Said}
use Rattle.session_law.specs.declared.InputEnd.{InputEnd}
use Rattle.session_law.specs.declared.InputEnd.TheVariants.{Border, Damaged, Failed}
use Rattle.session_law.specs.AnswersAll.{IsSettled}
use Rattle.session_law.specs.EachRests.{EachRests}
use Rattle.session_law.specs.IsFramed.{IsFramed, text_of}
use Rattle.session_law.specs.Lawful.{Lawful}
use Rattle.session_law.specs.Order.{Event, takes_of, writes_of, hands_of, failures_of, end_of}
use Rattle.session_law.specs.Past.{status_after}
use Rattle.bsp_cli.specs.Patience.{WaitedLast}
use Rattle.bsp_cli.specs.Offsets.{EndsInLast, WhereTold}

-- what a source told before a call and behind it: what is left, its course, and the faults
pub record InputChange : Type 0 where
  pub old : Option (List ℕ)
  pub new : Option (List ℕ)
  pub course_old : Option Course
  pub course_new : Option Course
  pub faults_old : ℕ
  pub faults_new : ℕ

abbrev pub input_changed : Option (List ℕ) → Option (List ℕ) → Option Course → Option Course → ℕ → ℕ → InputChange
input_changed old new course_old course_new faults_old faults_new =
    record { old = old; new = new; course_old = course_old; course_new = course_new; faults_old = faults_old; faults_new = faults_new }

-- what a sink told before a call and behind it: what it was given, and the faults
pub record Change : Type 0 where
  pub old : Option (List ℕ)
  pub new : Option (List ℕ)
  pub faults_old : ℕ
  pub faults_new : ℕ

abbrev pub changed : Option (List ℕ) → Option (List ℕ) → ℕ → ℕ → Change
changed old new faults_old faults_new = record { old = old; new = new; faults_old = faults_old; faults_new = faults_new }

-- what one tree told before a call and behind it: the snapshots handed out, and the faults
pub record TreeChange : Type 0 where
  pub old : Option (List Entries)
  pub new : Option (List Entries)
  pub faults_old : ℕ
  pub faults_new : ℕ

abbrev pub tree_changed : Option (List Entries) → Option (List Entries) → ℕ → ℕ → TreeChange
tree_changed old new faults_old faults_new = record { old = old; new = new; faults_old = faults_old; faults_new = faults_new }

-- how many outcomes of a crew were collected before a call and behind it
pub record CrewChange : Type 0 where
  pub old : ℕ
  pub new : ℕ

abbrev pub crew_changed : ℕ → ℕ → CrewChange
crew_changed old new = record { old = old; new = new }

-- A count of faults went up by no less than these failures, unless it stands at its last value, and it
-- is the same where there were none.
pub record RoseBy (failures before after : ℕ) : Type 0 where
  pub rises : before ≤ after
  pub by_all : after < 2 ^ 64 - 1 → before + failures ≤ after
  pub by_none : failures ≡ 0 → after ≡ before

-- a proper front of one message of the server
pub record IsCut (bytes : List ℕ) : Type 0 where
  pub message : Said
  pub framed : IsFramed message
  pub rest : List ℕ
  pub more : 0 < length rest
  pub whole : text_of message ≡ bytes ++ rest

-- the input has no more: nothing is left of it, or it reached its limit
abbrev pub HasNoMore : InputChange → List ℕ → Type 0
HasNoMore input read = IsDry input.new ⊎ (length read ≡ stream_limit)

-- the bytes have no more and end inside a frame, which nothing before is wrong with
pub record IsTruncated (input : InputChange) (read rest : List ℕ) (damage : Damage) : Type 0 where
  pub sound : IsSound read
  pub kind : damage.kind ≡ Truncated
  pub place : damage.place ≡ length read
  pub inside : rest ≢ []
  pub no_more : HasNoMore input read

-- the bytes have this damage, and its byte lies in the last piece that was read
pub record IsInLast (input : InputChange) (read : List ℕ) (damage : Damage) : Type 0 where
  pub at : DamageAt read damage.place damage.kind
  pub last : WhereTold (EndsInLast (suc damage.place)) input.course_old input.course_new

-- the damage is in the bytes, or at their end
abbrev pub IsDamage : Option Damage → InputChange → List ℕ → List ℕ → Type 0
IsDamage None input read rest = ⊥
IsDamage (Some damage) input read rest = IsInLast input read damage ⊎ IsTruncated input read rest damage

-- why the input is found to have ended so
abbrev pub EndsFor : Option InputEnd → Option Damage → InputChange → List ℕ → List ℕ → Type 0
EndsFor None damage input read rest = Unit {0}
EndsFor (Some Border) damage input read rest = (rest ≡ []) × HasNoMore input read
EndsFor (Some Damaged) damage input read rest = IsDamage damage input read rest
EndsFor (Some Failed) damage input read rest = (IsBroken read → ⊥) × Rose input.faults_old input.faults_new

-- how many of the bytes read count as taken: all of them where the input was found to have ended,
-- and those through the last frame acted on where it wasn't
abbrev pub Counts : Option InputEnd → ℕ → List ℕ → List ℕ → Type 0
Counts None taken read rest = rest ≡ []
Counts (Some how) taken read rest = taken ≡ length read

-- the output failed where the last of the bytes taken lies in the last piece that was read, or where the session waited
abbrev pub FailedInLast : List Event → List ℕ → ℕ → Course → Course → Type 0
FailedInLast order read taken start now = EndsInLast taken start now ⊎ WaitedLast order read start now

-- what became of the order and of the bytes that were read
pub record Session (order : List Event) (read : List ℕ) (input : InputChange) (tree : TreeChange) (output : Change) (status taken : ℕ) (damage : Option Damage) : Type 0 where
  pub lawful : Lawful order
  -- and goes as far as it can in each step
  pub rests : EachRests order
  -- its takes are the frames of the bytes taken
  pub consumed : Takes input.old input.new read
  pub within : taken ≤ length read
  pub rest : List ℕ
  pub frames : Frames (take taken read) (takes_of order) rest
  pub counts : Counts (end_of order) taken read rest
  pub ends_for : EndsFor (end_of order) damage input read rest
  -- where the input wasn't found to have ended, the session took an exit, which lies in the last piece that was read
  pub in_last : status < 4 → end_of order ≡ None → WhereTold (EndsInLast taken) input.course_old input.course_new
  -- or the output failed, at a frame of the last piece, or as an outcome was acted on: then no piece was read behind the last
  -- poll that found the input quiet
  pub failed_in_last : status ≡ 4 → end_of order ≡ None → WhereTold (FailedInLast order read taken) input.course_old input.course_new
  -- its hands are what the tree handed out, and its failures are among the tree's faults
  pub hands : Hands tree.old tree.new (hands_of order)
  pub failures : RoseBy (failures_of order) tree.faults_old tree.faults_new
  -- its writes are the bytes written, and at most a proper front of one message more
  pub tail : List ℕ
  pub put : Gives output.old output.new (flat_map text_of (writes_of order) ++ tail)
  pub cut : tail ≢ [] → IsCut tail
  -- where nothing outside failed: the output is whole, all is answered, and the status fits
  pub whole : status < 4 → tail ≡ []
  pub settled : status < 4 → IsSettled order
  pub agrees : status < 4 → status_after order ≡ Some status
  pub no_other : status ≤ 5

-- a read found that the input has no more, before its limit, and nothing is wrong with what was read but that it may end
-- inside a frame
pub record FoundNoMore (order : List Event) (read : List ℕ) : Type 0 where
  pub ended : (end_of order ≡ Some Border) ⊎ (end_of order ≡ Some Damaged)
  pub sound : IsSound read
  pub within : length read < stream_limit
