-- One turn of the loop: what a piece, an end and a stop lead to.
use Rattle.std.proofs.Common.{◌≡◌, inl, inr, ℕ, List, Option, Result, Ok, Err, OnErr, OnOk, IfOk, IsErrOf}
use Rattle.bsp_cli.specs.Offsets.{IsAt}
use Rattle.bsp_cli.specs.declared.stop.Stop.TheVariants.{Sink}
use Rattle.bsp_edge.specs.Course.{Course}
use Rattle.rpc_frame.specs.Frames.{IsSound, Waiting}
use Rattle.session_core.specs.declared.session.Core.{Core}
use Rattle.bsp_cli.specs.Outside.{Heard, Told, heard}
use Rattle.bsp_cli.specs.Patience.{WaitedLast}
use Rattle.bsp_cli.specs.Session.{FailedInLast}
use Rattle.bsp_cli.proofs.HeardLaws.{where_then}
use Rattle.bsp_cli.specs.Offsets.{EndsInLast, WhereTold}
use Rattle.bsp_cli.specs.Progress.{EndsHere, Progress, Stopped, StoppedAt, StoppedWaiting, fed, with_piece}
use Rattle.bsp_cli.specs.declared.outcome.Ending.{Ending}
use Rattle.bsp_cli.specs.declared.serve.Turn.{Turn}
use Rattle.bsp_cli.specs.declared.serve.Turn.TheVariants.{Ends}
use Rattle.bsp_cli.specs.declared.stop.Stop.{Stop}

-- the damage of a piece is no end at which the input has no more
ends_broken : (ending : Ending) (core : Core) (stream : Waiting) (from to : Heard) (start now : Told) → (IsSound stream.bytes → ⊥) → Progress core stream from to start now → EndsHere core stream ending from to start now
ends_broken ending core stream from to start now broken so = record { progress = so; at_end = λ sound within other. absurd (broken sound) }

-- the session had to stop as it waited
pub stopped_waiting : (Failed : Type 0) (given_end : ℕ) (from to : Heard) (start now : Told) → StoppedWaiting given_end from to start now → StoppedAt Failed given_end from to start now
stopped_waiting Failed given_end from to start now so =
    record {
      stopped = so.stopped;
      at_last = λ failed.
          where_then (WaitedLast so.stopped.order so.stopped.read) (FailedInLast so.stopped.order so.stopped.read given_end) from.course to.course (λ s n waited. inr waited) so.waited;
    }

-- or as it acted on a piece
stopped_acting : (Failed : Type 0) (given_end : ℕ) (from to : Heard) (start now : Told) → (Failed → WhereTold (EndsInLast given_end) from.course to.course) → Stopped given_end from to start now → StoppedAt Failed given_end from to start now
stopped_acting Failed given_end from to start now last so =
    record {
      stopped = so;
      at_last = λ failed. where_then (EndsInLast given_end) (FailedInLast so.order so.read given_end) from.course to.course (λ s n ends. inl ends) (last failed);
    }

-- ---- a piece was read, and acted on

module _ (c0 c1 c2 : Core) (d0 d1 d2 : Waiting) (front piece : List ℕ) (left0 left : Option (List ℕ)) (course0 course : Option Course) (k m n : ℕ) (t0 t1 t2 : Told) (same : d1 ≡ d0) (whole : piece ≡ front) (collected : n ≡ m)
    (fetched : (from : Heard) (start : Told) → Progress c0 d0 from (heard left0 course0 k) start t0 → Progress c1 (with_piece front d0) from (heard left course m) start t1) where
  -- what was fetched, as it is acted on
  read_so : (from : Heard) (start : Told) → Progress c0 d0 from (heard left0 course0 k) start t0 → Progress c1 (with_piece piece d1) from (heard left course n) start t1
  read_so from start so = rw (same, whole, collected) (fetched from start so)

  pub turn_progress : (r : Result Turn Stop) → OnOk r ((from to : Heard) (start : Told) → Progress c1 (with_piece piece d1) from to start t1 → Progress c2 d2 from to start t2)
      → OnOk r ((from : Heard) (start : Told) → Progress c0 d0 from (heard left0 course0 k) start t0 → Progress c2 d2 from (heard left course n) start t2)
  turn_progress (Ok turn) acts = λ from start so. acts from (heard left course n) start (read_so from start so)
  turn_progress (Err stop) acts = tt

  pub turn_stopped : (r : Result Turn Stop) → OnErr r ((from to : Heard) (start : Told) → Progress c1 (with_piece piece d1) from to start t1 → Stopped d2.given_end from to start t2)
      → (IsErrOf r Sink → (start : Option Course) → IsAt start course0 (fed d0) → WhereTold (EndsInLast d2.given_end) start course)
      → OnErr r ((from : Heard) (start : Told) → Progress c0 d0 from (heard left0 course0 k) start t0 → IsAt from.course course0 (fed d0) → StoppedAt (IsErrOf r Sink) d2.given_end from (heard left course n) start t2)
  turn_stopped (Ok turn) stops last = tt
  turn_stopped (Err stop) stops last = λ from start so at.
      stopped_acting (IsErrOf {T = Turn} (Err stop) Sink) d2.given_end from (heard left course n) start t2 (λ failed. last failed from.course at) (stops from (heard left course n) start (read_so from start so))

  pub turn_ends : (r : Result Turn Stop) → OnOk r ((from to : Heard) (start : Told) → Progress c1 (with_piece piece d1) from to start t1 → Progress c2 d2 from to start t2)
      → IfOk r (λ turn. (ending : Ending) → turn ≡ Ends ending → IsSound d2.bytes → ⊥)
      → IfOk r (λ turn. (ending : Ending) → turn ≡ Ends ending → (from : Heard) (start : Told) → Progress c0 d0 from (heard left0 course0 k) start t0 → EndsHere c2 d2 ending from (heard left course n) start t2)
  turn_ends (Ok turn) acts broken = λ ending is from start so.
      ends_broken ending c2 d2 from (heard left course n) start t2 (broken ending is) (acts from (heard left course n) start (read_so from start so))
  turn_ends (Err stop) acts broken = tt
