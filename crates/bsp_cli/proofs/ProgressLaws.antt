-- How a session comes further, frame by frame.
use Rattle.std.proofs.Common.{◌≡◌, ◌+◌, ◌++◌, ℕ, List, [], ◌∷◌, length, None, refl, sym, ap, ◌∙◌, subst, arith, append-nil, length-append}
use Rattle.rpc_frame.specs.Frames.{BeginsWith, HasNoFrame, IsBorder, FramesTo, IsSound, Waiting}
use Rattle.rpc_frame.specs.declared.damage.Damage.{Damage}
use Rattle.rpc_frame.specs.Damages.{DamageAt, HasDamage}
use Rattle.rpc_frame.proofs.BrokenLaws.{broken_damaged}
use Rattle.rpc_frame.proofs.DamageLaws.{damage_behind, damage_broken, damage_kind, damage_place}
use Rattle.rpc_frame.proofs.FrameLaws.{FramesTo-append, sound_behind as sound_behind_frames, broken_rest, rest_no_border}
use Rattle.session_law.specs.Order.{Event, takes_of}
use Rattle.session_core.specs.declared.session.Core.{Core}
use Rattle.session_law.specs.Verdicts.{IsBare}
use Rattle.bsp_cli.specs.Progress.{Progress, Stopped, fed, with_piece}
use Rattle.bsp_cli.specs.Outside.{Heard, Told}
use Rattle.bsp_cli.specs.Writing.{GoesThrough, Stops}
use Rattle.bsp_cli.proofs.EventLaws.{takes_of-append, end_of-append, tells_append}
use Rattle.bsp_cli.proofs.HeardLaws.{acts_course, patient_course, prompt_course}
use Rattle.bsp_cli.proofs.WritingLaws.{stood_well}

-- one frame and then such bytes
one_frame : (bytes body after : List ℕ) → BeginsWith bytes body after → FramesTo bytes (body ∷ []) after
one_frame bytes body after begins = record { after = after; begins = begins; others = refl }

module _ (c d : Core) (old new : Waiting) (body : List ℕ) (from to : Heard) (start before behind : Told) (begins : BeginsWith old.bytes body new.bytes) (same : fed new ≡ fed old)
    (so : Progress c old from to start before) where
  joined_frames : (events : List Event) → takes_of events ≡ body ∷ [] → FramesTo so.read (takes_of (events ++ so.order)) new.bytes
  joined_frames events takes =
      subst (λ bodies. FramesTo so.read bodies new.bytes) (sym (takes_of-append events so.order ∙ ap (λ bodies. takes_of so.order ++ bodies) takes))
      (FramesTo-append so.read (takes_of so.order) (body ∷ []) old.bytes new.bytes so.frames (one_frame old.bytes body new.bytes begins))

  -- a frame that waited was acted on
  pub progress_acts : GoesThrough IsBare c d (body ∷ []) None before behind → Progress d new from to start behind
  progress_acts steps =
      record {
        order = steps.events ++ so.order;
        stands = steps.stands so.order so.stands;
        unended = end_of-append steps.events so.order steps.ended ∙ so.unended;
        read = so.read;
        consumed = so.consumed;
        frames = joined_frames steps.events steps.takes;
        count = so.count ∙ sym same;
        tells = tells_append so.order steps.events [] start before behind so.tells steps.tells;
        course = acts_course steps.events so.order so.read from to steps.such so.course;
      }

  -- a frame that waited was taken, and the session had to stop
  pub stopped_at : Stops IsBare c (body ∷ []) None before behind → Stopped new.given_end from to start behind
  stopped_at stops =
      record {
        order = stops.events ++ so.order;
        well = stops.well so.order so.stands;
        unended = end_of-append stops.events so.order stops.ended ∙ so.unended;
        read = so.read;
        consumed = so.consumed;
        waiting = new.bytes;
        frames = joined_frames stops.events stops.takes;
        count = so.count ∙ sym same;
        tail = stops.tail;
        tells = tells_append so.order stops.events stops.tail start before behind so.tells stops.tells;
        cut = stops.cut;
        patient = patient_course (stops.events ++ so.order) so.read from to (acts_course stops.events so.order so.read from to stops.such so.course);
        prompt = prompt_course (stops.events ++ so.order) so.read from to (acts_course stops.events so.order so.read from to stops.such so.course);
      }

-- the session stops where it stands
pub stopped_here : (core : Core) (stream : Waiting) (from to : Heard) (start now : Told) → Progress core stream from to start now → Stopped stream.given_end from to start now
stopped_here core stream from to start now so =
    record {
      order = so.order;
      well = stood_well core so.order so.stands;
      unended = so.unended;
      read = so.read;
      consumed = so.consumed;
      waiting = stream.bytes;
      frames = so.frames;
      count = so.count;
      tail = [];
      tells = so.tells;
      cut = λ some. absurd (some refl);
      patient = patient_course so.order so.read from to so.course;
      prompt = prompt_course so.order so.read from to so.course;
    }

-- what stands behind a frame is sound, or broken, as the whole is
pub sound_behind : (bytes body after : List ℕ) → BeginsWith bytes body after → IsSound bytes → IsSound after
sound_behind bytes body after begins sound = sound_behind_frames bytes (body ∷ []) after (one_frame bytes body after begins) sound

-- the damage of a stream is that of what waits behind a frame
pub damage_left : (old new : Waiting) (body : List ℕ) → BeginsWith old.bytes body new.bytes → fed new ≡ fed old → (damage : Damage) → HasDamage old damage → HasDamage new damage
damage_left old new body begins same damage has =
    let frame = begins.frame in
    let broken = broken_rest old.bytes (body ∷ []) new.bytes (one_frame old.bytes body new.bytes begins) (damage_broken old.bytes has.place damage.kind has.at) in
    let left = (broken_damaged new.bytes).0 broken in
    let alone : FramesTo frame (body ∷ []) [] = record { after = []; begins = record { frame = frame; «is» = begins.«is»; whole = sym (append-nil frame) }; others = refl } in
    let here = damage_behind frame (body ∷ []) new.bytes left.place left.kind alone left.at in
    let there : DamageAt (frame ++ new.bytes) has.place damage.kind = subst (λ bytes. DamageAt bytes has.place damage.kind) begins.whole has.at in
    let place : has.place ≡ length frame + left.place = damage_place (frame ++ new.bytes) has.place (length frame + left.place) damage.kind left.kind there here in
    let kind : damage.kind ≡ left.kind = damage_kind (frame ++ new.bytes) has.place (length frame + left.place) damage.kind left.kind there here in
    record {
      place = left.place;
      counted = omega (arith, has.counted, place, same, ap length begins.whole, length-append frame new.bytes);
      at = subst (λ k. DamageAt new.bytes left.place k) (sym kind) left.at;
    }

-- where no frame begins, only nothing is frames and nothing more
pub border_empty : (bytes : List ℕ) → HasNoFrame bytes → IsBorder bytes → bytes ≡ []
border_empty [] none border = refl
border_empty (b ∷ bytes) none border = absurd (rest_no_border (b ∷ bytes) [] (b ∷ bytes) refl none (omega arith) border)

-- the decoder has the piece that was read
pub progress_fed : (c d : Core) (old new : Waiting) (piece : List ℕ) (from to : Heard) (start now : Told) → d ≡ c → new ≡ with_piece piece old → Progress c (with_piece piece old) from to start now → Progress d new from to start now
progress_fed c d old new piece from to start now same stream so = rw (same, stream) so

-- it found no memory for the piece
pub stopped_feeding : (core : Core) (old new : Waiting) (piece : List ℕ) (from to : Heard) (start now : Told) → new ≡ old → Progress core (with_piece piece old) from to start now → Stopped new.given_end from to start now
stopped_feeding core old new piece from to start now same so = rw same (stopped_here core (with_piece piece old) from to start now so)
