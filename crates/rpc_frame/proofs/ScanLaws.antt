-- What the decoder knows of the bytes that it keeps, as facts on the stream.
use Rattle.std.proofs.Common.{◌≡◌, ℕ, zero, suc, ◌+◌, ◌<◌, ◌≤◌, None, List, [], ◌∷◌, ◌++◌, length, get_or, take, drop, sym, ◌∙◌, ap, subst, refl, arith, append_assoc, length-append, take-append-drop}
use Rattle.std.proofs.lemmas.List.{append-nil, take_at, drop_at, length-take-le, nil_from_length}
use Rattle.rpc_frame.specs.Limits.{content_limit}
use Rattle.rpc_frame.specs.declared.damage.Damage.{Damage}
use Rattle.rpc_frame.specs.declared.head.Head.{Head}
use Rattle.rpc_frame.specs.declared.head.Spot.TheVariants.{Field}
use Rattle.rpc_frame.specs.declared.reading.Reading.{Reading}
use Rattle.rpc_frame.specs.declared.reading.Reading.TheVariants.{Header, Content, Broken}
use Rattle.rpc_frame.specs.declared.reading.Mark.{Mark}
use Rattle.rpc_frame.specs.declared.reading.Step.{Step}
use Rattle.rpc_frame.specs.declared.reading.Step.TheVariants.{Inside, Whole}
use Rattle.rpc_frame.specs.Frames.{BeginsWith, FramesTo, HasNoFrame, IsBorder, IsSound, IsBroken}
use Rattle.rpc_frame.specs.Damages.{DamageAt, HasDamage}
use Rattle.rpc_frame.specs.Partial.{IsInHeader, IsPartRead, IsMarked, Makes, Marked, Scanned, Stepped, GoesOn}
use Rattle.rpc_frame.proofs.StandLaws.{closed_header}
use Rattle.rpc_frame.proofs.HeaderLaws.{header_some, header_limit}
use Rattle.rpc_frame.proofs.FrameLaws.{cut_sound, cut_no_frame, never_broken, never_no_frame, sound_front, broken_front, rest_no_border, frames_apart}
use Rattle.rpc_frame.proofs.PartLaws.{header_cut, content_cut, bad_never, bad_damage}
use Rattle.rpc_frame.proofs.DamageLaws.{damage_behind}

-- From the first reading and its marks, the bytes of the piece before the rest led to the next ones.
-- The stream has so many bytes before the piece, and before its rest.
pub record ReadsOn (first next : Reading) (before after : List Mark) (piece rest : List ℕ) (begun offset : ℕ) : Type 0 where
  pub seen : List ℕ
  pub cut : piece ≡ seen ++ rest
  pub offset_is : offset ≡ begun + length seen
  pub scanned : (from : ℕ) (bytes : List ℕ) → from + length bytes ≡ begun → Scanned from first before bytes → Scanned from next after (bytes ++ seen)

pub reads_sound : (offset : ℕ) (reading : Reading) (p : List ℕ) → ((damage : Damage) → reading ≡ Broken damage → ⊥) → IsPartRead offset reading p → IsSound p
reads_sound offset (Header came head) p going r = cut_sound p (header_cut came head p r)
reads_sound offset (Content header size missing) p going r = cut_sound p (content_cut header size missing p r)
reads_sound offset (Broken damage) p going r = absurd (going damage refl)

pub reads_no_frame : (offset : ℕ) (reading : Reading) (p : List ℕ) → IsPartRead offset reading p → HasNoFrame p
reads_no_frame offset (Header came head) p r = cut_no_frame p (header_cut came head p r)
reads_no_frame offset (Content header size missing) p r = cut_no_frame p (content_cut header size missing p r)
reads_no_frame offset (Broken damage) p r = never_no_frame p (bad_never offset damage p r)

-- Only at the start has nothing come.
pub reads_some : (offset : ℕ) (reading : Reading) (p : List ℕ) → ((head : Head) → reading ≡ Header 0 head → ⊥) → IsPartRead offset reading p → 0 < length p
reads_some offset (Header zero head) p other r = absurd (other head refl)
reads_some offset (Header (suc came) head) p other r = omega (arith, r.counted)
reads_some offset (Content header size missing) p other r = omega (arith, header_some r.front size (closed_header r.front size r.closed), ap length r.whole, length-append r.front r.content)
reads_some offset (Broken damage) p other r = omega (arith, ap length r.whole, length-append r.front (r.byte ∷ r.after))

-- Frames with their marks.
pub marked_more : (b : List ℕ) (ms : List Mark) (r x : List ℕ) → Marked b ms r → Marked (b ++ x) ms (r ++ x)
marked_more b [] r x m = ap (λ t. t ++ x) m
marked_more b (k ∷ ms) r x m = record {
  frame = m.frame;
  after = m.after ++ x;
  «is» = m.is;
  whole = ap (λ t. t ++ x) m.whole ∙ append_assoc m.frame m.after x;
  others = marked_more m.after ms r x m.others;
}

pub marked_push : (b : List ℕ) (ms : List Mark) (k : Mark) (r : List ℕ) → Marked b ms r → IsMarked k r → Marked b (ms ++ k ∷ []) []
marked_push b [] k r m h = record { frame = r; after = []; «is» = h; whole = m ∙ sym (append-nil r); others = refl }
marked_push b (j ∷ ms) k r m h = record { frame = m.frame; after = m.after; «is» = m.is; whole = m.whole; others = marked_push m.after ms k r m.others h }

-- some contents whose frames these are
pub record HasFrames (b r : List ℕ) : Type 0 where
  pub bodies : List (List ℕ)
  pub frames : FramesTo b bodies r

pub marked_frames : (b : List ℕ) (ms : List Mark) (r : List ℕ) → Marked b ms r → HasFrames b r
marked_frames b [] r m = record { bodies = []; frames = m }
marked_frames b (k ∷ ms) r m =
    let others = marked_frames m.after ms r m.others in
    record {
      bodies = m.is.body ∷ others.bodies;
      frames = record {
        after = m.after;
        begins = record { frame = m.frame; «is» = m.is.is; whole = m.whole };
        others = others.frames;
      };
    }

-- What a scan of the bytes says of the stream.
pub scanned_sound : (from : ℕ) (reading : Reading) (ms : List Mark) (b : List ℕ) → ((damage : Damage) → reading ≡ Broken damage → ⊥) → Scanned from reading ms b → IsSound b
scanned_sound from reading ms b going s =
    let f = marked_frames b ms s.part s.marked in
    sound_front b f.bodies s.part f.frames (reads_sound s.offset reading s.part going s.reads)

pub scanned_broken : (from : ℕ) (damage : Damage) (ms : List Mark) (b : List ℕ) → Scanned from (Broken damage) ms b → IsBroken b
scanned_broken from damage ms b s =
    let f = marked_frames b ms s.part s.marked in
    broken_front b f.bodies s.part f.frames (never_broken s.part (bad_never s.offset damage s.part s.reads))

pub scanned_damage : (from : ℕ) (damage : Damage) (ms : List Mark) (b : List ℕ) → Scanned from (Broken damage) ms b → HasDamage (record { bytes = b; given_end = from }) damage
scanned_damage from damage ms b s =
    let f = marked_frames b ms s.part s.marked in
    let apart = frames_apart b f.bodies s.part f.frames in
    record {
      place = length apart.front + s.reads.came;
      counted = omega (arith, s.reads.place, s.counted, ap length apart.whole, length-append apart.front s.part);
      at = subst (λ t. DamageAt t (length apart.front + s.reads.came) damage.kind) (sym apart.whole) (damage_behind apart.front f.bodies s.part s.reads.came damage.kind apart.frames (bad_damage s.offset damage s.part s.reads));
    }

pub scanned_border : (from : ℕ) (head : Head) (ms : List Mark) (b : List ℕ) → Scanned from (Header 0 head) ms b → IsBorder b
scanned_border from head ms b s =
    let f = marked_frames b ms s.part s.marked in
    record { bodies = f.bodies; frames = subst (FramesTo b f.bodies) (nil_from_length s.part s.reads.counted) f.frames }

pub scanned_no_border : (from : ℕ) (reading : Reading) (ms : List Mark) (b : List ℕ) → ((head : Head) → reading ≡ Header 0 head → ⊥) → Scanned from reading ms b → IsBorder b → ⊥
scanned_no_border from reading ms b other s =
    let f = marked_frames b ms s.part s.marked in
    rest_no_border b f.bodies s.part f.frames (reads_no_frame s.offset reading s.part s.reads) (reads_some s.offset reading s.part other s.reads)

pub scanned_none : (from : ℕ) (reading : Reading) (b : List ℕ) → Scanned from reading [] b → HasNoFrame b
scanned_none from reading b s = subst HasNoFrame (sym s.marked) (reads_no_frame s.offset reading s.part s.reads)

-- nothing has come of a header part
reads_start : IsInHeader 0 (record { size = None; spot = Field 0 }) []
reads_start = record { counted = refl; limit = omega arith; leads = refl }

pub scanned_nil : Scanned 0 (Header 0 (record { size = None; spot = Field 0 })) [] []
scanned_nil = record { part = []; offset = 0; counted = refl; marked = refl; reads = reads_start }

-- A step over the next bytes.
pub scanned_step : (from : ℕ) (reading : Reading) (step : Step) (ms : List Mark) (b t : List ℕ) (offset : ℕ) → from + length b ≡ offset → ((start : ℕ) (p : List ℕ) → start + length p ≡ offset → IsPartRead start reading p → Makes start step (p ++ t)) → Scanned from reading ms b → Stepped from step ms (b ++ t)
scanned_step from reading step ms b t offset at makes s = record {
  part = s.part ++ t;
  offset = s.offset;
  counted = omega (arith, s.counted, length-append s.part t, length-append b t);
  marked = marked_more b ms s.part t s.marked;
  makes = makes s.offset s.part (s.counted ∙ at) s.reads;
}

pub stepped_inside : (from : ℕ) (reading : Reading) (ms : List Mark) (b : List ℕ) → Stepped from (Inside reading) ms b → Scanned from reading ms b
stepped_inside from reading ms b s = record { part = s.part; offset = s.offset; counted = s.counted; marked = s.marked; reads = s.makes }

pub stepped_whole : (from : ℕ) (k : Mark) (ms : List Mark) (b : List ℕ) → Stepped from (Whole k) ms b → Scanned from (Header 0 (record { size = None; spot = Field 0 })) (ms ++ k ∷ []) b
stepped_whole from k ms b s = record {
  part = [];
  offset = from + length b;
  counted = omega arith;
  marked = marked_push b ms k s.part s.marked s.makes;
  reads = reads_start;
}

-- where the first whole frame lies
pub record FirstFrame (from : ℕ) (reading : Reading) (k : Mark) (ms : List Mark) (b : List ℕ) : Type 0 where
  pub fits : k.header + k.content ≤ length b
  pub begins : BeginsWith b (take k.content (drop k.header b)) (drop (k.header + k.content) b)
  pub limit : k.content ≤ content_limit
  pub others : Scanned (from + (k.header + k.content)) reading ms (drop (k.header + k.content) b)

first_frame : (from : ℕ) (reading : Reading) (k : Mark) (ms : List Mark) (b : List ℕ) → Scanned from reading (k ∷ ms) b → FirstFrame from reading k ms b
first_frame from reading k ms b s =
    let m = s.marked in
    let cut = m.whole ∙ ap (λ t. t ++ m.after) m.is.whole ∙ append_assoc m.is.front m.is.body m.after in
    let body : take k.content (drop k.header b) ≡ m.is.body =
    ap (λ t. take k.content (drop k.header t)) cut ∙ ap (take k.content) (drop_at m.is.front (m.is.body ++ m.after) k.header m.is.header) ∙ take_at m.is.body m.after k.content m.is.content in
    let long : length m.frame ≡ k.header + k.content = omega (arith, ap length m.is.whole, length-append m.is.front m.is.body, m.is.header, m.is.content) in
    let after : drop (k.header + k.content) b ≡ m.after = ap (drop (k.header + k.content)) m.whole ∙ drop_at m.frame m.after (k.header + k.content) long in
    record {
      fits = omega (arith, ap length m.whole, length-append m.frame m.after);
      begins = subst (λ t. BeginsWith b (take k.content (drop k.header b)) t) (sym after)
          (subst (λ t. BeginsWith b t m.after) (sym body) (record { frame = m.frame; «is» = m.is.is; whole = m.whole }));
      limit = omega (arith, header_limit m.is.is.header (length m.is.body) m.is.is.is, m.is.content);
      others = subst (Scanned (from + (k.header + k.content)) reading ms) (sym after) (record {
        part = s.part;
        offset = s.offset;
        counted = omega (arith, s.counted, ap length m.whole, length-append m.frame m.after, long);
        marked = m.others;
        reads = s.reads;
      });
    }

-- the same of a list of marks whose first is read by its index
pub first_mark : (from : ℕ) (reading : Reading) (k : Mark) (ms : List Mark) (b : List ℕ) → 0 < length ms → k ≡ get_or ms 0 k → Scanned from reading ms b → FirstFrame from reading k (drop 1 ms) b
first_mark from reading k [] b some e s = absurd (omega arith)
first_mark from reading k (j ∷ ms) b some e s = first_frame from reading k ms b (subst (λ t. Scanned from reading (t ∷ ms) b) (sym e) s)

-- lists of marks that grow
pub goes_on_refl : (ms : List Mark) → GoesOn ms ms
goes_on_refl ms = record { more = []; whole = sym (append-nil ms) }

pub goes_on_push : (ms ns : List Mark) (k : Mark) → GoesOn ms ns → GoesOn ms (ns ++ k ∷ [])
goes_on_push ms ns k g = record { more = g.more ++ k ∷ []; whole = ap (λ t. t ++ k ∷ []) g.whole ∙ append_assoc ms g.more (k ∷ []) }

pub goes_on_take : (ms ns : List Mark) → GoesOn ms ns → take (length ms) ns ≡ ms
goes_on_take ms ns g = ap (take (length ms)) g.whole ∙ take_at ms g.more (length ms) refl

-- The loop over a piece.
pub reads_on_start : (reading : Reading) (ms : List Mark) (piece : List ℕ) (begun : ℕ) → ReadsOn reading reading ms ms piece piece begun begun
reads_on_start reading ms piece begun = record {
  seen = [];
  cut = refl;
  offset_is = omega arith;
  scanned = λ from bytes at s. subst (Scanned from reading ms) (sym (append-nil bytes)) s;
}

pub reads_on_step : (first now next : Reading) (before ms after : List Mark) (piece rest : List ℕ) (begun offset : ℕ) (step : Step) (n : ℕ) → ReadsOn first now before ms piece rest begun offset → n ≤ length rest
    → ((start : ℕ) (p : List ℕ) → start + length p ≡ offset → IsPartRead start now p → Makes start step (p ++ take n rest)) → ((from : ℕ) (bytes : List ℕ) → Stepped from step ms bytes → Scanned from next after bytes)
    → ReadsOn first next before after piece (drop n rest) begun (offset + n)
reads_on_step first now next before ms after piece rest begun offset step n r inside makes settles = record {
  seen = r.seen ++ take n rest;
  cut = r.cut ∙ ap (λ t. r.seen ++ t) (sym (take-append-drop n rest)) ∙ sym (append_assoc r.seen (take n rest) (drop n rest));
  offset_is = omega (arith, r.offset_is, length-append r.seen (take n rest), length-take-le n rest inside);
  scanned = λ from bytes at s.
      let here : from + length (bytes ++ r.seen) ≡ offset = omega (arith, at, r.offset_is, length-append bytes r.seen) in
      subst (Scanned from next after) (append_assoc bytes r.seen (take n rest))
      (settles from ((bytes ++ r.seen) ++ take n rest) (scanned_step from now step ms (bytes ++ r.seen) (take n rest) offset here makes (r.scanned from bytes at s)));
}

pub reads_on_end : (first now : Reading) (before ms : List Mark) (piece rest : List ℕ) (begun offset : ℕ) → length rest ≡ 0 → ReadsOn first now before ms piece rest begun offset → (from : ℕ) (bytes : List ℕ) → from + length bytes ≡ begun → Scanned from first before bytes → Scanned from now ms (bytes ++ piece)
reads_on_end first now before ms piece [] begun offset none r from bytes at s = subst (λ t. Scanned from now ms (bytes ++ t)) (sym (append-nil r.seen) ∙ sym r.cut) (r.scanned from bytes at s)
reads_on_end first now before ms piece (c ∷ rest) begun offset none r from bytes at s = absurd (omega arith)

pub goes_on_trans : (ms ns ks : List Mark) → GoesOn ms ns → GoesOn ns ks → GoesOn ms ks
goes_on_trans ms ns ks g h = record { more = g.more ++ h.more; whole = h.whole ∙ ap (λ t. t ++ h.more) g.whole ∙ append_assoc ms g.more h.more }
