-- What the calls of a decoder need of the bytes that it keeps.
use Rattle.std.proofs.Common.{◌≡◌, ℕ, ◌+◌, ◌-◌, ◌≤◌, Bool, true, false, IsTrue, List, [], ◌∷◌, ◌++◌, length, take, drop, sym, ◌∙◌, ap, subst, refl, arith, length-drop}
use Rattle.std.proofs.lemmas.List.{drop-append-le, drop-drop}
use Rattle.rpc_frame.specs.Limits.{content_limit}
use Rattle.rpc_frame.specs.declared.reading.Reading.{Reading}
use Rattle.rpc_frame.specs.declared.reading.Mark.{Mark}
use Rattle.rpc_frame.specs.Frames.{BeginsWith, HasNoFrame}
use Rattle.rpc_frame.specs.declared.damage.Damage.{Damage}
use Rattle.rpc_frame.specs.declared.stream.Decoder.TheInside.{Inside}
use Rattle.rpc_frame.specs.Damages.{HasDamage}
use Rattle.rpc_frame.specs.Kept.{KnowsBytes}
use Rattle.rpc_frame.specs.Partial.{Scanned}
use Rattle.rpc_frame.proofs.DamageLaws.{has_damage_more}
use Rattle.rpc_frame.proofs.ScanLaws.{FirstFrame, scanned_none}

pub true_unless : (b : Bool) → ((IsTrue b → ⊥) → ⊥) → IsTrue b
true_unless true h = refl
true_unless false h = absurd (h (λ e. cc))

-- those that were given are all there
pub inside : (d : Inside) → KnowsBytes d → d.start ≤ length d.bytes.items
inside d kept = omega (arith, kept.half, length-drop d.start d.bytes.items)

-- bytes behind those that were given
pub appended : (start : ℕ) (old new piece : List ℕ) → start ≤ length old → new ≡ old ++ piece → drop start old ++ piece ≡ drop start new
appended start old new piece inside e = sym (drop-append-le start old piece inside) ∙ ap (drop start) (sym e)

-- What a feed knows: the bytes that wait with the piece, and what they read as.
pub record Fed (d : Inside) (reading : Reading) (marks : List Mark) (bytes piece : List ℕ) : Type 0 where
  pub waiting : drop d.start d.bytes.items ++ piece ≡ drop d.start bytes
  pub scanned : Scanned d.given_end reading marks (drop d.start bytes)

pub fed : (d : Inside) (reading : Reading) (marks : List Mark) (bytes piece : List ℕ) (begun : ℕ) → KnowsBytes d → bytes ≡ d.bytes.items ++ piece → d.given_end + (length d.bytes.items - d.start) ≡ begun
    → ((from : ℕ) (waiting : List ℕ) → from + length waiting ≡ begun → Scanned from d.reading d.marks.items waiting → Scanned from reading marks (waiting ++ piece))
    → Fed d reading marks bytes piece
fed d reading marks bytes piece begun kept e at scans =
    let waiting = appended d.start d.bytes.items bytes piece (inside d kept) e in
    record {
      waiting = waiting;
      scanned = subst (Scanned d.given_end reading marks) waiting (scans d.given_end (drop d.start d.bytes.items) (omega (arith, at, length-drop d.start d.bytes.items)) kept.scanned);
    }

-- damage of the bytes that waited stays with a piece more
pub fed_damage : (d : Inside) (bytes piece : List ℕ) (damage : Damage) → drop d.start d.bytes.items ++ piece ≡ drop d.start bytes → HasDamage (record { bytes = drop d.start d.bytes.items; given_end = d.given_end }) damage → HasDamage (record { bytes = drop d.start bytes; given_end = d.given_end }) damage
fed_damage d bytes piece damage e h =
    subst (λ t. HasDamage (record { bytes = t; given_end = d.given_end }) damage) e (has_damage_more (record { bytes = drop d.start d.bytes.items; given_end = d.given_end }) piece damage h)

pub none_left : (from : ℕ) (reading : Reading) (ms : List Mark) (b : List ℕ) → length ms ≤ 0 → Scanned from reading ms b → HasNoFrame b
none_left from reading [] b none s = scanned_none from reading b s
none_left from reading (m ∷ ms) b none s = absurd (omega arith)

-- The first frame, of the bytes from start on.
pub record NextFrame (from : ℕ) (reading : Reading) (k : Mark) (ms : List Mark) (start : ℕ) (bytes : List ℕ) : Type 0 where
  pub fits : start + (k.header + k.content) ≤ length bytes
  pub begins : BeginsWith (drop start bytes) (take k.content (drop k.header (drop start bytes))) (drop (start + (k.header + k.content)) bytes)
  pub limit : k.content ≤ content_limit
  pub others : Scanned (from + (k.header + k.content)) reading ms (drop (start + (k.header + k.content)) bytes)

pub next_frame : (from : ℕ) (reading : Reading) (k : Mark) (ms : List Mark) (start : ℕ) (bytes : List ℕ) → start ≤ length bytes → FirstFrame from reading k ms (drop start bytes) → NextFrame from reading k ms start bytes
next_frame from reading k ms start bytes inside f =
    let e = drop-drop (k.header + k.content) start bytes in
    record {
      fits = omega (arith, f.fits, length-drop start bytes);
      begins = subst (λ t. BeginsWith (drop start bytes) (take k.content (drop k.header (drop start bytes))) t) e f.begins;
      limit = f.limit;
      others = subst (Scanned (from + (k.header + k.content)) reading ms) e f.others;
    }
