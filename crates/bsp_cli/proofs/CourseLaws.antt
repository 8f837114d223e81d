-- How far a source has come, and where an exit, a damage and a frame behind which the output failed lie.
use Rattle.std.proofs.Common.{◌≡◌, ◌⊎◌, inl, inr, ◌+◌, ◌++◌, ◌<◌, ◌≤◌, ℕ, List, [], ◌∷◌, length, Option, Some, None, refl, sym, ap, ◌∙◌, subst, arith, append_assoc, length-append}
use Rattle.std.proofs.Math.Nat.{lt_of_not-le}
use Rattle.std.specs.Option.{option_map}
use Rattle.bsp_edge.specs.Course.{Course, moved}
use Rattle.rpc_frame.specs.declared.damage.Damage.{Damage}
use Rattle.rpc_frame.specs.Damages.{HasDamage}
use Rattle.rpc_frame.specs.Frames.{BeginsWith, HasNoFrame, IsSound, Waiting}
use Rattle.rpc_frame.proofs.FrameLaws.{sound_part}
use Rattle.bsp_cli.specs.Offsets.{EndsInLast, IsAt, WhereTold}
use Rattle.bsp_cli.specs.Progress.{IsWithin, Passes, fed}

-- a source that was read from came further by the piece
pub came_further : (start now next : Option Course) (n count : ℕ) → IsAt start now n → next ≡ option_map (moved count) now → IsAt start next (n + count)
came_further None now next n count at moves = tt
came_further (Some start) None next n count at moves = rw moves tt
came_further (Some start) (Some now) next n count at moves = rw moves (omega arith)

-- what lies behind all that was read before the last piece, and within it
pub in_last : (start now next : Option Course) (n count taken : ℕ) → IsAt start now n → next ≡ option_map (moved count) now → n < taken → taken ≤ n + count
    → WhereTold (EndsInLast taken) start next
in_last None now next n count taken at moves behind within = tt
in_last (Some start) None next n count taken at moves behind within = rw moves tt
in_last (Some start) (Some now) next n count taken at moves behind within = rw moves (record { behind = omega arith; within = omega arith })

-- of two fronts of a list the longer begins with the shorter
longer_front : (a x b y : List ℕ) → a ++ x ≡ b ++ y → length a ≤ length b → (more : List ℕ) × (b ≡ a ++ more)
longer_front [] x b y same short = (b, refl)
longer_front (c ∷ a) x [] y same short = absurd (omega arith)
longer_front (c ∷ a) x (d ∷ b) y same short =
    let rest : a ++ x ≡ b ++ y = cc in
    let first : c ≡ d = cc in
    let shorter : length a ≤ length b = omega arith in
    let more = longer_front a x b y rest shorter in
    (more.0, ap (λ l. d ∷ l) more.1 ∙ ap (λ e. e ∷ (a ++ more.0)) (sym first))

-- a front in which no frame is whole ends inside the first frame
inside_first : (bytes body after front rest : List ℕ) (begins : BeginsWith bytes body after) → bytes ≡ front ++ rest → HasNoFrame front → length front < length begins.frame
inside_first bytes body after front rest begins whole none =
    lt_of_not-le (λ short.
    let more = longer_front begins.frame after front rest (sym begins.whole ∙ whole) short in
    none.none body more.0 (record { frame = begins.frame; «is» = begins.«is»; whole = more.1 }))

-- the first frame was acted on
pub passes_first : (old new : Waiting) (body : List ℕ) → BeginsWith old.bytes body new.bytes → fed new ≡ fed old → Passes old new
passes_first old new body begins same = λ front rest whole none.
    let inside = inside_first old.bytes body new.bytes front rest begins whole none in
    omega (arith, inside, same, ap length begins.whole, length-append begins.frame new.bytes)

-- one more frame was acted on
pub passes_more : (old now new : Waiting) (body : List ℕ) → Passes old now → BeginsWith now.bytes body new.bytes → fed new ≡ fed now → Passes old new
passes_more old now new body passes begins same = λ front rest whole none.
    let before = passes front rest whole none in
    omega (arith, before, same, ap length begins.whole, length-append begins.frame new.bytes)

-- the damage that a sound stream has with a piece lies in the piece
pub damage_within : (old new : Waiting) (piece : List ℕ) (damage : Damage) → new ≡ record old { bytes = old.bytes ++ piece } → IsSound old.bytes → HasDamage new damage → IsWithin damage (fed old) (length piece)
damage_within old new piece damage same sound has =
    let found = has.at in
    let begun : new.bytes ≡ old.bytes ++ piece = ap (λ stream. stream.bytes) same in
    let start : new.given_end ≡ old.given_end = ap (λ stream. stream.given_end) same in
    let bad : List ℕ = found.front ++ (found.byte ∷ []) in
    let counts : length bad ≡ length found.front + 1 = length-append found.front (found.byte ∷ []) in
    let whole : bad ++ found.after ≡ old.bytes ++ piece = append_assoc found.front (found.byte ∷ []) found.after ∙ sym found.whole ∙ begun in
    let behind : length old.bytes < length bad =
    lt_of_not-le (λ short.
    let more = longer_front bad found.after old.bytes piece whole short in
    found.broken.none (sound_part bad more.0 (subst IsSound more.1 sound))) in
    record {
      behind = omega (arith, has.counted, found.counted, start, counts, behind);
      inside = omega (arith, has.counted, found.counted, start, counts, ap length whole, length-append old.bytes piece, length-append bad found.after);
    }

-- none was acted on before this one, or some were
pub passes_on : (old now new : Waiting) (body : List ℕ) → (now ≡ old) ⊎ Passes old now → BeginsWith now.bytes body new.bytes → fed new ≡ fed now → Passes old new
passes_on old now new body (inl same) begins count = subst (λ from. Passes from new) same (passes_first now new body begins count)
passes_on old now new body (inr passes) begins count = passes_more old now new body passes begins count

-- a piece was fed
pub fed_more : (old new : Waiting) (piece : List ℕ) → new ≡ record old { bytes = old.bytes ++ piece } → fed new ≡ fed old + length piece
fed_more old new piece same = rw same (omega (arith, length-append old.bytes piece))

-- a frame was acted on that was whole only with this piece
pub passes_fed : (old middle new : Waiting) (piece : List ℕ) → middle ≡ record old { bytes = old.bytes ++ piece } → HasNoFrame old.bytes → Passes middle new → fed old < new.given_end
passes_fed old middle new piece same drained passes =
    let from_old : Passes (record old { bytes = old.bytes ++ piece }) new = subst (λ stream. Passes stream new) same passes in
    from_old old.bytes piece refl drained

-- at the start
pub at_start : (course : Option Course) → IsAt course course 0
at_start None = tt
at_start (Some course) = omega arith
