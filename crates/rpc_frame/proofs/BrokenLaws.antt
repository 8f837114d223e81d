-- Every stream begins a list of frames or has damage.
use Rattle.std.proofs.Common.{◌≡◌, ℕ, ◌+◌, ◌-◌, ◌<◌, ◌⊎◌, ◌↔◌, inl, inr, None, List, [], ◌∷◌, ◌++◌, sym, subst, refl, arith, append_assoc}
use Rattle.std.proofs.lemmas.Bool.{cases_lt}
use Rattle.std.proofs.lemmas.List.{append-nil, length_push}
use Rattle.rpc_frame.specs.Limits.{header_limit}
use Rattle.rpc_frame.specs.declared.damage.DamageKind.{DamageKind}
use Rattle.rpc_frame.specs.declared.damage.DamageKind.TheVariants.{HeaderTooLong}
use Rattle.rpc_frame.specs.declared.head.Spot.TheVariants.{Field}
use Rattle.rpc_frame.specs.declared.head.Head.{Head}
use Rattle.rpc_frame.specs.declared.head.Next.{Next}
use Rattle.rpc_frame.specs.declared.head.Next.TheVariants.{On, Closed, Bad}
use Rattle.rpc_frame.specs.declared.reading.Reading.{Reading}
use Rattle.rpc_frame.specs.declared.reading.Reading.TheVariants.{Header, Content, Broken}
use Rattle.rpc_frame.specs.declared.reading.Mark.{Mark}
use Rattle.rpc_frame.specs.declared.reading.Step.{Step}
use Rattle.rpc_frame.specs.declared.reading.Step.TheVariants.{Inside, Whole}
use Rattle.rpc_frame.specs.Frames.{IsSound, IsBroken}
use Rattle.rpc_frame.specs.Damages.{DamageAt}
use Rattle.rpc_frame.specs.Heads.{spot_next}
use Rattle.rpc_frame.specs.Partial.{IsInHeader, IsPartRead, Makes, Scanned, Stepped}
use Rattle.rpc_frame.proofs.DamageLaws.{damage_broken}
use Rattle.rpc_frame.proofs.PartLaws.{header_goes_on, header_opens, header_whole, header_breaks, bad_more, content_goes_on, content_whole}
use Rattle.rpc_frame.proofs.ScanLaws.{marked_more, scanned_nil, scanned_sound, scanned_damage, stepped_inside, stepped_whole}

-- what a byte more makes of a part
record Stepping (offset : ℕ) (part : List ℕ) : Type 0 where
  pub step : Step
  pub makes : Makes offset step part

header_step : (offset came : ℕ) (head : Head) (part : List ℕ) (b : ℕ) → IsInHeader came head part → came < header_limit → (n : Next) → spot_next head.spot head.size b ≡ n → Stepping offset (part ++ b ∷ [])
header_step offset came head part b r inside (On next) e = record { step = Inside (Header (came + 1) next); makes = header_goes_on came head next part b r inside e }
header_step offset came head part b r inside (Closed size) e = elim (cases_lt 0 size) [
  | inl some ↦ record { step = Inside (Content (came + 1) size size); makes = header_opens came head size part b r inside e some }
  | inr none ↦ record { step = Whole (record { header = came + 1; content = 0 }); makes = header_whole came head size part b r inside e (omega (arith, none)) }
]
header_step offset came head part b r inside (Bad kind) e = record {
  step = Inside (Broken (record { place = offset + came; kind = kind }));
  makes = header_breaks offset (offset + came) came head kind part b (omega (arith, r.counted)) r (inl (inside, e));
}

byte_step : (offset : ℕ) (reading : Reading) (part : List ℕ) (b : ℕ) → IsPartRead offset reading part → Stepping offset (part ++ b ∷ [])
byte_step offset (Header came head) part b r = elim (cases_lt came header_limit) [
  | inl inside ↦ header_step offset came head part b r inside (spot_next head.spot head.size b) refl
  | inr full ↦ record {
    step = Inside (Broken (record { place = offset + came; kind = HeaderTooLong }));
    makes = header_breaks offset (offset + came) came head HeaderTooLong part b (omega (arith, r.counted)) r (inr (omega (arith, full, r.limit), refl));
  }
]
byte_step offset (Content header size missing) part b r = elim (cases_lt 1 missing) [
  | inl more ↦ record { step = Inside (Content header size (missing - 1)); makes = content_goes_on part (b ∷ []) header size missing 1 r refl more }
  | inr last ↦ record { step = Whole (record { header = header; content = size }); makes = content_whole part (b ∷ []) header size missing r (omega (arith, last, r.some)) }
]
byte_step offset (Broken damage) part b r = record { step = Inside (Broken damage); makes = bad_more offset damage part (b ∷ []) r }

-- what the bytes read as
record Reached (bytes : List ℕ) : Type 0 where
  pub reading : Reading
  pub marks : List Mark
  pub scanned : Scanned 0 reading marks bytes

settled : (step : Step) (ms : List Mark) (bytes : List ℕ) → Stepped 0 step ms bytes → Reached bytes
settled (Inside reading) ms bytes s = record { reading = reading; marks = ms; scanned = stepped_inside 0 reading ms bytes s }
settled (Whole mark) ms bytes s = record { reading = Header 0 (record { size = None; spot = Field 0 }); marks = ms ++ mark ∷ []; scanned = stepped_whole 0 mark ms bytes s }

reach_byte : (bytes : List ℕ) (b : ℕ) → Reached bytes → Reached (bytes ++ b ∷ [])
reach_byte bytes b r =
    let s = r.scanned in
    let next = byte_step s.offset r.reading s.part b s.reads in
    settled next.step r.marks (bytes ++ b ∷ []) (record {
      part = s.part ++ b ∷ [];
      offset = s.offset;
      counted = omega (arith, s.counted, length_push s.part b, length_push bytes b);
      marked = marked_more bytes r.marks s.part (b ∷ []) s.marked;
      makes = next.makes;
    })

reach : (x bytes : List ℕ) → Reached bytes → Reached (bytes ++ x)
reach [] bytes r = subst Reached (sym (append-nil bytes)) r
reach (b ∷ x) bytes r = subst Reached (append_assoc bytes (b ∷ []) x) (reach x (bytes ++ b ∷ []) (reach_byte bytes b r))

-- some damage
pub record IsDamaged (bytes : List ℕ) : Type 0 where
  pub place : ℕ
  pub kind : DamageKind
  pub at : DamageAt bytes place kind

by_reading : (reading : Reading) (ms : List Mark) (bytes : List ℕ) → Scanned 0 reading ms bytes → IsSound bytes ⊎ IsDamaged bytes
by_reading (Header came head) ms bytes s = inl (scanned_sound 0 (Header came head) ms bytes (λ damage e. cc) s)
by_reading (Content header size missing) ms bytes s = inl (scanned_sound 0 (Content header size missing) ms bytes (λ damage e. cc) s)
by_reading (Broken damage) ms bytes s = (let h = scanned_damage 0 damage ms bytes s in inr (record { place = h.place; kind = damage.kind; at = h.at }))

pub sound_or_damaged : (bytes : List ℕ) → IsSound bytes ⊎ IsDamaged bytes
sound_or_damaged bytes =
    let r = reach bytes [] (record { reading = _; marks = []; scanned = scanned_nil }) in
    by_reading r.reading r.marks bytes r.scanned

-- A stream has damage exactly where it is broken.
pub broken_damaged : (bytes : List ℕ) → IsBroken bytes ↔ IsDamaged bytes
broken_damaged bytes = (
  λ broken. elim (sound_or_damaged bytes) [ inl sound ↦ absurd (broken.none sound) | inr damaged ↦ damaged ],
  λ damaged. damage_broken bytes damaged.place damaged.kind damaged.at,
)
