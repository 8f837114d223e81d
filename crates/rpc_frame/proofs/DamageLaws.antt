-- The laws of damage. A stream has damage exactly where it is broken; the damage has one place and one
-- kind, and stays when more bytes come.
use Rattle.std.proofs.Common.{◌≡◌, ℕ, ◌+◌, ◌≤◌, inl, inr, List, [], ◌∷◌, ◌++◌, length, sym, ◌∙◌, ap, subst, refl, arith, append_assoc, length-append}
use Rattle.std.proofs.lemmas.List.{append-nil, append_cancel_left}
use Rattle.std.specs.List.{flat_map}
use Rattle.rpc_frame.specs.Limits.{header_limit}
use Rattle.rpc_frame.specs.declared.damage.Damage.{Damage}
use Rattle.rpc_frame.specs.declared.damage.DamageKind.{DamageKind}
use Rattle.rpc_frame.specs.declared.head.Spot.TheVariants.{Field}
use Rattle.rpc_frame.specs.declared.head.Head.{Head}
use Rattle.rpc_frame.specs.declared.head.Next.{Next}
use Rattle.rpc_frame.specs.declared.head.Next.TheVariants.{On, Closed, Bad}
use Rattle.rpc_frame.specs.Frames.{line_text, IsHeader, BeginsFrame, FramesTo, HasNoFrame, Frames, IsSound, IsBroken, Waiting}
use Rattle.rpc_frame.specs.Damages.{BreaksPart, BreaksHeader, DamageAt, HasDamage}
use Rattle.rpc_frame.specs.Heads.{on, start, reading, spot_next}
use Rattle.rpc_frame.proofs.RunLaws.{run_bad, run_on, closed_same}
use Rattle.rpc_frame.proofs.ReadLaws.{lines_run, header_closed}
use Rattle.rpc_frame.proofs.BreakLaws.{kind_stops}
use Rattle.rpc_frame.proofs.HeaderLaws.{GoesOver, fronts}
use Rattle.rpc_frame.proofs.FrameLaws.{begins_sound, frames_more, FramesTo-append, frames_unique, sound_front, sound_behind, sound_part, broken_front, broken_rest, broken_more}

pub damage_broken : (b : List ℕ) (place : ℕ) (kind : DamageKind) → DamageAt b place kind → IsBroken b
damage_broken b place kind d =
    subst IsBroken (append_assoc d.front (d.byte ∷ []) d.after ∙ sym d.whole) (broken_more (d.front ++ d.byte ∷ []) d.after d.broken)

pub damage_more : (b x : List ℕ) (place : ℕ) (kind : DamageKind) → DamageAt b place kind → DamageAt (b ++ x) place kind
damage_more b x place kind d = record {
  front = d.front;
  byte = d.byte;
  after = d.after ++ x;
  whole = ap (λ t. t ++ x) d.whole ∙ append_assoc d.front (d.byte ∷ d.after) x;
  counted = d.counted;
  sound = d.sound;
  broken = d.broken;
  bodies = d.bodies;
  part = d.part;
  frames = d.frames;
  breaks = d.breaks;
}

-- Damage behind whole frames.
pub damage_behind : (a : List ℕ) (bs : List (List ℕ)) (r : List ℕ) (place : ℕ) (kind : DamageKind) → FramesTo a bs [] → DamageAt r place kind → DamageAt (a ++ r) (length a + place) kind
damage_behind a bs r place kind f d =
    let whole : FramesTo (a ++ d.front) bs d.front = frames_more a bs [] d.front f in
    record {
      front = a ++ d.front;
      byte = d.byte;
      after = d.after;
      whole = ap (λ t. a ++ t) d.whole ∙ sym (append_assoc a d.front (d.byte ∷ d.after));
      counted = omega (arith, d.counted, length-append a d.front);
      sound = sound_front (a ++ d.front) bs d.front whole d.sound;
      broken = subst IsBroken (sym (append_assoc a d.front (d.byte ∷ [])))
          (broken_front (a ++ (d.front ++ d.byte ∷ [])) bs (d.front ++ d.byte ∷ []) (frames_more a bs [] (d.front ++ d.byte ∷ []) f) d.broken);
      bodies = bs ++ d.bodies;
      part = d.part;
      frames = record { frames = FramesTo-append (a ++ d.front) bs d.bodies d.front d.part whole d.frames.frames; none = d.frames.none };
      breaks = d.breaks;
    }

-- Of two damages neither stands in front of the other.
pub record SameByte (f g : List ℕ) (c d : ℕ) : Type 0 where
  pub front : f ≡ g
  pub byte : c ≡ d

front_first : (f g : List ℕ) (c d : ℕ) (x y : List ℕ) → IsBroken (f ++ c ∷ []) → IsSound g → GoesOver f g (c ∷ x) (d ∷ y) → SameByte f g c d
front_first f g c d x y broken sound o = by_mid o.mid o.longer o.rest where
  by_mid : (mid : List ℕ) → g ≡ f ++ mid → c ∷ x ≡ mid ++ (d ∷ y) → SameByte f g c d
  by_mid [] e h = record { front = sym (e ∙ append-nil f); byte = cc }
  by_mid (m ∷ mid) e h =
      let same : c ≡ m = cc in
      let longer : g ≡ (f ++ c ∷ []) ++ mid = e ∙ ap (λ k. f ++ (k ∷ mid)) (sym same) ∙ sym (append_assoc f (c ∷ []) mid) in
      absurd (broken.none (sound_part (f ++ c ∷ []) mid (subst IsSound longer sound)))

same_byte : (b : List ℕ) (p q : ℕ) (k l : DamageKind) → (d : DamageAt b p k) (e : DamageAt b q l) → SameByte d.front e.front d.byte e.byte
same_byte b p q k l d e = elim (fronts d.front e.front (d.byte ∷ d.after) (e.byte ∷ e.after) (sym d.whole ∙ e.whole)) [
  | inl o ↦ front_first d.front e.front d.byte e.byte d.after e.after d.broken e.sound o
  | inr o ↦ (let s = front_first e.front d.front e.byte d.byte e.after d.after e.broken d.sound o in record { front = sym s.front; byte = sym s.byte })
]

-- Damage has one place.
pub damage_place : (b : List ℕ) (p q : ℕ) (k l : DamageKind) → DamageAt b p k → DamageAt b q l → p ≡ q
damage_place b p q k l d e = d.counted ∙ ap length (same_byte b p q k l d e).front ∙ sym e.counted

-- Where a byte breaks a stream behind what begins a frame, a header part had begun.
pub record LeadsOn (part : List ℕ) : Type 0 where
  pub head : Head
  pub on : reading part ≡ On head

-- bytes with a whole header part begin a frame, or they are one, or they break with no byte
over_goes_on : (part : List ℕ) (b : ℕ) (w : BeginsFrame part) (mid : List ℕ) → HasNoFrame part → part ≡ w.header ++ mid → w.body ≡ mid ++ w.more → BeginsFrame (part ++ b ∷ [])
over_goes_on part b w mid none e rest = by_more w.more rest where
  short : length w.header ≤ header_limit
  short = elim w.limit [ inl h ↦ omega (arith, h, ap length e, length-append w.header mid) | inr h ↦ h ]

  by_more : (more : List ℕ) → w.body ≡ mid ++ more → BeginsFrame (part ++ b ∷ [])
  by_more [] r =
      let same : w.body ≡ mid = r ∙ append-nil mid in
      absurd (none.none w.body [] (record {
        frame = part;
        «is» = record { header = w.header; «is» = w.is; limit = short; whole = e ∙ ap (λ t. w.header ++ t) (sym same) };
        whole = sym (append-nil part);
      }))
  by_more (m ∷ more) r = record {
    more = more;
    header = w.header;
    body = mid ++ (b ∷ more);
    «is» = subst (IsHeader w.header) (omega (arith, ap length r, length-append mid (m ∷ more), length-append mid (b ∷ more))) w.is;
    limit = inr short;
    whole = append_assoc part (b ∷ []) more ∙ ap (λ t. t ++ (b ∷ more)) e ∙ append_assoc w.header mid (b ∷ more);
  }

breaks_on : (part : List ℕ) (b : ℕ) → HasNoFrame part → BeginsFrame part → IsBroken (part ++ b ∷ []) → LeadsOn part
breaks_on part b none w broken = elim (fronts part w.header w.more w.body w.whole) [
  | inl o ↦ by_next (reading part) refl o.mid o.longer
  | inr o ↦ absurd (broken.none (begins_sound (part ++ b ∷ []) (over_goes_on part b w o.mid none o.longer o.rest)))
] where
  closed : reading w.header ≡ Closed (length w.body)
  closed = header_closed w.header (length w.body) w.is

  by_next : (n : Next) → reading part ≡ n → (mid : List ℕ) → w.header ≡ part ++ mid → LeadsOn part
  by_next (On head) e mid longer = record { head = head; on = e }
  by_next (Closed size) e mid longer =
      let same = closed_same size (length w.body) mid (sym (run_on start (Closed size) part mid e) ∙ sym (ap reading longer) ∙ closed) in
      let header : w.header ≡ part = longer ∙ ap (λ t. part ++ t) same.0 ∙ append-nil part in
      let rest : w.more ≡ w.body = append_cancel_left part w.more w.body (w.whole ∙ ap (λ t. t ++ w.body) header) in
      absurd (broken.none (begins_sound (part ++ b ∷ []) (over_goes_on part b w [] none (sym header ∙ sym (append-nil w.header)) (sym rest))))
  by_next (Bad kind) e mid longer =
      let e2 = sym (run_on start (Bad kind) part mid e ∙ run_bad kind mid) ∙ sym (ap reading longer) ∙ closed in
      cc

-- what the bytes in front of a damage lead to
damage_leads : (b : List ℕ) (p : ℕ) (k : DamageKind) → (d : DamageAt b p k) → LeadsOn d.part
damage_leads b p k d =
    let sound = sound_behind d.front d.bodies d.part d.frames.frames d.sound in
    let broken = broken_rest (d.front ++ d.byte ∷ []) d.bodies (d.part ++ d.byte ∷ []) (frames_more d.front d.bodies d.part (d.byte ∷ []) d.frames.frames) d.broken in
    breaks_on d.part d.byte d.frames.none (part_begins d.part d.frames.none sound.bodies sound.rest sound.frames sound.begins) broken
  where
    part_begins : (part : List ℕ) → HasNoFrame part → (bodies : List (List ℕ)) (rest : List ℕ) → FramesTo part bodies rest → BeginsFrame rest → BeginsFrame part
    part_begins part none [] rest f w = subst BeginsFrame (sym f) w
    part_begins part none (c ∷ bodies) rest f w = absurd (none.none c f.after f.begins)

part_stops : (kind : DamageKind) (part : List ℕ) (b : ℕ) (head : Head) → BreaksPart kind part b → reading part ≡ On head → spot_next head.spot head.size b ≡ Bad kind
part_stops kind part b head r e =
    kind_stops kind r.size r.line b head r.of_kind
    (sym (ap reading r.whole ∙ run_on start (on r.size (Field 0)) (flat_map line_text r.lines) r.line (lines_run r.lines r.size r.each r.lengths)) ∙ e)

same_kind : (part : List ℕ) (b : ℕ) (k l : DamageKind) (head : Head) → reading part ≡ On head → BreaksHeader k part b → BreaksHeader l part b → k ≡ l
same_kind part b k l head e d f = elim d [
  | inl r ↦ elim f [
    | inl s ↦ (let x = part_stops k part b head r e in let y = part_stops l part b head s e in cc)
    | inr s ↦ absurd (omega (arith, r.inside, s.1))
  ]
  | inr r ↦ elim f [ inl s ↦ absurd (omega (arith, s.inside, r.1)) | inr s ↦ r.0 ∙ sym s.0 ]
]

-- Damage has one kind.
pub damage_kind : (b : List ℕ) (p q : ℕ) (k l : DamageKind) → DamageAt b p k → DamageAt b q l → k ≡ l
damage_kind b p q k l d e =
    let s = same_byte b p q k l d e in
    let parts = (frames_unique e.front d.bodies e.bodies d.part e.part (subst (λ t. Frames t d.bodies d.part) s.front d.frames) e.frames).1 in
    let leads = damage_leads b q l e in
    same_kind e.part e.byte k l leads.head leads.on (subst (λ c. BreaksHeader k e.part c) s.byte (subst (λ t. BreaksHeader k t d.byte) parts d.breaks)) e.breaks

same_record : (d e : Damage) → d.place ≡ e.place → d.kind ≡ e.kind → d ≡ e
same_record d e place kind = ap (λ p. record { place = p; kind = d.kind }) place ∙ ap (λ k. record { place = e.place; kind = k }) kind

-- A stream that waits has one damage.
pub one_damage : (s : Waiting) (d e : Damage) → HasDamage s d → HasDamage s e → d ≡ e
one_damage s d e h g =
    same_record d e (omega (arith, h.counted, g.counted, damage_place s.bytes h.place g.place d.kind e.kind h.at g.at))
    (damage_kind s.bytes h.place g.place d.kind e.kind h.at g.at)

pub has_damage_more : (s : Waiting) (x : List ℕ) (d : Damage) → HasDamage s d → HasDamage (record { bytes = s.bytes ++ x; given_end = s.given_end }) d
has_damage_more s x d h = record { place = h.place; counted = h.counted; at = damage_more s.bytes x h.place d.kind h.at }
