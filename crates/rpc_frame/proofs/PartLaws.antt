-- What a part of a frame is, and what more bytes make of it.
use Rattle.std.proofs.Common.{◌≡◌, ℕ, ◌+◌, ◌-◌, ◌<◌, ◌≤◌, inl, inr, List, [], ◌∷◌, ◌++◌, length, sym, ◌∙◌, ap, subst, refl, arith, append_assoc, length-append}
use Rattle.std.proofs.lemmas.List.{append-nil, length_push}
use Rattle.rpc_frame.specs.Limits.{header_limit}
use Rattle.rpc_frame.specs.declared.damage.Damage.{Damage}
use Rattle.rpc_frame.specs.declared.damage.DamageKind.{DamageKind}
use Rattle.rpc_frame.specs.declared.damage.DamageKind.TheVariants.{Truncated}
use Rattle.rpc_frame.specs.declared.head.Head.{Head}
use Rattle.rpc_frame.specs.declared.head.Next.TheVariants.{On, Closed, Bad}
use Rattle.rpc_frame.specs.Frames.{IsHeader}
use Rattle.rpc_frame.specs.Heads.{spot_next, start, reading}
use Rattle.rpc_frame.specs.Damages.{BreaksHeader, DamageAt}
use Rattle.rpc_frame.specs.Partial.{IsInHeader, IsInContent, Breaks, IsBad, IsMarked}
use Rattle.rpc_frame.proofs.RunLaws.{run_on}
use Rattle.rpc_frame.proofs.Stands.{Leads, BreaksAt}
use Rattle.rpc_frame.proofs.StandLaws.{reading_stands, stands_leads, closed_header}
use Rattle.rpc_frame.proofs.HeaderLaws.{GoesOver, fronts, stands, on_no_header, bad_no_header}
use Rattle.rpc_frame.proofs.FrameLaws.{NeverBegins, zeros, length-zeros, IsCut, on_cut, cut_no_frame, begins_sound, never_broken, never_more}

-- One byte more of a header part.
pub header_goes_on : (came : ℕ) (head next : Head) (p : List ℕ) (b : ℕ) → IsInHeader came head p → came < header_limit → spot_next head.spot head.size b ≡ On next → IsInHeader (came + 1) next (p ++ b ∷ [])
header_goes_on came head next p b r inside e = record {
  counted = omega (arith, length_push p b, r.counted);
  limit = omega arith;
  leads = run_on start (On head) p (b ∷ []) r.leads ∙ e;
}

header_ends : (came : ℕ) (head : Head) (size : ℕ) (p : List ℕ) (b : ℕ) → IsInHeader came head p → spot_next head.spot head.size b ≡ Closed size → reading (p ++ b ∷ []) ≡ Closed size
header_ends came head size p b r e = run_on start (On head) p (b ∷ []) r.leads ∙ e

pub header_opens : (came : ℕ) (head : Head) (size : ℕ) (p : List ℕ) (b : ℕ) → IsInHeader came head p → came < header_limit → spot_next head.spot head.size b ≡ Closed size → 0 < size → IsInContent (came + 1) size size (p ++ b ∷ [])
header_opens came head size p b r inside e some = record {
  front = p ++ b ∷ [];
  content = [];
  closed = header_ends came head size p b r e;
  counted = omega (arith, length_push p b, r.counted);
  limit = omega arith;
  some = some;
  left = omega arith;
  whole = sym (append-nil (p ++ b ∷ []));
}

pub header_whole : (came : ℕ) (head : Head) (size : ℕ) (p : List ℕ) (b : ℕ) → IsInHeader came head p → came < header_limit → spot_next head.spot head.size b ≡ Closed size → size ≡ 0 → IsMarked (record { header = came + 1; content = 0 }) (p ++ b ∷ [])
header_whole came head size p b r inside e empty = record {
  front = p ++ b ∷ [];
  body = [];
  «is» = record {
    header = p ++ b ∷ [];
    «is» = closed_header (p ++ b ∷ []) 0 (header_ends came head size p b r e ∙ ap Closed empty);
    limit = omega (arith, length_push p b, r.counted);
    whole = sym (append-nil (p ++ b ∷ []));
  };
  whole = sym (append-nil (p ++ b ∷ []));
  header = omega (arith, length_push p b, r.counted);
  content = refl;
}

pub header_breaks : (offset place came : ℕ) (head : Head) (kind : DamageKind) (p : List ℕ) (b : ℕ) → offset + length p ≡ place → IsInHeader came head p → Breaks kind head came b → IsBad offset (record { place = place; kind = kind }) (p ++ b ∷ [])
header_breaks offset place came head kind p b at r breaks = record {
  head = head;
  came = came;
  front = p;
  byte = b;
  after = [];
  part = r;
  breaks = breaks;
  place = omega (arith, at, r.counted);
  whole = refl;
}

pub bad_more : (offset : ℕ) (damage : Damage) (p x : List ℕ) → IsBad offset damage p → IsBad offset damage (p ++ x)
bad_more offset damage p x r = record {
  head = r.head;
  came = r.came;
  front = r.front;
  byte = r.byte;
  after = r.after ++ x;
  part = r.part;
  breaks = r.breaks;
  place = r.place;
  whole = ap (λ t. t ++ x) r.whole ∙ append_assoc r.front (r.byte ∷ r.after) x;
}

-- More bytes of a content.
content_push : (header size missing : ℕ) (p t : List ℕ) → (r : IsInContent header size missing p) → p ++ t ≡ r.front ++ (r.content ++ t)
content_push header size missing p t r = ap (λ l. l ++ t) r.whole ∙ append_assoc r.front r.content t

pub content_goes_on : (p t : List ℕ) (header size missing n : ℕ) → IsInContent header size missing p → length t ≡ n → n < missing → IsInContent header size (missing - n) (p ++ t)
content_goes_on p t header size missing n r long short = record {
  front = r.front;
  content = r.content ++ t;
  closed = r.closed;
  counted = r.counted;
  limit = r.limit;
  some = omega arith;
  left = omega (arith, r.left, length-append r.content t);
  whole = content_push header size missing p t r;
}

pub content_whole : (p t : List ℕ) (header size missing : ℕ) → IsInContent header size missing p → length t ≡ missing → IsMarked (record { header = header; content = size }) (p ++ t)
content_whole p t header size missing r all =
    let long : size ≡ length (r.content ++ t) = omega (arith, r.left, length-append r.content t) in
    record {
      front = r.front;
      body = r.content ++ t;
      «is» = record {
        header = r.front;
        «is» = subst (IsHeader r.front) long (closed_header r.front size r.closed);
        limit = omega (arith, r.counted, r.limit);
        whole = content_push header size missing p t r;
      };
      whole = content_push header size missing p t r;
      header = r.counted;
      content = sym long;
    }

-- A part that no byte broke is a proper front of a frame.
pub header_cut : (came : ℕ) (head : Head) (p : List ℕ) → IsInHeader came head p → IsCut p
header_cut came head p r = on_cut p head r.leads (omega (arith, r.counted, r.limit))

pub content_cut : (header size missing : ℕ) (p : List ℕ) → IsInContent header size missing p → IsCut p
content_cut header size missing p r =
    let rest = zeros missing in
    let long : size ≡ length (r.content ++ rest) = omega (arith, r.left, length-append r.content rest, length-zeros missing) in
    record {
      begins = record {
        more = rest;
        header = r.front;
        body = r.content ++ rest;
        «is» = subst (IsHeader r.front) long (closed_header r.front size r.closed);
        limit = inr (omega (arith, r.counted, r.limit));
        whole = content_push header size missing p rest r;
      };
      some = omega (arith, length-zeros missing, r.some);
    }

-- A byte that breaks a header part.
pub kind_breaks : (came : ℕ) (head : Head) (kind : DamageKind) (p : List ℕ) (b : ℕ) → IsInHeader came head p → spot_next head.spot head.size b ≡ Bad kind → BreaksAt kind p b
kind_breaks came head kind p b r bad = subst (λ n. Leads n p b) bad (stands_leads head p b (reading_stands p head r.leads))

not_truncated : (kind : DamageKind) (p : List ℕ) (b : ℕ) → BreaksAt kind p b → kind ≡ Truncated → ⊥
not_truncated kind p b r e = (subst (λ k. BreaksAt k p b) e r).of_kind

-- no frame begins with a header part that is broken, however it goes on
broken_never : (bytes : List ℕ) (kind : DamageKind) → reading bytes ≡ Bad kind → (kind ≡ Truncated → ⊥) → NeverBegins bytes
broken_never bytes kind bad other = record {
  none = record { none = λ body after w. bad_no_header bytes kind [] w.is.header (body ++ after) (length body) bad other w.is.is (append-nil bytes ∙ stands bytes body after w) };
  never = λ w. bad_no_header bytes kind w.more w.header w.body (length w.body) bad other w.is w.whole;
}

-- a header part that is within its limit stands in the bytes in front of their last one
front_header : (p header : List ℕ) (b : ℕ) (x y : List ℕ) → length header ≤ length p → (p ++ b ∷ []) ++ x ≡ header ++ y → GoesOver header p y (b ∷ x)
front_header p header b x y short e = elim (fronts header p y (b ∷ x) (sym (sym (append_assoc p (b ∷ []) x) ∙ e))) [
  | inl o ↦ o
  | inr o ↦ (
      let none : o.mid ≡ [] = nil_of o.mid (omega (arith, ap length o.longer, length-append p o.mid)) in
      record {
        mid = [];
        longer = sym (o.longer ∙ ap (λ t. p ++ t) none ∙ append-nil p) ∙ sym (append-nil header);
        rest = sym (o.rest ∙ ap (λ t. t ++ y) none);
      }
      )
] where
  nil_of : (xs : List ℕ) → length xs ≡ 0 → xs ≡ []
  nil_of [] e = refl
  nil_of (x ∷ xs) e = absurd (omega arith)

-- no frame begins with a header part that has more bytes than its limit
long_never : (came : ℕ) (head : Head) (p : List ℕ) (b : ℕ) → IsInHeader came head p → came ≡ header_limit → NeverBegins (p ++ b ∷ [])
long_never came head p b r full = record {
  none = record {
    none = λ body after w.
        let o = front_header p w.is.header b [] (body ++ after) (omega (arith, w.is.limit, r.counted)) (append-nil (p ++ b ∷ []) ∙ stands (p ++ b ∷ []) body after w) in
        on_no_header p head w.is.header o.mid (length body) r.leads w.is.is o.longer;
  };
  never = λ w.
      let short : length w.header ≤ length p = elim w.limit [
        | inl h ↦ absurd (omega (arith, h, length_push p b, r.counted))
        | inr h ↦ omega (arith, h, r.counted)
      ] in
      let o = front_header p w.header b w.more w.body short w.whole in
      on_no_header p head w.header o.mid (length w.body) r.leads w.is o.longer;
}

pub breaks_never : (came : ℕ) (head : Head) (kind : DamageKind) (p : List ℕ) (b : ℕ) → IsInHeader came head p → Breaks kind head came b → NeverBegins (p ++ b ∷ [])
breaks_never came head kind p b r breaks = elim breaks [
  | inl h ↦ broken_never (p ++ b ∷ []) kind (run_on start (On head) p (b ∷ []) r.leads ∙ h.1) (not_truncated kind p b (kind_breaks came head kind p b r h.1))
  | inr h ↦ long_never came head p b r h.0
]

pub bad_never : (offset : ℕ) (damage : Damage) (p : List ℕ) → IsBad offset damage p → NeverBegins p
bad_never offset damage p r =
    subst NeverBegins (append_assoc r.front (r.byte ∷ []) r.after ∙ sym r.whole)
    (never_more (r.front ++ r.byte ∷ []) r.after (breaks_never r.came r.head damage.kind r.front r.byte r.part r.breaks))

breaks_kind : (came : ℕ) (head : Head) (kind : DamageKind) (p : List ℕ) (b : ℕ) → IsInHeader came head p → Breaks kind head came b → BreaksHeader kind p b
breaks_kind came head kind p b r breaks = elim breaks [
  | inl h ↦ (
      let k = kind_breaks came head kind p b r h.1 in
      inl (record {
        lines = k.lines.lines;
        size = k.size;
        line = k.line;
        each = k.lines.each;
        lengths = k.lines.lengths;
        whole = k.lines.whole;
        inside = omega (arith, r.counted, h.0);
        of_kind = k.of_kind;
      })
      )
  | inr h ↦ inr (h.1, r.counted ∙ h.0)
]

-- the damage of a part
pub bad_damage : (offset : ℕ) (damage : Damage) (p : List ℕ) → (r : IsBad offset damage p) → DamageAt p r.came damage.kind
bad_damage offset damage p r =
    let cut = header_cut r.came r.head r.front r.part in
    record {
      front = r.front;
      byte = r.byte;
      after = r.after;
      whole = r.whole;
      counted = sym r.part.counted;
      sound = begins_sound r.front cut.begins;
      broken = never_broken (r.front ++ r.byte ∷ []) (breaks_never r.came r.head damage.kind r.front r.byte r.part r.breaks);
      bodies = [];
      part = r.front;
      frames = record { frames = refl; none = cut_no_frame r.front cut };
      breaks = breaks_kind r.came r.head damage.kind r.front r.byte r.part r.breaks;
    }
