-- Header parts in front of one stream are one, and no header part begins with a part of another.
use Rattle.std.proofs.Common.{◌≡◌, ℕ, ◌<◌, ◌≤◌, ◌⊎◌, inl, inr, List, [], ◌∷◌, ◌++◌, length, take, drop, sym, ◌∙◌, ap, refl, arith, append_assoc, length-append}
use Rattle.std.proofs.lemmas.List.{append-nil, take_at, drop_at}
use Rattle.std.specs.List.{flat_map}
use Rattle.rpc_frame.specs.Limits.{content_limit}
use Rattle.rpc_frame.specs.declared.damage.DamageKind.{DamageKind}
use Rattle.rpc_frame.specs.declared.damage.DamageKind.TheVariants.{Truncated}
use Rattle.rpc_frame.specs.declared.head.Head.{Head}
use Rattle.rpc_frame.specs.declared.head.Next.TheVariants.{On, Closed, Bad}
use Rattle.rpc_frame.specs.Frames.{HeaderLine, line_text, OneLength, IsHeader, IsFrame, BeginsWith}
use Rattle.rpc_frame.specs.Heads.{run, start, reading}
use Rattle.rpc_frame.proofs.RunLaws.{run_bad, run_on, closed_on, closed_bad, closed_same}
use Rattle.rpc_frame.proofs.ReadLaws.{header_closed}

-- lists whose fronts have one length
pub same_fronts : (a b x y : List ℕ) → length a ≡ length b → a ++ x ≡ b ++ y → (a ≡ b) × (x ≡ y)
same_fronts a b x y same e = (
  sym (take_at a x (length b) same) ∙ ap (take (length b)) e ∙ take_at b y (length b) refl,
  sym (drop_at a x (length b) same) ∙ ap (drop (length b)) e ∙ drop_at b y (length b) refl,
)

-- the second front goes on the first, whose rest goes on the second rest
pub record GoesOver (a b x y : List ℕ) : Type 0 where
  pub mid : List ℕ
  pub longer : b ≡ a ++ mid
  pub rest : x ≡ mid ++ y

pub fronts : (a b x y : List ℕ) → a ++ x ≡ b ++ y → GoesOver a b x y ⊎ GoesOver b a y x
fronts [] b x y e = inl (record { mid = b; longer = refl; rest = e })
fronts (c ∷ a) [] x y e = inr (record { mid = c ∷ a; longer = refl; rest = sym e })
fronts (c ∷ a) (d ∷ b) x y e =
    let same : c ≡ d = cc in
    let tails : a ++ x ≡ b ++ y = cc in
    elim (fronts a b x y tails) [
      | inl g ↦ inl (record { mid = g.mid; longer = let h = g.longer in cc; rest = g.rest })
      | inr g ↦ inr (record { mid = g.mid; longer = let h = g.longer in cc; rest = g.rest })
    ]

-- what stands behind a header part
reading_behind : (header x : List ℕ) (size : ℕ) → IsHeader header size → reading (header ++ x) ≡ run (Closed size) x
reading_behind header x size h = run_on start (Closed size) header x (header_closed header size h)

pub record OneHeader (h g x y : List ℕ) (m n : ℕ) : Type 0 where
  pub header : h ≡ g
  pub size : m ≡ n
  pub rest : x ≡ y

header_over : (h g x y : List ℕ) (m n : ℕ) → IsHeader h m → IsHeader g n → GoesOver h g x y → OneHeader h g x y m n
header_over h g x y m n ih ig o =
    let same = closed_same m n o.mid (sym (reading_behind h o.mid m ih) ∙ ap reading (sym o.longer) ∙ header_closed g n ig) in
    record {
      header = sym (o.longer ∙ ap (λ t. h ++ t) same.0 ∙ append-nil h);
      size = same.1;
      rest = o.rest ∙ ap (λ t. t ++ y) same.0;
    }

pub one_header : (h g x y : List ℕ) (m n : ℕ) → IsHeader h m → IsHeader g n → h ++ x ≡ g ++ y → OneHeader h g x y m n
one_header h g x y m n ih ig e = elim (fronts h g x y e) [
  | inl o ↦ header_over h g x y m n ih ig o
  | inr o ↦ (let r = header_over g h y x n m ig ih o in record { header = sym r.header; size = sym r.size; rest = sym r.rest })
]

-- Bytes that lead on inside a header part begin with none.
pub on_no_header : (bytes : List ℕ) (head : Head) (header x : List ℕ) (size : ℕ) → reading bytes ≡ On head → IsHeader header size → bytes ≡ header ++ x → ⊥
on_no_header bytes head header x size on is e = closed_on size x head (sym (reading_behind header x size is) ∙ ap reading (sym e) ∙ on)

-- Bytes that break a header part begin with none, however they go on.
pub bad_no_header : (bytes : List ℕ) (kind : DamageKind) (more header x : List ℕ) (size : ℕ) → reading bytes ≡ Bad kind → (kind ≡ Truncated → ⊥) → IsHeader header size → bytes ++ more ≡ header ++ x → ⊥
bad_no_header bytes kind more header x size bad other is e =
    other (closed_bad size x kind (sym (reading_behind header x size is) ∙ ap reading (sym e) ∙ run_on start (Bad kind) bytes more bad ∙ run_bad kind more))

pub header_some : (header : List ℕ) (size : ℕ) → IsHeader header size → 0 < length header
header_some header size h = omega (arith, ap length h.whole, length-append (flat_map line_text h.lines) (13 ∷ (10 ∷ [])))

-- A header part says no size above the limit.
pub lines_limit : (lines : List HeaderLine) (size : ℕ) → OneLength lines size → size ≤ content_limit
lines_limit [] size h = absurd h
lines_limit (l ∷ ls) size h = elim h [ inl p ↦ p.1.sized.limit | inr p ↦ lines_limit ls size p.1 ]

pub header_limit : (header : List ℕ) (size : ℕ) → IsHeader header size → size ≤ content_limit
header_limit header size h = lines_limit h.lines size h.once

pub frame_some : (frame body : List ℕ) → IsFrame frame body → 0 < length frame
frame_some frame body f = omega (arith, ap length f.whole, length-append f.header body, header_some f.header (length body) f.is)

-- a stream in front of which a frame stands
pub stands : (s body after : List ℕ) (w : BeginsWith s body after) → s ≡ w.is.header ++ (body ++ after)
stands s body after w = w.whole ∙ ap (λ f. f ++ after) w.is.whole ∙ append_assoc w.is.header body after

-- Frames in front of one stream are one frame, with one content.
pub one_frame : (s b c x y : List ℕ) → BeginsWith s b x → BeginsWith s c y → (b ≡ c) × (x ≡ y)
one_frame s b c x y v w =
    let same = one_header v.is.header w.is.header (b ++ x) (c ++ y) (length b) (length c) v.is.is w.is.is (sym (stands s b x v) ∙ stands s c y w) in
    same_fronts b c x y same.size same.rest
