-- What the decoder knows of the bytes that it keeps: whole frames with their marks, and a part of one.
use Rattle.std.specs.Prelude.{◌≡◌, ℕ, ◌+◌, ◌<◌, ◌≤◌, ◌⊎◌, List, [], ◌∷◌, ◌++◌, length}
use Rattle.rpc_frame.specs.Limits.{header_limit}
use Rattle.rpc_frame.specs.declared.damage.Damage.{Damage}
use Rattle.rpc_frame.specs.declared.damage.DamageKind.{DamageKind}
use Rattle.rpc_frame.specs.declared.damage.DamageKind.TheVariants.{HeaderTooLong}
use Rattle.rpc_frame.specs.declared.head.Head.{Head}
use Rattle.rpc_frame.specs.declared.head.Next.TheVariants.{On, Closed, Bad}
use Rattle.rpc_frame.specs.declared.reading.Reading.{Reading}
use Rattle.rpc_frame.specs.declared.reading.Reading.TheVariants.{Header, Content, Broken}
use Rattle.rpc_frame.specs.declared.reading.Mark.{Mark}
use Rattle.rpc_frame.specs.declared.reading.Step.{Step}
use Rattle.rpc_frame.specs.declared.reading.Step.TheVariants.{Inside, Whole}
use Rattle.rpc_frame.specs.Frames.{IsFrame}
use Rattle.rpc_frame.specs.Heads.{reading, spot_next}
use Rattle.rpc_frame.specs.Spots.{IsFit}

-- so many bytes of a header part, which lead to this head
pub record IsInHeader (came : ℕ) (head : Head) (bytes : List ℕ) : Type 0 where
  pub counted : length bytes ≡ came
  pub limit : came ≤ header_limit
  pub leads : reading bytes ≡ On head

-- a header part of so many bytes, and a content of this size of which so many bytes are missing
pub record IsInContent (header size missing : ℕ) (bytes : List ℕ) : Type 0 where
  pub front : List ℕ
  pub content : List ℕ
  pub closed : reading front ≡ Closed size
  pub counted : length front ≡ header
  pub limit : header ≤ header_limit
  pub some : 0 < missing
  pub left : length content + missing ≡ size
  pub whole : bytes ≡ front ++ content

-- what comes of a head by one byte is damage of this kind; or the header part has all bytes that it may have
abbrev pub Breaks : DamageKind → Head → ℕ → ℕ → Type 0
Breaks kind head came byte = ((came < header_limit) × (spot_next head.spot head.size byte ≡ Bad kind)) ⊎ ((came ≡ header_limit) × (kind ≡ HeaderTooLong))

-- behind a part that stands at this offset of the stream, a byte is damage
pub record IsBad (offset : ℕ) (damage : Damage) (bytes : List ℕ) : Type 0 where
  pub head : Head
  pub came : ℕ
  pub front : List ℕ
  pub byte : ℕ
  pub after : List ℕ
  pub part : IsInHeader came head front
  pub breaks : Breaks damage.kind head came byte
  pub place : damage.place ≡ offset + came
  pub whole : bytes ≡ front ++ (byte ∷ after)

-- the bytes, at this offset of the stream, are a part of a frame, as the reading says
abbrev pub IsPartRead : ℕ → Reading → List ℕ → Type 0
IsPartRead offset (Header came head) bytes = IsInHeader came head bytes
IsPartRead offset (Content header size missing) bytes = IsInContent header size missing bytes
IsPartRead offset (Broken damage) bytes = IsBad offset damage bytes

-- the numbers of a reading are within their limits
abbrev pub IsFitReading : Reading → Type 0
IsFitReading (Header came head) = (came ≤ header_limit) × IsFit head.spot
IsFitReading (Content header size missing) = (0 < missing) × (header ≤ header_limit)
IsFitReading (Broken damage) = Unit {0}

-- the mark says where the content of the frame begins and ends
pub record IsMarked (mark : Mark) (frame : List ℕ) : Type 0 where
  pub front : List ℕ
  pub body : List ℕ
  pub «is» : IsFrame frame body
  pub whole : frame ≡ front ++ body
  pub header : length front ≡ mark.header
  pub content : length body ≡ mark.content

-- the bytes are a part of a frame, or the whole of one
abbrev pub Makes : ℕ → Step → List ℕ → Type 0
Makes offset (Inside reading) bytes = IsPartRead offset reading bytes
Makes offset (Whole mark) bytes = IsMarked mark bytes

abbrev pub IsFitStep : Step → Type 0
IsFitStep (Inside reading) = IsFitReading reading
IsFitStep (Whole mark) = Unit {0}

-- the bytes are a frame with this mark, and then such bytes
pub record MarkThen (bytes : List ℕ) (mark : Mark) (Such : List ℕ → Type 0) : Type 0 where
  pub frame : List ℕ
  pub after : List ℕ
  pub «is» : IsMarked mark frame
  pub whole : bytes ≡ frame ++ after
  pub others : Such after

-- the bytes are frames with these marks, one after another, and then the rest
abbrev pub Marked : List ℕ → List Mark → List ℕ → Type 0
Marked bytes [] rest = bytes ≡ rest
Marked bytes (mark ∷ marks) rest = MarkThen bytes mark (λ after. Marked after marks rest)

-- the bytes, from this offset of the stream on, are frames with these marks, and then a part of one
pub record Scanned (from : ℕ) (reading : Reading) (marks : List Mark) (bytes : List ℕ) : Type 0 where
  pub part : List ℕ
  pub offset : ℕ
  pub counted : offset + length part ≡ from + length bytes
  pub marked : Marked bytes marks part
  pub reads : IsPartRead offset reading part

-- the same, where the part may have come whole
pub record Stepped (from : ℕ) (step : Step) (marks : List Mark) (bytes : List ℕ) : Type 0 where
  pub part : List ℕ
  pub offset : ℕ
  pub counted : offset + length part ≡ from + length bytes
  pub marked : Marked bytes marks part
  pub makes : Makes offset step part

-- the second list is the first, and then others
pub record GoesOn (first second : List Mark) : Type 0 where
  pub more : List Mark
  pub whole : second ≡ first ++ more
