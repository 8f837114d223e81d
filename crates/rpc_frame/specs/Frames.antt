-- What a frame is, and a stream of frames (Language Server Protocol 3.17, base protocol).
use Rattle.std.specs.Prelude.{◌≡◌, ℕ, ◌+◌, ◌-◌, ◌*◌, ◌<◌, ◌≤◌, ◌==◌, ◌||◌, ◌&&◌, ◌⊎◌, nat_le, Bool, true, List, [], ◌∷◌, ◌++◌, length, codes, decimal}
use Rattle.std.specs.List.{flat_map}
use Rattle.std.specs.Char.{IsAsciiDigit, is_ascii_alphanumeric}
use Rattle.std.specs.Str.{str_to_ascii_lowercase}
use Rattle.rpc_frame.specs.Limits.{content_limit, digit_limit, header_limit}

-- a byte of a name: a letter, a digit or a dash
unfoldable pub name_byte : ℕ → Bool
name_byte b = is_ascii_alphanumeric b || (b == 45)

-- a byte of a value: 32 to 126, or a tab
unfoldable pub value_byte : ℕ → Bool
value_byte b = (nat_le 32 b && nat_le b 126) || (b == 9)

-- a blank or a tab
unfoldable pub blank_byte : ℕ → Bool
blank_byte b = (b == 32) || (b == 9)

-- each of the bytes passes the test
abbrev pub EachPasses : (ℕ → Bool) → List ℕ → Type 0
EachPasses test [] = Unit {0}
EachPasses test (b ∷ bs) = (test b ≡ true) × EachPasses test bs

-- a header line: a name, a colon, a value and CR LF
pub record HeaderLine : Type 0 where
  pub name : List ℕ
  pub value : List ℕ

abbrev pub line_text : HeaderLine → List ℕ
line_text l = l.name ++ (58 ∷ (l.value ++ (13 ∷ (10 ∷ []))))

pub record IsLine (l : HeaderLine) : Type 0 where
  pub some : 0 < length l.name
  pub name : EachPasses name_byte l.name
  pub value : EachPasses value_byte l.value

abbrev pub AreLines : List HeaderLine → Type 0
AreLines [] = Unit {0}
AreLines (l ∷ ls) = IsLine l × AreLines ls

-- The name of the line that says how long the content is. Names are compared without ASCII case.
unfoldable pub length_name : List ℕ
length_name = codes "content-length"

abbrev pub IsLengthName : List ℕ → Type 0
IsLengthName name = str_to_ascii_lowercase name ≡ length_name

-- decimal digits, leading zeros too
abbrev pub AreDigits : List ℕ → Type 0
AreDigits [] = Unit {0}
AreDigits (c ∷ cs) = IsAsciiDigit c × AreDigits cs

-- the number that digits write behind those of n
abbrev pub number_behind : ℕ → List ℕ → ℕ
number_behind n [] = n
number_behind n (c ∷ cs) = number_behind (10 * n + (c - 48)) cs

-- the digits write this size of a content: at least one digit and at most eight, and the size is within the limit
pub record IsSize (digits : List ℕ) (size : ℕ) : Type 0 where
  pub each : AreDigits digits
  pub one : 0 < length digits
  pub eight : length digits ≤ digit_limit
  pub number : number_behind 0 digits ≡ size
  pub limit : size ≤ content_limit

-- the value says this size of a content; blanks and tabs on either side don't count
pub record IsLength (value : List ℕ) (size : ℕ) : Type 0 where
  pub before : List ℕ
  pub digits : List ℕ
  pub after : List ℕ
  pub blank_before : EachPasses blank_byte before
  pub sized : IsSize digits size
  pub blank_after : EachPasses blank_byte after
  pub whole : value ≡ before ++ (digits ++ after)

-- no line is named Content-Length
abbrev pub LacksLength : List HeaderLine → Type 0
LacksLength [] = Unit {0}
LacksLength (l ∷ ls) = (IsLengthName l.name → ⊥) × LacksLength ls

-- exactly one line is named Content-Length, and it says this size
abbrev pub OneLength : List HeaderLine → ℕ → Type 0
OneLength [] size = ⊥
OneLength (l ∷ ls) size = (IsLengthName l.name × IsLength l.value size × LacksLength ls) ⊎ ((IsLengthName l.name → ⊥) × OneLength ls size)

-- a header part, of whatever length, that says this size: header lines, and an empty line that closes it
pub record IsHeader (header : List ℕ) (size : ℕ) : Type 0 where
  pub lines : List HeaderLine
  pub each : AreLines lines
  pub once : OneLength lines size
  pub whole : header ≡ flat_map line_text lines ++ (13 ∷ (10 ∷ []))

-- a frame with this content
pub record IsFrame (frame body : List ℕ) : Type 0 where
  pub header : List ℕ
  pub «is» : IsHeader header (length body)
  pub limit : length header ≤ header_limit
  pub whole : frame ≡ header ++ body

-- the bytes are a frame with this content, and then others
pub record BeginsWith (bytes body after : List ℕ) : Type 0 where
  pub frame : List ℕ
  pub «is» : IsFrame frame body
  pub whole : bytes ≡ frame ++ after

-- the bytes are a frame with this content, and then such bytes
pub record FrameThen (bytes body : List ℕ) (Such : List ℕ → Type 0) : Type 0 where
  pub after : List ℕ
  pub begins : BeginsWith bytes body after
  pub others : Such after

-- the bytes are the frames of these contents, one after another, and then the rest
abbrev pub FramesTo : List ℕ → List (List ℕ) → List ℕ → Type 0
FramesTo bytes [] rest = bytes ≡ rest
FramesTo bytes (body ∷ bodies) rest = FrameThen bytes body (λ after. FramesTo after bodies rest)

-- no frame begins the bytes
pub record HasNoFrame (bytes : List ℕ) : Type 0 where
  pub none : (body after : List ℕ) → BeginsWith bytes body after → ⊥

-- The bytes begin a frame. The limit of its header part is left aside, but as much of that part as
-- has come is within it: a header part is too long from its byte 1,025 on, and not before.
pub record BeginsFrame (bytes : List ℕ) : Type 0 where
  pub more : List ℕ
  pub header : List ℕ
  pub body : List ℕ
  pub «is» : IsHeader header (length body)
  pub limit : (length bytes ≤ header_limit) ⊎ (length header ≤ header_limit)
  pub whole : bytes ++ more ≡ header ++ body

-- the bytes are these frames, and a rest that no frame begins
pub record Frames (bytes : List ℕ) (bodies : List (List ℕ)) (rest : List ℕ) : Type 0 where
  pub frames : FramesTo bytes bodies rest
  pub none : HasNoFrame rest

-- the bytes are frames and nothing more
pub record IsBorder (bytes : List ℕ) : Type 0 where
  pub bodies : List (List ℕ)
  pub frames : FramesTo bytes bodies []

-- the bytes begin a list of frames: they are frames, and then what begins one more
pub record IsSound (bytes : List ℕ) : Type 0 where
  pub bodies : List (List ℕ)
  pub rest : List ℕ
  pub frames : FramesTo bytes bodies rest
  pub begins : BeginsFrame rest

-- the bytes begin no list of frames, however they go on
pub record IsBroken (bytes : List ℕ) : Type 0 where
  pub none : IsSound bytes → ⊥

-- the one header line of a frame that is written, up to its number
unfoldable pub field_name : List ℕ
field_name = codes "Content-Length: "

-- the end of that line, and the empty line that closes the header part
unfoldable pub line_ends : List ℕ
line_ends = codes "\r\n\r\n"

-- the frame of a content as the server writes it
unfoldable pub written_frame : List ℕ → List ℕ
written_frame body = field_name ++ (decimal (length body) ++ (line_ends ++ body))

-- a stream as its decoder keeps it: the bytes that were not given yet, and how many bytes the stream
-- has through the last frame that was given
pub record Waiting : Type 0 where
  pub bytes : List ℕ
  pub given_end : ℕ
