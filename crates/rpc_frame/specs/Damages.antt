-- Damage of a stream: its place and its kind.
use Rattle.std.specs.Prelude.{◌≡◌, ◌≢◌, ℕ, ◌+◌, ◌<◌, ◌⊎◌, true, false, Option, Some, None, List, [], ◌∷◌, ◌++◌, length}
use Rattle.std.specs.List.{flat_map}
use Rattle.std.specs.Char.{is_ascii_digit}
use Rattle.rpc_frame.specs.Limits.{content_limit, digit_limit, header_limit}
use Rattle.rpc_frame.specs.declared.damage.DamageKind.{DamageKind}
use Rattle.rpc_frame.specs.declared.damage.DamageKind.TheVariants.{BadLine, TwoLengths, BadLength, TooLong, NoLength, HeaderTooLong, Truncated}
use Rattle.rpc_frame.specs.declared.damage.Damage.{Damage}
use Rattle.rpc_frame.specs.declared.damage.FeedFault.{FeedFault}
use Rattle.rpc_frame.specs.declared.damage.FeedFault.TheVariants.{Damaged, NoMemory}
use Rattle.rpc_frame.specs.Frames.{name_byte, value_byte, blank_byte, EachPasses, HeaderLine, line_text, IsLine, AreLines, IsLengthName, AreDigits, number_behind, LacksLength, OneLength, Frames, IsSound, IsBroken, Waiting}

-- the size that Content-Length says in these lines, where it stands in them
abbrev pub Lengths : List HeaderLine → Option ℕ → Type 0
Lengths lines None = LacksLength lines
Lengths lines (Some size) = OneLength lines size

-- a line up to the middle of its name: what can't continue the name is no byte of a name, no colon
-- behind one, and no CR of the closing line
pub record BreaksName (line : List ℕ) (b : ℕ) : Type 0 where
  pub name : EachPasses name_byte line
  pub other : name_byte b ≡ false
  pub colon : b ≡ 58 → line ≡ []
  pub closing : b ≡ 13 → line ≢ []

-- a line up to the middle of its value
pub record BreaksValue (line : List ℕ) (b : ℕ) : Type 0 where
  pub text : HeaderLine
  pub «is» : IsLine text
  pub whole : line ≡ text.name ++ (58 ∷ text.value)
  pub other : value_byte b ≡ false
  pub «end» : b ≢ 13

-- a line up to its CR, and the closing line up to its CR
pub record BreaksEnd (line : List ℕ) (b : ℕ) : Type 0 where
  pub text : HeaderLine
  pub «is» : IsLine text
  pub whole : line ≡ text.name ++ (58 ∷ (text.value ++ (13 ∷ [])))
  pub other : b ≢ 10

pub record BreaksClosing (line : List ℕ) (b : ℕ) : Type 0 where
  pub whole : line ≡ 13 ∷ []
  pub other : b ≢ 10

-- a Content-Length line up to its digits, and up to the blanks behind them
pub record InDigits (line digits : List ℕ) : Type 0 where
  pub name : List ℕ
  pub before : List ℕ
  pub named : IsLengthName name
  pub passes : EachPasses name_byte name
  pub blank : EachPasses blank_byte before
  pub each : AreDigits digits
  pub whole : line ≡ name ++ (58 ∷ (before ++ digits))

pub record BehindDigits (line : List ℕ) : Type 0 where
  pub digits : List ℕ
  pub after : List ℕ
  pub front : List ℕ
  pub stands : InDigits front digits
  pub one : 0 < length digits
  pub some : 0 < length after
  pub blank : EachPasses blank_byte after
  pub whole : line ≡ front ++ after

-- in the value of Content-Length: a byte that is no digit, a ninth digit, or the CR of an empty value
pub record BreaksDigits (line : List ℕ) (b : ℕ) : Type 0 where
  pub digits : List ℕ
  pub stands : InDigits line digits
  pub breaks : ((value_byte b ≡ true) × (is_ascii_digit b ≡ false) × (blank_byte b ≡ false)) ⊎ (((is_ascii_digit b ≡ true) × (length digits ≡ digit_limit)) ⊎ ((b ≡ 13) × (digits ≡ [])))

-- behind its digits and a blank: a byte that is no blank
pub record BreaksBehind (line : List ℕ) (b : ℕ) : Type 0 where
  pub behind : BehindDigits line
  pub other : (value_byte b ≡ true) × (blank_byte b ≡ false)

-- the one of the first eight digits with which the value passes the limit
pub record PassesLimit (line : List ℕ) (b : ℕ) : Type 0 where
  pub digits : List ℕ
  pub stands : InDigits line digits
  pub few : length digits < digit_limit
  pub digit : is_ascii_digit b ≡ true
  pub large : content_limit < number_behind 0 (digits ++ b ∷ [])

-- What kind of damage the byte is behind whole header lines, in which Content-Length says this size,
-- and these bytes of one more line. HeaderTooLong goes by the number of bytes alone, and Truncated is
-- the end of an input and no byte.
abbrev pub IsOfKind : DamageKind → Option ℕ → List ℕ → ℕ → Type 0
IsOfKind BadLine size line b = BreaksName line b ⊎ (BreaksValue line b ⊎ (BreaksEnd line b ⊎ BreaksClosing line b))
IsOfKind TwoLengths size line b = (size ≢ None) × EachPasses name_byte line × IsLengthName line × (b ≡ 58)
IsOfKind BadLength size line b = (size ≡ None) × (BreaksDigits line b ⊎ BreaksBehind line b)
IsOfKind TooLong size line b = (size ≡ None) × PassesLimit line b
IsOfKind NoLength size line b = (size ≡ None) × (line ≡ []) × (b ≡ 13)
IsOfKind HeaderTooLong size line b = ⊥
IsOfKind Truncated size line b = ⊥

-- The byte behind this part of a header part is damage of the kind. Byte 1,025 of a header part is
-- HeaderTooLong, whatever it is; the other kinds stand in front of it.
pub record BreaksPart (kind : DamageKind) (part : List ℕ) (b : ℕ) : Type 0 where
  pub lines : List HeaderLine
  pub size : Option ℕ
  pub line : List ℕ
  pub each : AreLines lines
  pub lengths : Lengths lines size
  pub whole : part ≡ flat_map line_text lines ++ line
  pub inside : length part < header_limit
  pub of_kind : IsOfKind kind size line b

abbrev pub BreaksHeader : DamageKind → List ℕ → ℕ → Type 0
BreaksHeader kind part b = BreaksPart kind part b ⊎ ((kind ≡ HeaderTooLong) × (length part ≡ header_limit))

-- Damage: the byte at the place is the last of the shortest front of the bytes that begins no list of
-- frames, and of this kind in the header part that stands behind the whole frames.
pub record DamageAt (bytes : List ℕ) (place : ℕ) (kind : DamageKind) : Type 0 where
  pub front : List ℕ
  pub byte : ℕ
  pub after : List ℕ
  pub whole : bytes ≡ front ++ (byte ∷ after)
  pub counted : place ≡ length front
  pub sound : IsSound front
  pub broken : IsBroken (front ++ byte ∷ [])
  pub bodies : List (List ℕ)
  pub part : List ℕ
  pub frames : Frames front bodies part
  pub breaks : BreaksHeader kind part byte

-- the damage of a stream of which these bytes wait: its place counts from the start of the stream
pub record HasDamage (stream : Waiting) (damage : Damage) : Type 0 where
  pub place : ℕ
  pub counted : damage.place ≡ stream.given_end + place
  pub at : DamageAt stream.bytes place damage.kind

-- a fact of the damage, where the fault is one
abbrev pub IfDamaged : FeedFault → (Damage → Type 0) → Type 0
IfDamaged (Damaged damage) P = P damage
IfDamaged NoMemory P = Unit {0}
