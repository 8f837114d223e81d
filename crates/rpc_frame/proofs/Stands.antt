-- What stands in the bytes of a header part that lead to a head, by the head's spot.
use Rattle.std.proofs.Common.{◌≡◌, ℕ, ◌<◌, ◌≤◌, ◌⊎◌, Option, Some, None, List, [], ◌∷◌, ◌++◌, length, take}
use Rattle.std.specs.List.{flat_map}
use Rattle.rpc_frame.specs.Limits.{content_limit}
use Rattle.rpc_frame.specs.declared.damage.DamageKind.{DamageKind}
use Rattle.rpc_frame.specs.declared.head.Spot.{Spot}
use Rattle.rpc_frame.specs.declared.head.Spot.TheVariants.{Field, Name, Value, Digits, Behind, LineEnd, Closing}
use Rattle.rpc_frame.specs.declared.head.Head.{Head}
use Rattle.rpc_frame.specs.declared.head.Next.{Next}
use Rattle.rpc_frame.specs.declared.head.Next.TheVariants.{On, Closed, Bad}
use Rattle.rpc_frame.specs.Frames.{name_byte, EachPasses, HeaderLine, line_text, IsLine, AreLines, length_name, IsLengthName, IsLength, IsSize, number_behind, IsHeader}
use Rattle.rpc_frame.specs.Damages.{Lengths, InDigits, BehindDigits, IsOfKind}
use Rattle.rpc_frame.proofs.Bytes.{low}

-- a name that begins the name of the length with so many bytes
pub record InField (at : ℕ) (line : List ℕ) : Type 0 where
  pub passes : EachPasses name_byte line
  pub begins : low line ≡ take at length_name
  pub limit : at ≤ 14

-- a name that doesn't
pub record InName (line : List ℕ) : Type 0 where
  pub passes : EachPasses name_byte line
  pub some : 0 < length line
  pub other : (t : List ℕ) → low (line ++ t) ≡ length_name → ⊥

-- another name, and a value
pub record InValue (line : List ℕ) : Type 0 where
  pub text : HeaderLine
  pub «is» : IsLine text
  pub other : IsLengthName text.name → ⊥
  pub whole : line ≡ text.name ++ (58 ∷ text.value)

-- the name of the length, and so many digits that write this number
pub record InLength (count number : ℕ) (line : List ℕ) : Type 0 where
  pub digits : List ℕ
  pub stands : InDigits line digits
  pub counted : length digits ≡ count
  pub eight : count ≤ 8
  pub written : number_behind 0 digits ≡ number
  pub limit : number ≤ content_limit

-- the name of the length, digits that write this number, and a blank
pub record InBlanks (number : ℕ) (line : List ℕ) : Type 0 where
  pub behind : BehindDigits line
  pub sized : IsSize behind.digits number

-- what Content-Length says with a line more
pub record Says (text : HeaderLine) (said : Option ℕ) : Type 0 where
  pub number : ℕ
  pub length : IsLength text.value number
  pub «is» : said ≡ Some number

abbrev pub Adds : HeaderLine → Option ℕ → Option ℕ → Type 0
Adds text size said = ((IsLengthName text.name → ⊥) × (said ≡ size)) ⊎ (IsLengthName text.name × (size ≡ None) × Says text said)

-- a line up to its CR
pub record AtEnd (size said : Option ℕ) (line : List ℕ) : Type 0 where
  pub text : HeaderLine
  pub «is» : IsLine text
  pub adds : Adds text size said
  pub whole : line ≡ text.name ++ (58 ∷ (text.value ++ (13 ∷ [])))

-- what the spot says of the line: size is what Content-Length says before it, and said with it
abbrev pub InLine : Spot → Option ℕ → Option ℕ → List ℕ → Type 0
InLine (Field at) size said line = (said ≡ size) × InField at line
InLine Name size said line = (said ≡ size) × InName line
InLine Value size said line = (said ≡ size) × InValue line
InLine (Digits count number) size said line = (said ≡ size) × (size ≡ None) × InLength count number line
InLine (Behind number) size said line = (said ≡ size) × (size ≡ None) × InBlanks number line
InLine LineEnd size said line = AtEnd size said line
InLine (Closing number) size said line = (size ≡ Some number) × (line ≡ 13 ∷ [])

-- whole lines, in which Content-Length says this size, and then this line
pub record LinesThen (size : Option ℕ) (line bytes : List ℕ) : Type 0 where
  pub lines : List HeaderLine
  pub each : AreLines lines
  pub lengths : Lengths lines size
  pub whole : bytes ≡ flat_map line_text lines ++ line

pub record Stands (head : Head) (bytes : List ℕ) : Type 0 where
  pub size : Option ℕ
  pub line : List ℕ
  pub lines : LinesThen size line bytes
  pub in_line : InLine head.spot size head.size line

-- behind the bytes of a header part, b is damage of this kind
pub record BreaksAt (kind : DamageKind) (bytes : List ℕ) (b : ℕ) : Type 0 where
  pub size : Option ℕ
  pub line : List ℕ
  pub lines : LinesThen size line bytes
  pub of_kind : IsOfKind kind size line b

-- what the bytes are with b behind them
abbrev pub Leads : Next → List ℕ → ℕ → Type 0
Leads (On head) bytes b = Stands head (bytes ++ b ∷ [])
Leads (Closed size) bytes b = IsHeader (bytes ++ b ∷ []) size
Leads (Bad kind) bytes b = BreaksAt kind bytes b
