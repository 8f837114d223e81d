-- What a decoder makes of the bytes of a header part, one after another. The laws in proofs/ show that
-- a header part is read to its end exactly where it is one.
use Rattle.std.specs.Prelude.{ℕ, ◌+◌, ◌-◌, ◌*◌, ◌==◌, ◌&&◌, Bool, nat_lt, if◌then◌else◌, Option, Some, None, List, [], ◌∷◌, slice_index}
use Rattle.std.specs.Char.{is_ascii_digit, to_ascii_lowercase}
use Rattle.rpc_frame.specs.Limits.{content_limit, digit_limit}
use Rattle.rpc_frame.specs.declared.damage.DamageKind.TheVariants.{BadLine, TwoLengths, BadLength, TooLong, NoLength, Truncated}
use Rattle.rpc_frame.specs.declared.head.Spot.{Spot}
use Rattle.rpc_frame.specs.declared.head.Spot.TheVariants.{Field, Name, Value, Digits, Behind, LineEnd, Closing}
use Rattle.rpc_frame.specs.declared.head.Next.{Next}
use Rattle.rpc_frame.specs.declared.head.Next.TheVariants.{On, Closed, Bad}
use Rattle.rpc_frame.specs.Frames.{name_byte, value_byte, blank_byte, length_name}

abbrev pub on : Option ℕ → Spot → Next
on size spot = On (record { size = size; spot = spot })

-- behind the whole lines, the CR of the closing line
abbrev pub lines_next : Option ℕ → Next
lines_next None = Bad NoLength
lines_next (Some size) = on (Some size) (Closing size)

-- behind the name Content-Length, its colon
abbrev pub length_next : Option ℕ → Next
length_next None = on None (Digits 0 0)
length_next (Some size) = Bad TwoLengths

-- the byte goes on so many bytes of the name Content-Length
unfoldable pub goes_on : ℕ → ℕ → Bool
goes_on at b = nat_lt at 14 && (to_ascii_lowercase b == slice_index length_name at)

unfoldable pub field_next : ℕ → Option ℕ → ℕ → Next
field_next at size b =
    if (at == 0) && (b == 13) then lines_next size
    else (if nat_lt 0 at && (b == 58) then (if at == 14 then length_next size else on size Value)
    else (if name_byte b then (if goes_on at b then on size (Field (at + 1)) else on size Name)
    else Bad BadLine))

unfoldable pub name_next : Option ℕ → ℕ → Next
name_next size b = if b == 58 then on size Value else (if name_byte b then on size Name else Bad BadLine)

unfoldable pub value_next : Option ℕ → ℕ → Next
value_next size b = if b == 13 then on size LineEnd else (if value_byte b then on size Value else Bad BadLine)

-- a byte that goes on no value of Content-Length
unfoldable pub other_next : ℕ → Next
other_next b = if value_byte b then Bad BadLength else Bad BadLine

unfoldable pub figure_next : ℕ → ℕ → Option ℕ → ℕ → Next
figure_next count number size figure =
    if count == digit_limit then Bad BadLength
    else (if nat_lt content_limit (10 * number + figure) then Bad TooLong
    else on size (Digits (count + 1) (10 * number + figure)))

unfoldable pub digits_next : ℕ → ℕ → Option ℕ → ℕ → Next
digits_next count number size b =
    if is_ascii_digit b then figure_next count number size (b - 48)
    else (if b == 13 then (if count == 0 then Bad BadLength else on (Some number) LineEnd)
    else (if blank_byte b then (if count == 0 then on size (Digits count number) else on size (Behind number))
    else other_next b))

unfoldable pub behind_next : ℕ → Option ℕ → ℕ → Next
behind_next number size b =
    if b == 13 then on (Some number) LineEnd
    else (if blank_byte b then on size (Behind number) else other_next b)

unfoldable pub end_next : Option ℕ → ℕ → Next
end_next size b = if b == 10 then on size (Field 0) else Bad BadLine

unfoldable pub closing_next : ℕ → ℕ → Next
closing_next size b = if b == 10 then Closed size else Bad BadLine

abbrev pub spot_next : Spot → Option ℕ → ℕ → Next
spot_next (Field at) size b = field_next at size b
spot_next Name size b = name_next size b
spot_next Value size b = value_next size b
spot_next (Digits count number) size b = digits_next count number size b
spot_next (Behind number) size b = behind_next number size b
spot_next LineEnd size b = end_next size b
spot_next (Closing said) size b = closing_next said b

-- the bytes one after another; a byte behind a closed header part is none of it
abbrev pub run : Next → List ℕ → Next
run next [] = next
run (On head) (b ∷ bs) = run (spot_next head.spot head.size b) bs
run (Closed size) (b ∷ bs) = Bad Truncated
run (Bad kind) (b ∷ bs) = Bad kind

-- the start of a header part, and what its bytes lead to
abbrev pub start : Next
start = on None (Field 0)

abbrev pub reading : List ℕ → Next
reading bytes = run start bytes
