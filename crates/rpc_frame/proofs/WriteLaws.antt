-- What the server writes is a frame.
use Rattle.std.proofs.Common.{◌≡◌, ℕ, ◌≤◌, ◌<◌, ◌^◌, Bool, true, List, [], ◌∷◌, ◌++◌, length, decimal, codes, inl, sym, ap, ◌∙◌, refl, arith, rules, append_assoc, length-append}
use Rattle.std.proofs.lemmas.List.{append-nil}
use Rattle.std.proofs.lemmas.Bool.{and_parts}
use Rattle.std.proofs.lemmas.Fmt.{digits_decimal, digits_value-decimal, decimal_nonempty, length-decimal-le}
use Rattle.std.proofs.lemmas.Str.Parse.{IsNumeralModel, numerals_by_fold}
use Rattle.std.specs.List.{flat_map, list_all}
use Rattle.rpc_frame.specs.Limits.{content_limit, header_limit}
use Rattle.rpc_frame.specs.Frames.{name_byte, value_byte, blank_byte, EachPasses, HeaderLine, line_text, IsLine, length_name, IsLengthName, IsLength, AreDigits, number_behind, IsSize, IsHeader, IsFrame, BeginsWith, field_name, line_ends, written_frame}
use Rattle.rpc_frame.proofs.Bytes.{digits_values}
use Rattle.rpc_frame.proofs.FrameLaws.{frame_begins}

-- digits and their number are what std prints of a number
own : IsNumeralModel AreDigits (number_behind 0)
own = numerals_by_fold AreDigits (search rules) number_behind (search rules)

pub size_of_decimal : (n : ℕ) → n ≤ content_limit → IsSize (decimal n) n
size_of_decimal n h =
    let small : n < 2 ^ 64 = omega arith in
    let short : n < 10 ^ 8 = omega arith in
    record {
      each = digits_decimal own n small;
      one = decimal_nonempty n small;
      eight = length-decimal-le 8 n (omega arith) short small;
      number = digits_value-decimal own n small;
      limit = h;
    }

-- the header part of a content of so many bytes
header_of : ℕ → List ℕ
header_of n = field_name ++ (decimal n ++ line_ends)

line_of : ℕ → HeaderLine
line_of n = record { name = codes "Content-Length"; value = 32 ∷ decimal n }

all_pass : (test : ℕ → Bool) (bs : List ℕ) → list_all test bs ≡ true → EachPasses test bs
all_pass test [] h = tt
all_pass test (b ∷ bs) h = let p = and_parts (test b) (list_all test bs) h in (p.0, all_pass test bs p.1)

line_is : (n : ℕ) → n ≤ content_limit → IsLine (line_of n)
unfolding line_of name_byte value_byte
line_is n h = record {
  some = omega arith;
  name = all_pass name_byte (codes "Content-Length") refl;
  value = (refl, digits_values (decimal n) (size_of_decimal n h).each);
}

line_named : (n : ℕ) → IsLengthName (line_of n).name
unfolding line_of length_name
line_named n = refl

line_says : (n : ℕ) → n ≤ content_limit → IsLength (line_of n).value n
unfolding line_of blank_byte
line_says n h = record {
  before = 32 ∷ [];
  digits = decimal n;
  after = [];
  blank_before = (refl, tt);
  sized = size_of_decimal n h;
  blank_after = tt;
  whole = ap (λ t. 32 ∷ t) (sym (append-nil (decimal n)));
}

header_shown : (n : ℕ) → header_of n ≡ flat_map line_text (line_of n ∷ []) ++ (13 ∷ (10 ∷ []))
unfolding header_of line_of field_name line_ends
header_shown n =
    let ends : List ℕ = 13 ∷ (10 ∷ []) in
    let tail : decimal n ++ (ends ++ ends) ≡ ((decimal n ++ ends) ++ []) ++ ends =
    sym (append_assoc (decimal n) ends ends) ∙ ap (λ t. t ++ ends) (sym (append-nil (decimal n ++ ends))) in
    ap (λ t. field_name ++ t) tail

header_is : (n : ℕ) → n ≤ content_limit → IsHeader (header_of n) n
header_is n h = record {
  lines = line_of n ∷ [];
  each = (line_is n h, tt);
  once = inl (line_named n, line_says n h, tt);
  whole = header_shown n;
}

length-header_of : (n : ℕ) → n ≤ content_limit → length (header_of n) ≤ header_limit
unfolding header_of field_name line_ends
length-header_of n h =
    omega (arith, (size_of_decimal n h).eight, length-append field_name (decimal n ++ line_ends), length-append (decimal n) line_ends)

pub written_is_frame : (body : List ℕ) → length body ≤ content_limit → IsFrame (written_frame body) body
unfolding written_frame header_of
written_is_frame body h =
    let n = length body in
    record {
      header = header_of n;
      «is» = header_is n h;
      limit = length-header_of n h;
      whole = sym (append_assoc field_name (decimal n ++ line_ends) body ∙ ap (λ t. field_name ++ t) (append_assoc (decimal n) line_ends body));
    }

-- what was written is read again, whatever follows it
pub written_begins : (body after : List ℕ) → length body ≤ content_limit → BeginsWith (written_frame body ++ after) body after
written_begins body after h = frame_begins (written_frame body) body after (written_is_frame body h)

-- the parts of a frame, written one behind another
pub written_parts : (a b c d out digits body : List ℕ) → a ≡ out ++ field_name → b ≡ a ++ digits → c ≡ b ++ line_ends → d ≡ c ++ body → digits ≡ decimal (length body) → d ≡ out ++ written_frame body
unfolding written_frame
written_parts a b c d out digits body e f g h i =
    let parts : d ≡ (((out ++ field_name) ++ decimal (length body)) ++ line_ends) ++ body = cc in
    parts ∙ append_assoc ((out ++ field_name) ++ decimal (length body)) line_ends body
    ∙ append_assoc (out ++ field_name) (decimal (length body)) (line_ends ++ body)
    ∙ append_assoc out field_name (decimal (length body) ++ (line_ends ++ body))
