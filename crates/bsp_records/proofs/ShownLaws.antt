-- What is shown of a name is ASCII, so that messages are texts.
use Rattle.std.proofs.Common.{◌≡◌, ◌<◌, ◌∙◌, ℕ, List, [], ◌∷◌, Bool, true, false, cond, Option, Some, None, length, take, refl, sym, ap, subst, arith}
use Rattle.std.specs.Char.{is_ascii}
use Rattle.std.specs.List.{take_while, prefix_len}
use Rattle.std.specs.Str.{IsAscii, IsUtf8}
use Rattle.std.proofs.lemmas.Bool.Decides.{nat_tests}
use Rattle.std.proofs.lemmas.List.{take_all}
use Rattle.std.proofs.lemmas.List.Sums.{prefix_len_is, take_while-cons}
use Rattle.std.proofs.lemmas.Str.{IsUtf8-append, IsUtf8-from_ascii, IsAscii-take}
use Rattle.std.proofs.lemmas.Str.Ascii.{IsAscii-nil, IsAscii-cons}
use Rattle.bsp_records.specs.Shown.{name_shown, shown_message}

byte_ascii : (byte : ℕ) → is_ascii byte ≡ true → byte < 128
byte_ascii byte is = grind (arith, nat_tests)

ascii_byte : (byte : ℕ) → byte < 128 → is_ascii byte ≡ true
ascii_byte byte less = grind (arith, nat_tests)

one_more : (byte : ℕ) (rest : List ℕ) (passes : Bool) → is_ascii byte ≡ passes → IsAscii rest → IsAscii (cond passes (byte ∷ rest) [])
one_more byte rest true is ascii = IsAscii-cons byte rest (byte_ascii byte is) ascii
one_more byte rest false is ascii = IsAscii-nil

front_ascii : (bytes : List ℕ) → IsAscii (take_while is_ascii bytes)
front_ascii [] = IsAscii-nil
front_ascii (byte ∷ bytes) = subst IsAscii (sym (take_while-cons is_ascii byte bytes)) (one_more byte (take_while is_ascii bytes) (is_ascii byte) refl (front_ascii bytes))

shown_ascii : (name : Option (List ℕ)) → IsAscii (name_shown name)
shown_ascii None = IsAscii-nil
shown_ascii (Some name) = front_ascii (take 64 name)

-- a text, with what is shown of a name behind it, is a text
pub message_text : (message : List ℕ) (name : Option (List ℕ)) → IsUtf8 message → IsUtf8 (shown_message message name)
message_text message name is = IsUtf8-append message (name_shown name) is (IsUtf8-from_ascii (name_shown name) (shown_ascii name))

-- of ASCII all bytes pass
all_front : (bytes : List ℕ) → IsAscii bytes → take_while is_ascii bytes ≡ bytes
all_front bytes ascii =
    let whole : prefix_len is_ascii bytes ≡ length bytes =
    prefix_len_is is_ascii bytes (length bytes) 0 (omega arith) (λ k within. ascii_byte _ (ascii k)) (λ within. absurd (omega arith)) in
    ap (λ n. take n bytes) whole ∙ take_all (length bytes) bytes (omega arith)

-- an ASCII name is shown as far as the limit
pub plain_shown : (name : List ℕ) → IsAscii name → name_shown (Some name) ≡ take 64 name
plain_shown name ascii = all_front (take 64 name) (IsAscii-take name 64 ascii)
