-- Texts that pass a test byte by byte are ASCII, and so UTF-8.
use Rattle.std.proofs.Common.{◌≡◌, ℕ, ◌<◌, Bool, true, List, arith}
use Rattle.std.specs.Char.{is_ascii, is_ascii_graphic}
use Rattle.std.specs.Str.{IsAscii, IsUtf8}
use Rattle.std.proofs.lemmas.Bool.Decides.{nat_tests}
use Rattle.std.proofs.lemmas.List.Elements.{All-weaker}
use Rattle.std.proofs.lemmas.List.Sums.{AllPass-from_list_all}
use Rattle.std.specs.List.{list_all}
use Rattle.std.proofs.lemmas.Str.{IsUtf8-from_ascii}
use Rattle.std.proofs.lemmas.Str.Ascii.{IsAscii-from_all}
use Rattle.ob_text.specs.Ascii.{IsGraphic}

-- each byte is a character of ASCII
abbrev pub all_ascii : List ℕ → Bool
all_ascii text = list_all is_ascii text

byte_ascii : (byte : ℕ) → is_ascii byte ≡ true → byte < 128
byte_ascii byte is = grind (arith, nat_tests)

byte_graphic : (byte : ℕ) → is_ascii_graphic byte ≡ true → byte < 128
byte_graphic byte is = grind (arith, nat_tests)

pub ascii_from_test : (text : List ℕ) → all_ascii text ≡ true → IsAscii text
ascii_from_test text is =
    IsAscii-from_all text (All-weaker (λ byte. is_ascii byte ≡ true) (λ byte. byte < 128) byte_ascii text (AllPass-from_list_all is_ascii text is))

-- a literal is shown to be UTF-8 by the test, which computes
pub text_from_test : (text : List ℕ) → all_ascii text ≡ true → IsUtf8 text
text_from_test text is = IsUtf8-from_ascii text (ascii_from_test text is)

pub graphic_ascii : (text : List ℕ) → IsGraphic text → IsAscii text
graphic_ascii text is =
    IsAscii-from_all text (All-weaker (λ byte. is_ascii_graphic byte ≡ true) (λ byte. byte < 128) byte_graphic text (AllPass-from_list_all is_ascii_graphic text is))
