-- The lexis of Oberon-07 (The Programming Language Oberon-07, section 3): how a text is cut into white space, comments,
-- tokens and faults, each the longest possible where it begins. A text is its bytes in UTF-8.
use Rattle.std.specs.Prelude.{◌≡◌, ◌≢◌, ℕ, ◌+◌, ◌-◌, ◌<◌, ◌≤◌, ◌==◌, true, false, List, [], ◌∷◌, ◌++◌, length, drop, pos, codes, nat_eq, None, if◌then◌else◌}
use Rattle.std.specs.Char.{is_ascii_whitespace, is_ascii_alphabetic, is_ascii_digit, is_ascii_alphanumeric, IsScalar, encode_utf8}
use Rattle.std.specs.List.{list_all, starts_with}
use Rattle.ob_text.specs.declared.code.Code.{Code}
use Rattle.ob_text.specs.declared.code.Code.TheVariants as codes_of
use Rattle.ob_text.specs.declared.span.Span.{Span}
use Rattle.ob_text.specs.declared.diagnostic.Diagnostic.{Diagnostic}
use Rattle.ob_text.specs.Position.{range_at}
use Rattle.oberon_scan.specs.declared.token.Token.{Token}
use Rattle.oberon_scan.specs.declared.token.TokenKind.{TokenKind}
use Rattle.oberon_scan.specs.declared.token.TokenKind.TheVariants as kinds
use Rattle.oberon_scan.specs.declared.token.Word.{Word}
use Rattle.oberon_scan.specs.declared.token.Symbol.{Symbol}
use Rattle.oberon_scan.specs.Runs.{quote, is_number_byte, is_suffix, is_string_byte, HasFirst, LacksFirst, IsRun}
use Rattle.oberon_scan.specs.Spelling.{spelling, symbol_text}
use Rattle.oberon_scan.specs.Numbers.{digits_value, signed, largest_decimal, largest_hexadecimal, largest_character}
use Rattle.oberon_scan.specs.Comments.{opens_comment, Closes, StaysOpen}

-- White space (tab, line feed, form feed, carriage return and blank) or a comment stands at the front of the
-- text, before rest.
pub data IsGap : List ℕ → List ℕ → Type 0 where
  blanks : {text rest : List ℕ} (run : List ℕ) → HasFirst is_ascii_whitespace text → IsRun is_ascii_whitespace text run rest → IsGap text rest
  comment : {text rest : List ℕ} (body : List ℕ) → text ≡ codes "(*" ++ body → Closes 1 body rest → IsGap text rest

-- A letter and all letters and digits that follow.
pub record IsName (text run rest : List ℕ) : Type 0 where
  pub first : HasFirst is_ascii_alphabetic text
  pub longest : IsRun is_ascii_alphanumeric text run rest

-- A digit and all digits and letters A to F that follow. After them may come H or X.
pub record IsNumber (text run after : List ℕ) : Type 0 where
  pub first : HasFirst is_ascii_digit text
  pub longest : IsRun is_number_byte text run after

-- A quote and all that follows it in its line, up to the next quote.
pub record IsQuoted (text run after : List ℕ) : Type 0 where
  pub line : List ℕ
  pub first : text ≡ quote ∷ line
  pub longest : IsRun is_string_byte line run after

-- A symbol, where no longer one stands there and no comment begins.
pub record IsSymbol (text : List ℕ) (symbol : Symbol) (rest : List ℕ) : Type 0 where
  pub whole : text ≡ symbol_text symbol ++ rest
  pub longest : (other : Symbol) → starts_with nat_eq text (symbol_text other) ≡ true → length (symbol_text other) ≤ length (symbol_text symbol)
  pub no_comment : opens_comment text ≡ false

-- A token of this kind stands at the front of the text, before rest.
pub data IsToken : List ℕ → TokenKind → List ℕ → Type 0 where
  word : {text rest : List ℕ} (w : Word) → IsName text (spelling w) rest → IsToken text (kinds.Word w) rest
  name : {text rest : List ℕ} (run : List ℕ) → IsName text run rest → ((w : Word) → run ≢ spelling w) → IsToken text (kinds.Ident run) rest
  decimal : {text rest : List ℕ} (run : List ℕ) → IsNumber text run rest → LacksFirst is_suffix rest → list_all is_ascii_digit run ≡ true
      → digits_value 10 run ≤ largest_decimal → IsToken text (kinds.Integer (pos (digits_value 10 run))) rest
  hexadecimal : {text rest : List ℕ} (run : List ℕ) → IsNumber text run (codes "H" ++ rest)
      → digits_value 16 run ≤ largest_hexadecimal → IsToken text (kinds.Integer (signed (digits_value 16 run))) rest
  character : {text rest : List ℕ} (run : List ℕ) → IsNumber text run (codes "X" ++ rest)
      → digits_value 16 run ≤ largest_character → IsToken text (kinds.Str (digits_value 16 run ∷ [])) rest
  string : {text rest : List ℕ} (run : List ℕ) → IsQuoted text run (quote ∷ rest) → IsToken text (kinds.Str run) rest
  symbol : {text rest : List ℕ} (s : Symbol) → IsSymbol text s rest → IsToken text (kinds.Symbol s) rest

-- A character with which neither white space nor a token begins.
pub record IsOther (c : ℕ) : Type 0 where
  pub no_blank : is_ascii_whitespace c ≡ false
  pub no_letter : is_ascii_alphabetic c ≡ false
  pub no_digit : is_ascii_digit c ≡ false
  pub no_quote : c ≢ quote
  pub no_symbol : (s : Symbol) → HasFirst (λ b. b == c) (symbol_text s) → ⊥

-- A fault stands at the front of the text, before rest. It is shown at the first n bytes of the text.
pub data IsFault : List ℕ → Code → ℕ → List ℕ → Type 0 where
  bad_character : {text rest : List ℕ} (c : ℕ) → IsScalar c → IsOther c → text ≡ encode_utf8 c ++ rest
      → IsFault text codes_of.BadCharacter (length (encode_utf8 c)) rest
  open_comment : {text : List ℕ} (body : List ℕ) → text ≡ codes "(*" ++ body → StaysOpen 1 body → IsFault text codes_of.OpenComment 2 []
  open_string : {text rest : List ℕ} (run : List ℕ) → IsQuoted text run rest → LacksFirst (λ b. b == quote) rest
      → IsFault text codes_of.OpenString (1 + length run) rest
  bad_number : {text rest : List ℕ} (run : List ℕ) → IsNumber text run rest → LacksFirst is_suffix rest → list_all is_ascii_digit run ≡ false
      → IsFault text codes_of.BadNumber (length run) rest
  large_decimal : {text rest : List ℕ} (run : List ℕ) → IsNumber text run rest → LacksFirst is_suffix rest → list_all is_ascii_digit run ≡ true
      → largest_decimal < digits_value 10 run → IsFault text codes_of.NumberTooLarge (length run) rest
  large_hexadecimal : {text rest : List ℕ} (run : List ℕ) → IsNumber text run (codes "H" ++ rest)
      → largest_hexadecimal < digits_value 16 run → IsFault text codes_of.NumberTooLarge (length run + 1) rest
  large_character : {text rest : List ℕ} (run : List ℕ) → IsNumber text run (codes "X" ++ rest)
      → largest_character < digits_value 16 run → IsFault text codes_of.NumberTooLarge (length run + 1) rest

-- the offset in the whole text at which rest begins
abbrev pub offset_of : List ℕ → List ℕ → ℕ
offset_of text rest = length text - length rest

-- the part of the whole text from the front of rest up to after
abbrev pub part : List ℕ → List ℕ → List ℕ → Span
part text rest after = record { start = offset_of text rest; end = offset_of text after }

-- the diagnostic of a fault that is shown at n bytes from an offset on
abbrev pub fault_of : List ℕ → ℕ → Code → ℕ → Diagnostic
fault_of text offset code n =
    let span : Span = record { start = offset; end = offset + n } in
    record { span = span; range = range_at text span; code = code; name = None }

-- What is left of the text is cut into these tokens and faults.
pub data Cuts (text : List ℕ) : List ℕ → List Token → List Diagnostic → Type 0 where
  done : Cuts text [] [] []
  gap : {rest after : List ℕ} {ts : List Token} {ds : List Diagnostic} → IsGap rest after → Cuts text after ts ds → Cuts text rest ts ds
  token : {rest after : List ℕ} {ts : List Token} {ds : List Diagnostic} (kind : TokenKind) → IsToken rest kind after → Cuts text after ts ds
      → Cuts text rest (record { span = part text rest after; kind = kind } ∷ ts) ds
  fault : {rest after : List ℕ} {ts : List Token} {ds : List Diagnostic} (code : Code) (n : ℕ) → IsFault rest code n after → Cuts text after ts ds
      → Cuts text rest ts (fault_of text (offset_of text rest) code n ∷ ds)

-- U+FEFF, whose bytes these are, is white space at offset 0.
abbrev pub without_mark : List ℕ → List ℕ
without_mark text = if starts_with nat_eq text (0xEF ∷ 0xBB ∷ 0xBF ∷ []) then drop 3 text else text

-- a text that is scanned has fewer bytes, so that each offset and each line fits 32 bits
abbrev pub too_many_bytes : ℕ
too_many_bytes = 1073741824

-- The text is cut into these tokens and these lexical faults.
abbrev pub Lex : List ℕ → List Token → List Diagnostic → Type 0
Lex text tokens faults = Cuts text (without_mark text) tokens faults
