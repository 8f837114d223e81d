-- What the scanner cuts off the front of a text, as the lexis has it.
use Rattle.std.specs.Prelude.{◌≡◌, ◌≢◌, ℕ, ◌+◌, ◌≤◌, false, List, [], ◌∷◌, ◌++◌, length}
use Rattle.ob_text.specs.declared.span.Span.{Span}
use Rattle.ob_text.specs.declared.diagnostic.Diagnostic.{Diagnostic}
use Rattle.oberon_scan.specs.declared.token.Token.{Token}
use Rattle.std.specs.Char.{is_ascii_whitespace, is_ascii_alphabetic, is_ascii_digit}
use Rattle.oberon_scan.specs.declared.piece.Piece.{Piece}
use Rattle.oberon_scan.specs.declared.piece.Piece.TheVariants as pieces
use Rattle.oberon_scan.specs.Lexis.{IsGap, IsToken, IsFault, fault_of}
use Rattle.oberon_scan.specs.Runs.{quote}

abbrev pub CutsOff : List ℕ → Piece → List ℕ → Type 0
CutsOff text pieces.Gap rest = IsGap text rest
CutsOff text (pieces.Token kind) rest = IsToken text kind rest
CutsOff text (pieces.Fault code n) rest = IsFault text code n rest

-- Neither white space nor a name, a number or a string begins with the byte.
pub record IsNoBeginning (byte : ℕ) : Type 0 where
  pub no_blank : is_ascii_whitespace byte ≡ false
  pub no_letter : is_ascii_alphabetic byte ≡ false
  pub no_digit : is_ascii_digit byte ≡ false
  pub no_quote : byte ≢ quote

-- the fault is shown within the text
abbrev pub IsWithinText : List ℕ → Piece → Span → Type 0
IsWithinText text (pieces.Fault code n) span = span.start + n ≤ length text
IsWithinText text _ span = Unit {0}

-- The lists of tokens and of faults have what the piece at this part of the text adds to them.
abbrev pub Adds : List ℕ → Piece → Span → List Token → List Diagnostic → List Token → List Diagnostic → Type 0
Adds text pieces.Gap span ts ds us es = (us ≡ ts) × (es ≡ ds)
Adds text (pieces.Token kind) span ts ds us es = (us ≡ ts ++ record { span = span; kind = kind } ∷ []) × (es ≡ ds)
Adds text (pieces.Fault code n) span ts ds us es = (us ≡ ts) × (es ≡ ds ++ fault_of text span.start code n ∷ [])
