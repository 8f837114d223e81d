-- The diagnostics of a document, by what is held at its path alone.
use Rattle.std.specs.Prelude.{◌≡◌, ◌⊎◌, ℕ, ◌-◌, ◌<◌, List, [], ◌∷◌, length, Some, None, slice_get}
use Rattle.std.specs.List.{AllPairs}
use Rattle.ob_text.specs.Position.{range_at}
use Rattle.ob_text.specs.declared.code.Code.{Code}
use Rattle.ob_text.specs.declared.code.Code.TheVariants as codes_of
use Rattle.ob_text.specs.declared.diagnostic.Diagnostic.{Diagnostic}
use Rattle.ob_text.specs.declared.held.Held.{Held}
use Rattle.ob_text.specs.declared.held.Held.TheVariants.{Text, Absent, TooLarge, NotText}
use Rattle.ob_text.specs.declared.span.Span.{Span}
use Rattle.document_rules.specs.Sentence.{IsFirstBad, IsSentence, most_levels}
use Rattle.oberon_scan.specs.Lexis.{Lex}
use Rattle.oberon_scan.specs.declared.token.Token.{Token}

-- ---- one diagnostic

-- the one of a document that is no text, at the empty range 0:0
abbrev pub no_document : Code → Diagnostic
no_document code =
    record {
      span = record { start = 0; end = 0 };
      range = record { start = record { line = 0; character = 0 }; end = record { line = 0; character = 0 } };
      code = code;
      name = None;
    }

-- where the last token ends, or offset 0 where there is none
abbrev pub end_of_tokens : List Token → ℕ
end_of_tokens tokens = elim (slice_get tokens (length tokens - 1)) [ None ↦ 0 | Some token ↦ token.span.end ]

-- where a first bad token is shown: at the token, or at the end where all tokens begin a module and are none
abbrev pub bad_span : List Token → ℕ → Span
bad_span tokens index = elim (slice_get tokens index) [ None ↦ record { start = end_of_tokens tokens; end = end_of_tokens tokens } | Some token ↦ token.span ]

abbrev pub bad_token : List ℕ → Span → Diagnostic
bad_token text span = record { span = span; range = range_at text span; code = codes_of.BadToken; name = None }

-- ---- the diagnostics of a document

-- the tokens are no module: the first one that no module goes on with is bad
pub record HasBadToken (text : List ℕ) (tokens : List Token) (list : List Diagnostic) : Type 0 where
  pub index : ℕ
  pub first : IsFirstBad most_levels tokens index
  pub only : list ≡ bad_token text (bad_span tokens index) ∷ []

-- a text without lexical faults, by its tokens
abbrev pub TokensDiagnosed : List ℕ → List Token → List Diagnostic → Type 0
TokensDiagnosed text tokens list = (IsSentence most_levels tokens × (list ≡ [])) ⊎ HasBadToken text tokens list

-- a text with lexical faults has these alone
abbrev pub FaultsDiagnosed : List ℕ → List Token → List Diagnostic → List Diagnostic → Type 0
FaultsDiagnosed text tokens [] list = TokensDiagnosed text tokens list
FaultsDiagnosed text tokens (fault ∷ faults) list = list ≡ fault ∷ faults

pub record TextDiagnosed (text : List ℕ) (list : List Diagnostic) : Type 0 where
  pub tokens : List Token
  pub faults : List Diagnostic
  pub lexis : Lex text tokens faults
  pub found : FaultsDiagnosed text tokens faults list

-- These are the diagnostics of what is held.
abbrev pub Diagnosed : Held → List Diagnostic → Type 0
Diagnosed (Text text) list = TextDiagnosed text list
Diagnosed Absent list = list ≡ no_document codes_of.DocumentAbsent ∷ []
Diagnosed TooLarge list = list ≡ no_document codes_of.DocumentTooLarge ∷ []
Diagnosed NotText list = list ≡ no_document codes_of.DocumentNotText ∷ []

-- ---- what is true of each list

-- it speaks of no name
abbrev pub IsNameless : Diagnostic → Type 0
IsNameless diagnostic = diagnostic.name ≡ None

-- each begins at a later offset than the one before it
abbrev pub IsAscending : List Diagnostic → Type 0
IsAscending list = AllPairs (λ first second. first.span.start < second.span.start) list
