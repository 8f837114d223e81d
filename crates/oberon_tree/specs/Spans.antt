-- The span of an expression, from its first token to its last, where some diagnostics stand.
use Rattle.std.specs.Prelude.{◌≡◌, List, [], ◌∷◌}
use Rattle.ob_text.specs.declared.span.Span.{Span}
use Rattle.oberon_scan.specs.declared.token.Token.{Token}
use Rattle.oberon_tree.specs.Print.{print_expr}
use Rattle.oberon_tree.specs.Trees.{ExprTree}

-- the span of the last token of a list, or this one where it has none
abbrev pub last_token_span : Span → List Token → Span
last_token_span span [] = span
last_token_span span (t ∷ ts) = last_token_span t.span ts

-- the last token of a list stands here, whatever comes before the list
pub record EndsAt (ts : List Token) (span : Span) : Type 0 where
  pub behind : (before : Span) → last_token_span before ts ≡ span

-- from the first token of a list to its last; of no tokens, an empty span at offset 0
abbrev pub whole_span : List Token → Span
whole_span [] = record { start = 0; end = 0 }
whole_span (t ∷ ts) = record { start = t.span.start; end = (last_token_span t.span ts).end }

abbrev pub span_of_expr : ExprTree → Span
span_of_expr e = whole_span (print_expr e [])
