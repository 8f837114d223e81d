-- Findings by what lists are sorted by, and the diagnostics that they are.
use Rattle.std.specs.Prelude.{ℕ, List, [], ◌∷◌, Option}
use Rattle.std.specs.Option.{option_copied}
use Rattle.ob_text.specs.Position.{range_at}
use Rattle.ob_text.specs.declared.code.Code.{Code}
use Rattle.ob_text.specs.declared.diagnostic.Diagnostic.{Diagnostic}
use Rattle.ob_text.specs.declared.span.Span.{Span}
use Rattle.oberon_rules.specs.Order.{number_of}
use Rattle.oberon_rules.specs.Scopes.{Said, broken, resolved}
use Rattle.oberon_module.specs.declared.listing.Row.{Row}
use Rattle.oberon_module.specs.Numbers.{code_numbered}

pub record RowTree : Type 0 where
  pub start : ℕ
  pub end : ℕ
  pub number : ℕ
  pub name : Option (List ℕ)

abbrev pub plain_row : Row → RowTree
plain_row r = record { start = r.start; end = r.end; number = r.number; name = option_copied r.name }

abbrev pub row_of : Span → Code → Option (List ℕ) → RowTree
row_of place code name = record { start = place.start; end = place.end; number = number_of code; name = name }

abbrev pub plain_rows : List Said → List RowTree
plain_rows [] = []
plain_rows (broken place code name ∷ rest) = row_of place code name ∷ plain_rows rest
plain_rows (resolved x ∷ rest) = plain_rows rest

abbrev pub diagnostic_of : List ℕ → RowTree → Diagnostic
diagnostic_of text r = record {
  span = record { start = r.start; end = r.end };
  range = range_at text (record { start = r.start; end = r.end });
  code = code_numbered r.number;
  name = r.name;
}
