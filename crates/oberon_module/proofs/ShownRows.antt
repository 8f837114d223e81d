-- Rows are shown from the first to the last.
use Rattle.std.proofs.Common.{◌≡◌, ℕ, ◌+◌, ◌<◌, List, [], ◌∷◌, ◌++◌, None, length, drop, slice_index_or, sym, ◌∙◌, ap}
use Rattle.std.proofs.lemmas.List.{append_assoc, at_drop_more}
use Rattle.ob_text.specs.Position.{range_at}
use Rattle.ob_text.specs.declared.diagnostic.Diagnostic.{Diagnostic}
use Rattle.ob_text.specs.declared.span.Span.{Span}
use Rattle.oberon_module.specs.declared.listing.Row.{Row}
use Rattle.oberon_module.specs.Rows.{plain_row, diagnostic_of}
use Rattle.oberon_module.proofs.RowLists.{diagnostics}

abbrev no_row : Row
no_row = record { start = 0; end = 0; number = 0; name = None }

abbrev pub row_at : List Row → ℕ → Row
row_at rows i = slice_index_or rows i no_row

abbrev pub span_of : Row → Span
span_of r = record { start = r.start; end = r.end }

shows : (text at : List ℕ) (r : Row) (d : Diagnostic) → d.span ≡ span_of r → d.range ≡ range_at at (span_of r) → at ≡ text → d.code ≡ (diagnostic_of text (plain_row r)).code → d.name ≡ (plain_row r).name → d ≡ diagnostic_of text (plain_row r)
shows text at r d span range same code name =
    let moved = range ∙ ap (λ (t : List ℕ). range_at t (span_of r)) same in
    λ i. record { span = span i; range = moved i; code = code i; name = name i }

pub shown_more : (text at : List ℕ) (rows : List Row) (i : ℕ) (list new : List Diagnostic) (d : Diagnostic) → i < length rows → new ≡ list ++ d ∷ [] → d.span ≡ span_of (row_at rows i) → d.range ≡ range_at at (span_of (row_at rows i)) → at ≡ text → d.code ≡ (diagnostic_of text (plain_row (row_at rows i))).code → d.name ≡ (plain_row (row_at rows i)).name → list ++ diagnostics text (drop i rows) ≡ diagnostics text rows → new ++ diagnostics text (drop (i + 1) rows) ≡ diagnostics text rows
shown_more text at rows i list new d within pushed span range same code name was =
    ap (λ (xs : List Diagnostic). xs ++ diagnostics text (drop (i + 1) rows)) (pushed ∙ ap (λ (d : Diagnostic). list ++ d ∷ []) (shows text at (row_at rows i) d span range same code name))
    ∙ append_assoc list (diagnostic_of text (plain_row (row_at rows i)) ∷ []) (diagnostics text (drop (i + 1) rows))
    ∙ sym (at_drop_more (λ (rs : List Row). list ++ diagnostics text rs) rows i no_row within)
    ∙ was
