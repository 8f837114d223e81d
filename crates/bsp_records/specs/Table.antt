-- What a client shows of each document and target (Build Server Protocol 2.2, build/publishDiagnostics).
use Rattle.std.specs.Prelude.{ℕ, ◌==◌, ◌&&◌, ◌++◌, List, [], ◌∷◌, Bool, if◌then◌else◌}
use Rattle.std.specs.Cmp.Lexicographic.{pointwise}
use Rattle.bsp_records.specs.declared.diagnostics.DiagnosticRecord.{DiagnosticRecord}
use Rattle.bsp_records.specs.declared.publishing.PublishDiagnosticsParams.{PublishDiagnosticsParams}

-- the diagnostics that are shown of a document, by its address, and a target, by its id
abbrev pub Table : Type 0
Table = List ℕ → List ℕ → List DiagnosticRecord

-- before anything is published
abbrev pub nothing_shown : Table
nothing_shown document target = []

abbrev pub is_about : PublishDiagnosticsParams → List ℕ → List ℕ → Bool
is_about p document target =
    pointwise ◌==◌ p.text_document.uri document && pointwise ◌==◌ p.build_target.uri target

-- The reset rule: with `reset` the new list replaces the one that is shown, else it goes behind it.
abbrev pub published : PublishDiagnosticsParams → Table → Table
published p table document target =
    if is_about p document target then (if p.reset then p.diagnostics else table document target ++ p.diagnostics) else table document target

-- a table once these lists were published, the first of them first
abbrev pub table_with : List PublishDiagnosticsParams → Table → Table
table_with [] table = table
table_with (p ∷ ps) table = table_with ps (published p table)
