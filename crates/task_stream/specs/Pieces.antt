-- A list of diagnostics as its publications (Build Server Protocol 2.2, build/publishDiagnostics).
use Rattle.std.specs.Prelude.{ℕ, ◌≤◌, zero, suc, List, [], ◌∷◌, length, map, take, drop, Bool, true, false, Option}
use Rattle.bsp_records.specs.Short.{diagnostics_limit}
use Rattle.bsp_records.specs.Shown.{publication}
use Rattle.bsp_records.specs.declared.diagnostics.DiagnosticRecord.{DiagnosticRecord}
use Rattle.bsp_records.specs.declared.publishing.PublishDiagnosticsParams.{PublishDiagnosticsParams}
use Rattle.task_stream.specs.declared.shown.TableKey.{TableKey}

-- one publication
abbrev pub piece : TableKey → Option (List ℕ) → Bool → List DiagnosticRecord → PublishDiagnosticsParams
piece key origin reset records = publication key.document key.target origin reset records

-- A list cut into pieces of the limit and a shorter last one; an empty list has none. There are at most
-- `most` pieces.
abbrev pub cut : {A : Type 0} → ℕ → List A → List (List A)
cut zero items = []
cut (suc most) [] = []
cut (suc most) (x ∷ xs) = take diagnostics_limit (x ∷ xs) ∷ cut most (drop diagnostics_limit (x ∷ xs))

-- the pieces behind the first
abbrev pub later_pieces : {A : Type 0} → List A → List (List A)
later_pieces items = cut (length items) (drop diagnostics_limit items)

-- a whole list in pieces, the first of which resets
abbrev pub pieces : TableKey → Option (List ℕ) → List DiagnosticRecord → List PublishDiagnosticsParams
pieces key origin records =
    piece key origin true (take diagnostics_limit records) ∷ map (piece key origin false) (later_pieces records)

-- a publication of at most so many diagnostics as one piece has
abbrev pub IsPiece : PublishDiagnosticsParams → Type 0
IsPiece p = length p.diagnostics ≤ diagnostics_limit
