-- A publication that waits to be written.
use Rattle.std.specs.Prelude.{◌==◌, ◌≤◌, List, length, map, take, drop}
use Rattle.std.specs.Option.{IfSome}
use Rattle.std.specs.Str.{IsUtf8}
use Rattle.ob_text.specs.declared.diagnostic.Diagnostic.{Diagnostic}
use Rattle.bsp_records.specs.Short.{diagnostics_limit, IsShortPosition}
use Rattle.bsp_records.specs.Shown.{shown}
use Rattle.bsp_records.specs.declared.diagnostics.DiagnosticRecord.{DiagnosticRecord}
use Rattle.bsp_records.specs.declared.publishing.PublishDiagnosticsParams.{PublishDiagnosticsParams}
use Rattle.task_stream.specs.Pieces.{piece}
use Rattle.task_stream.specs.declared.piece.Piece.TheInside.{Inside}
use Rattle.task_stream.specs.declared.piece.Whole.{Whole}

-- the numbers of its range have 32 bits
abbrev pub IsShortDiagnostic : Diagnostic → Type 0
IsShortDiagnostic d = IsShortPosition d.range.start × IsShortPosition d.range.end

-- the list as it is published
abbrev pub records_of : Whole → List DiagnosticRecord
records_of whole = map shown whole.list.value

-- its origin is UTF-8
abbrev pub IsSoundWhole : Whole → Type 0
IsSoundWhole whole = IfSome whole.origin.value IsUtf8

-- what a piece is written as
abbrev pub piece_of : Inside → PublishDiagnosticsParams
piece_of p = piece p.whole.value.key p.whole.value.origin.value (p.first == 0) (take diagnostics_limit (drop p.first (records_of p.whole.value)))

pub record IsSoundPiece (p : Inside) : Type 0 where
  pub sound : IsSoundWhole p.whole.value
  pub within : p.first ≤ length p.whole.value.list.value
