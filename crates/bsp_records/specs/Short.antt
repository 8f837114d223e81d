-- Publications that are short, as those of the language's diagnostics are: their params print in a part
-- of a frame.
use Rattle.std.specs.Prelude.{ℕ, ◌<◌, ◌≤◌, length}
use Rattle.std.specs.List.{All}
use Rattle.std.specs.Option.{IfSome}
use Rattle.ob_text.specs.declared.position.Position.{Position}
use Rattle.bsp_records.specs.declared.diagnostics.DiagnosticRecord.{DiagnosticRecord}
use Rattle.ob_text.specs.Ascii.{IsWithin}
use Rattle.bsp_address.specs.Address.{IsAddress}
use Rattle.bsp_records.specs.Limits.{origin_limit}
use Rattle.bsp_records.specs.declared.publishing.PublishDiagnosticsParams.{PublishDiagnosticsParams}

-- a place whose numbers have 32 bits
pub record IsShortPosition (p : Position) : Type 0 where
  pub line : p.line < 4294967296
  pub character : p.character < 4294967296

pub record IsShortRecord (r : DiagnosticRecord) : Type 0 where
  pub start : IsShortPosition r.range.start
  pub end : IsShortPosition r.range.end
  pub code : IfSome r.code (IsWithin 40)
  pub source : IfSome r.source (IsWithin 10)
  pub message : IsWithin 200 r.message

-- the most diagnostics of one publication
abbrev pub diagnostics_limit : ℕ
diagnostics_limit = 100

pub record IsShortPublication (p : PublishDiagnosticsParams) : Type 0 where
  pub document : IsAddress p.text_document.uri
  pub target : IsAddress p.build_target.uri
  pub origin : IfSome p.origin_id (IsWithin origin_limit)
  pub count : length p.diagnostics ≤ diagnostics_limit
  pub diagnostics : All IsShortRecord p.diagnostics

-- the most bytes that the params of a short publication print as
abbrev pub publication_limit : ℕ
publication_limit = 1000000
