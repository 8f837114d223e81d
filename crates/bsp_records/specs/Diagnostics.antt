-- Diagnostics as the protocol has them (Language Server Protocol 3.17, section Diagnostic, and Build
-- Server Protocol 2.2, build/publishDiagnostics).
use Rattle.std.specs.Prelude.{ℕ, ◌==◌, List, [], ◌∷◌, map, codes, Some, option_map, if◌then◌else◌}
use Rattle.std.specs.List.{All}
use Rattle.std.specs.Option.{IfSome}
use Rattle.std.specs.Str.{IsUtf8}
use Rattle.ob_text.specs.declared.position.Position.{Position}
use Rattle.ob_text.specs.declared.position.Range.{Range}
use Rattle.serde_json.specs.Data.{Data, unsigned, boolean, number, string}
use Rattle.json_shape.specs.Shapes.{Shape, text, count, whole, flag, label, list_of, object_of, required, optional, no_more, at, text_in, label_in, whole_in, flag_in, values_in}
use Rattle.json_shape.specs.Reading.{if_there}
use Rattle.bsp_records.specs.Reading.{Is, Bad}
use Rattle.bsp_records.specs.Writing.{object_with, array_with}
use Rattle.bsp_records.specs.Identifiers.{identifier, target_in, document_in, identifier_data}
use Rattle.bsp_records.specs.declared.diagnostics.DiagnosticRecord.{DiagnosticRecord}
use Rattle.bsp_records.specs.declared.diagnostics.DiagnosticSeverity.{DiagnosticSeverity}
use Rattle.bsp_records.specs.declared.diagnostics.DiagnosticSeverity.TheVariants.{Error, Warning, Information, Hint}
use Rattle.bsp_records.specs.declared.publishing.PublishDiagnosticsParams.{PublishDiagnosticsParams}

-- ---- what is read

abbrev pub position : Shape
position = object_of (required (codes "line") count (required (codes "character") count no_more))

abbrev pub range : Shape
range = object_of (required (codes "start") position (required (codes "end") position no_more))

abbrev pub severity : Shape
severity = whole 1 4

abbrev pub diagnostic : Shape
diagnostic =
    object_of (required (codes "range") range
    (optional (codes "severity") severity
    (optional (codes "code") label
    (optional (codes "source") text
    (required (codes "message") text no_more)))))

abbrev pub publish_diagnostics_params : Shape
publish_diagnostics_params =
    object_of (required (codes "textDocument") identifier
    (required (codes "buildTarget") identifier
    (optional (codes "originId") text
    (required (codes "diagnostics") (list_of diagnostic)
    (required (codes "reset") flag no_more)))))

-- ---- what it stands for

abbrev pub position_in : Data → Position
position_in d = record { line = whole_in (at (codes "line") d); character = whole_in (at (codes "character") d) }

abbrev pub range_in : Data → Range
range_in d = record { start = position_in (at (codes "start") d); end = position_in (at (codes "end") d) }

abbrev pub severity_numbered : ℕ → DiagnosticSeverity
severity_numbered n = if n == 1 then Error else (if n == 2 then Warning else (if n == 3 then Information else Hint))

abbrev pub severity_in : Data → DiagnosticSeverity
severity_in d = severity_numbered (whole_in d)

abbrev pub diagnostic_in : Data → DiagnosticRecord
diagnostic_in d = record {
  range = range_in (at (codes "range") d);
  severity = if_there severity_in (at (codes "severity") d);
  code = if_there label_in (at (codes "code") d);
  source = if_there text_in (at (codes "source") d);
  message = text_in (at (codes "message") d);
}

abbrev pub publish_diagnostics_params_in : Data → PublishDiagnosticsParams
publish_diagnostics_params_in d = record {
  text_document = document_in (at (codes "textDocument") d);
  build_target = target_in (at (codes "buildTarget") d);
  origin_id = if_there text_in (at (codes "originId") d);
  diagnostics = map diagnostic_in (values_in (at (codes "diagnostics") d));
  reset = flag_in (at (codes "reset") d);
}

abbrev pub IsPublishDiagnosticsParams : Data → PublishDiagnosticsParams → Type 0
IsPublishDiagnosticsParams = Is publish_diagnostics_params publish_diagnostics_params_in

abbrev pub BadPublishDiagnosticsParams : Data → List ℕ → Type 0
BadPublishDiagnosticsParams = Bad publish_diagnostics_params

-- ---- what is written

abbrev pub severity_number : DiagnosticSeverity → ℕ
severity_number Error = 1
severity_number Warning = 2
severity_number Information = 3
severity_number Hint = 4

abbrev pub position_data : Position → Data
position_data p =
    object_with ((codes "line", Some (number (unsigned p.line)))
    ∷ (codes "character", Some (number (unsigned p.character))) ∷ [])

abbrev pub range_data : Range → Data
range_data r =
    object_with ((codes "start", Some (position_data r.start)) ∷ (codes "end", Some (position_data r.end)) ∷ [])

abbrev pub severity_data : DiagnosticSeverity → Data
severity_data s = number (unsigned (severity_number s))

abbrev pub diagnostic_data : DiagnosticRecord → Data
diagnostic_data r =
    object_with ((codes "range", Some (range_data r.range))
    ∷ (codes "severity", option_map severity_data r.severity)
    ∷ (codes "code", option_map string r.code)
    ∷ (codes "source", option_map string r.source)
    ∷ (codes "message", Some (string r.message)) ∷ [])

abbrev pub publish_diagnostics_params_data : PublishDiagnosticsParams → Data
publish_diagnostics_params_data p =
    object_with ((codes "textDocument", Some (identifier_data p.text_document.uri))
    ∷ (codes "buildTarget", Some (identifier_data p.build_target.uri))
    ∷ (codes "originId", option_map string p.origin_id)
    ∷ (codes "diagnostics", Some (array_with (map diagnostic_data p.diagnostics)))
    ∷ (codes "reset", Some (boolean p.reset)) ∷ [])

-- ---- texts

pub record HasDiagnosticTexts (r : DiagnosticRecord) : Type 0 where
  pub code : IfSome r.code IsUtf8
  pub source : IfSome r.source IsUtf8
  pub message : IsUtf8 r.message

pub record HasPublishTexts (p : PublishDiagnosticsParams) : Type 0 where
  pub document : IsUtf8 p.text_document.uri
  pub target : IsUtf8 p.build_target.uri
  pub origin : IfSome p.origin_id IsUtf8
  pub diagnostics : All HasDiagnosticTexts p.diagnostics
