-- A diagnostic of a text as the protocol has it, and the messages that show it.
use Rattle.std.specs.Prelude.{ℕ, ◌++◌, List, [], codes, take, Bool, Option, Some, None}
use Rattle.std.specs.Char.{is_ascii}
use Rattle.std.specs.List.{take_while}
use Rattle.ob_text.specs.Code.{name_of, message_of, severity_of}
use Rattle.ob_text.specs.declared.code.Severity.{Severity}
use Rattle.ob_text.specs.declared.code.Severity.TheVariants as ours
use Rattle.ob_text.specs.declared.diagnostic.Diagnostic.{Diagnostic}
use Rattle.bsp_records.specs.declared.diagnostics.DiagnosticRecord.{DiagnosticRecord}
use Rattle.bsp_records.specs.declared.diagnostics.DiagnosticSeverity.{DiagnosticSeverity}
use Rattle.bsp_records.specs.declared.diagnostics.DiagnosticSeverity.TheVariants.{Error, Warning}
use Rattle.bsp_records.specs.declared.publishing.PublishDiagnosticsParams.{PublishDiagnosticsParams}

abbrev pub severity_shown : Severity → DiagnosticSeverity
severity_shown ours.Error = Error
severity_shown ours.Warning = Warning

-- what a message shows of a name: its first 64 bytes, as far as they are ASCII. So each part that is shown is text, and
-- of a name of the language, which is ASCII, the first 64 bytes are shown.
abbrev pub name_shown : Option (List ℕ) → List ℕ
name_shown None = []
name_shown (Some name) = take_while is_ascii (take 64 name)

-- the message, with what is shown of the name that it speaks of
abbrev pub shown_message : List ℕ → Option (List ℕ) → List ℕ
shown_message message name = message ++ name_shown name

abbrev pub shown : Diagnostic → DiagnosticRecord
shown d = record {
  range = d.range;
  severity = Some (severity_shown (severity_of d.code));
  code = Some (name_of d.code);
  source = Some (codes "oberon");
  message = shown_message (message_of d.code) d.name;
}

-- these diagnostics of a document and a target, published
abbrev pub publication : List ℕ → List ℕ → Option (List ℕ) → Bool → List DiagnosticRecord → PublishDiagnosticsParams
publication document target origin reset records =
    record {
      text_document = record { uri = document };
      build_target = record { uri = target };
      origin_id = origin;
      diagnostics = records;
      reset = reset;
    }
