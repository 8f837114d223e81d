-- Further notifications of the server (Build Server Protocol 2.2, build/logMessage and
-- buildTarget/didChange), as JSON.
use Rattle.std.specs.Prelude.{ℕ, [], ◌∷◌, map, codes, Some, option_map}
use Rattle.std.specs.Option.{IfSome}
use Rattle.std.specs.Str.{IsUtf8}
use Rattle.serde_json.specs.Data.{Data, number, string, unsigned}
use Rattle.bsp_records.specs.Params.{IsTarget}
use Rattle.bsp_records.specs.Results.{target_data}
use Rattle.bsp_records.specs.Writing.{object_with, array_with}
use Rattle.bsp_records.specs.declared.notices.BuildTargetEvent.{BuildTargetEvent}
use Rattle.bsp_records.specs.declared.notices.BuildTargetEventKind.{BuildTargetEventKind}
use Rattle.bsp_records.specs.declared.notices.BuildTargetEventKind.TheVariants.{Created, Changed, Deleted}
use Rattle.bsp_records.specs.declared.notices.DidChangeParams.{DidChangeParams}
use Rattle.bsp_records.specs.declared.notices.LogMessageParams.{LogMessageParams}
use Rattle.bsp_records.specs.declared.notices.MessageType.{MessageType}
use Rattle.bsp_records.specs.declared.notices.MessageType.TheVariants.{Error, Warning, Info, Log}

abbrev pub message_type_number : MessageType → ℕ
message_type_number Error = 1
message_type_number Warning = 2
message_type_number Info = 3
message_type_number Log = 4

abbrev pub message_type_data : MessageType → Data
message_type_data kind = number (unsigned (message_type_number kind))

abbrev pub log_message_params_data : LogMessageParams → Data
log_message_params_data p =
    object_with ((codes "type", Some (message_type_data p.kind))
    ∷ (codes "originId", option_map string p.origin_id)
    ∷ (codes "message", Some (string p.message)) ∷ [])

abbrev pub event_number : BuildTargetEventKind → ℕ
event_number Created = 1
event_number Changed = 2
event_number Deleted = 3

abbrev pub event_kind_data : BuildTargetEventKind → Data
event_kind_data kind = number (unsigned (event_number kind))

abbrev pub event_data : BuildTargetEvent → Data
event_data e =
    object_with ((codes "target", Some (target_data e.target)) ∷ (codes "kind", Some (event_kind_data e.kind)) ∷ [])

abbrev pub did_change_params_data : DidChangeParams → Data
did_change_params_data p = object_with ((codes "changes", Some (array_with (map event_data p.changes))) ∷ [])

pub record HasLogMessageTexts (p : LogMessageParams) : Type 0 where
  pub origin_id : IfSome p.origin_id IsUtf8
  pub message : IsUtf8 p.message

abbrev pub HasEventTexts : BuildTargetEvent → Type 0
HasEventTexts e = IsTarget e.target
