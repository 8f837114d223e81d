-- TakesUpInOrder: the first request of the queue alone is taken up, since no other is judged by its targets. A build
-- that was handed its documents answers 2 exactly where the clean build has an error, and else 1.
use Rattle.std.specs.Prelude.{◌≡◌, List, Option, Some}
use Rattle.std.specs.List.{list_any}
use Rattle.bsp_records.specs.Results.{compile_result_data}
use Rattle.rpc_peer.specs.OpenIds.{same_id}
use Rattle.rpc_peer.specs.Said.{Said, result}
use Rattle.serde_json.specs.Data.{Data}
use Rattle.session_law.specs.Builds.{Finding, CleanBuild, has_error, build_status}
use Rattle.session_law.specs.If.{If}
use Rattle.session_law.specs.Past.{Now}
use Rattle.session_law.specs.Requests.{Active, active_of}

pub record AnswersBuild (active : Active) (value : Data) : Type 0 where
  pub findings : List Finding
  pub clean : CleanBuild active.build active.entries findings
  pub value_is : value ≡ compile_result_data (record { origin_id = active.build.origin; status_code = build_status (list_any has_error findings) })

abbrev pub AnswersFor : Said → Option Active → Type 0
AnswersFor (result (Some id) value) (Some active) = If (same_id id active.id) (AnswersBuild active value)
AnswersFor m active = Unit {0}

abbrev pub TakesUpInOrder : Now → Said → Type 0
TakesUpInOrder now m = AnswersFor m (active_of now.requests)
