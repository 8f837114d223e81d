-- What a client shows, as it is kept.
use Rattle.std.specs.Prelude.{◌≡◌, ◌==◌, ◌&&◌, ℕ, List, [], map, Bool, Option, Some, None, if◌then◌else◌}
use Rattle.std.specs.Cmp.Lexicographic.{pointwise}
use Rattle.std.specs.declared.alloc.Global.{Global}
use Rattle.std.specs.declared.sync.Arc.{Arc}
use Rattle.indexmap.specs.IndexMap.{get}
use Rattle.ob_text.specs.declared.diagnostic.Diagnostic.{Diagnostic}
use Rattle.bsp_records.specs.Shown.{shown}
use Rattle.bsp_records.specs.Table.{Table, table_with}
use Rattle.bsp_records.specs.declared.diagnostics.DiagnosticRecord.{DiagnosticRecord}
use Rattle.bsp_records.specs.declared.publishing.PublishDiagnosticsParams.{PublishDiagnosticsParams}
use Rattle.task_stream.specs.contracts.shown.TableKeyPartialEq.TheImpl.{eq-value}
use Rattle.task_stream.specs.declared.shown.TableKey.{TableKey}
use Rattle.task_stream.specs.declared.shown.Shown.{Shown}

abbrev pub key_of : List ℕ → List ℕ → TableKey
key_of document target = record { document = document; target = target }

-- what is kept of a list, as it is shown; nothing is shown where none is kept
abbrev pub shown_of : Option (Arc (List Diagnostic) Global) → List DiagnosticRecord
shown_of None = []
shown_of (Some list) = map shown list.value

-- the list that is shown at a key
abbrev pub shows : Shown → Table
shows kept document target = shown_of (get eq-value.it kept.lists (key_of document target))

abbrev pub is_at : TableKey → List ℕ → List ℕ → Bool
is_at key document target = pointwise ◌==◌ key.document document && pointwise ◌==◌ key.target target

-- the list at one key became this, and the others stayed
abbrev pub ShowsNow : Shown → Shown → TableKey → List DiagnosticRecord → Type 0
ShowsNow old new key records =
    (document target : List ℕ) → shows new document target ≡ (if is_at key document target then records else shows old document target)

-- these publications, the first of them first, make any client show this list at one key by the
-- reset rule, and leave the others, if it shows there what is kept of it
abbrev pub MakeShow : List PublishDiagnosticsParams → Shown → TableKey → List DiagnosticRecord → Type 0
MakeShow ps old key records =
    (table : Table) → table key.document key.target ≡ shows old key.document key.target
    → (document target : List ℕ) → table_with ps table document target ≡ (if is_at key document target then records else table document target)
