-- What is told as a build ends: the reports of its targets and its finish, by what came of its documents.
use Rattle.std.specs.Prelude.{◌++◌, ℕ, suc, List, [], ◌∷◌, Bool, true, Option, Some, None, if◌then◌else◌}
use Rattle.std.specs.List.{list_any}
use Rattle.bsp_records.specs.declared.tasks.CompileReport.{CompileReport}
use Rattle.rpc_peer.specs.Said.{Said}
use Rattle.session_build.specs.Tallies.{has_errors, tally_of}
use Rattle.session_build.specs.declared.setting.Setting.{Setting}
use Rattle.session_build.specs.declared.tally.Tally.{Tally}
use Rattle.session_law.specs.Builds.{build_status}
use Rattle.session_law.specs.Tasks.{build_finishes, target_finishes}
use Rattle.target_graph.specs.Workspace.{id_of}

-- The protocol says by `noOp` that no check started, and leaves it out else.
abbrev pub no_op_by : Bool → Option Bool
no_op_by begun = if begun then None else Some true

-- the report of the target with this id, where this came of its documents
abbrev pub report_by : Option (List ℕ) → List ℕ → Tally → CompileReport
report_by origin id tally =
    record {
      target = record { uri = id };
      origin_id = origin;
      errors = tally.errors;
      warnings = tally.warnings;
      no_op = no_op_by tally.begun;
    }

abbrev pub report_of : Setting → List Tally → List ℕ → CompileReport
report_of at tallies id = report_by at.origin.value id (tally_of id at.documents tallies)

-- the report of the target with this index and number
abbrev pub target_reported : Setting → List Tally → ℕ → ℕ → Said
target_reported at tallies i target = target_finishes at.number i (report_of at tallies (id_of at.workspace.value target))

-- the targets are reported in their order, from this number on
abbrev pub targets_reported : Setting → List Tally → ℕ → List ℕ → List Said
targets_reported at tallies i [] = []
targets_reported at tallies i (target ∷ targets) = target_reported at tallies i target ∷ targets_reported at tallies (suc i) targets

abbrev pub ends_said : Setting → List Tally → List Said
ends_said at tallies = targets_reported at tallies 1 at.targets.keys ++ build_finishes at.number (build_status (list_any has_errors tallies)) ∷ []
