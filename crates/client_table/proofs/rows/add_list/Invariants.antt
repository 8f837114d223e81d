use Rattle.std.proofs.Common.{◌≡◌, ◌++◌, take}
use Rattle.client_table.specs.Rows.{list_rows}
use Rattle.client_table.proofs.rows.add_list.Given as goal

abbrev pub invariant-loop-record : goal.invariant-loop-record
invariant-loop-record l = l.rows.items ≡ l.initial.rows.items ++ list_rows l.document l.target (take l.record-index l.records)
