use Rattle.std.proofs.Common.{◌≡◌, ◌++◌}
use Rattle.client_table.specs.Rows.{shelf_rows}
use Rattle.client_table.proofs.rows.add_shelf.Given as goal

abbrev pub invariant-loop-target : goal.invariant-loop-target
invariant-loop-target l = l.rows.items ++ shelf_rows l.document l.target-iterator ≡ l.initial.rows.items ++ shelf_rows l.document l.shelf.entries
