use Rattle.std.proofs.Common.{◌≡◌, ◌++◌}
use Rattle.client_table.specs.Rows.{all_rows}
use Rattle.client_table.proofs.RowLaws.{AreOrdered}
use Rattle.client_table.proofs.rows.rows_of.Given as goal

abbrev pub invariant-loop-document : goal.invariant-loop-document
invariant-loop-document l = (l.rows.items ++ all_rows l.document-iterator ≡ all_rows l.documents.entries) × (AreOrdered l.document-iterator → AreOrdered l.documents.entries)
