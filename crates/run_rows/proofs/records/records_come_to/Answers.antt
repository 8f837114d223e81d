use Rattle.run_rows.proofs.RecordsRows.{records_of_two_modules_row, records_by_their_types_row, tests_of_actual_types_row, guard_fails_row}
use Rattle.run_rows.proofs.records.records_come_to.Goals as goal

pub returns-clause-records_of_two_modules : goal.returns-clause-records_of_two_modules
returns-clause-records_of_two_modules c = records_of_two_modules_row

pub returns-clause-records_by_their_types : goal.returns-clause-records_by_their_types
returns-clause-records_by_their_types c = records_by_their_types_row

pub returns-clause-tests_of_actual_types : goal.returns-clause-tests_of_actual_types
returns-clause-tests_of_actual_types c = tests_of_actual_types_row

pub returns-clause-guard_fails : goal.returns-clause-guard_fails
returns-clause-guard_fails c = guard_fails_row
