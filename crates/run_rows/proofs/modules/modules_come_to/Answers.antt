use Rattle.run_rows.proofs.ModulesRows.{import_of_another_name_row, modules_in_order_row, test_behind_bodies_row, endless_recursion_row, test_a_passes_row, test_b_fails_row, test_c_has_no_end_row, test_d_divides_row, name_that_means_nothing_row, call_without_a_value_row}
use Rattle.run_rows.proofs.modules.modules_come_to.Goals as goal

pub returns-clause-import_of_another_name : goal.returns-clause-import_of_another_name
returns-clause-import_of_another_name c = import_of_another_name_row

pub returns-clause-modules_in_order : goal.returns-clause-modules_in_order
returns-clause-modules_in_order c = modules_in_order_row

pub returns-clause-test_behind_bodies : goal.returns-clause-test_behind_bodies
returns-clause-test_behind_bodies c = test_behind_bodies_row

pub returns-clause-endless_recursion : goal.returns-clause-endless_recursion
returns-clause-endless_recursion c = endless_recursion_row

pub returns-clause-test_a_passes : goal.returns-clause-test_a_passes
returns-clause-test_a_passes c = test_a_passes_row

pub returns-clause-test_b_fails : goal.returns-clause-test_b_fails
returns-clause-test_b_fails c = test_b_fails_row

pub returns-clause-test_c_has_no_end : goal.returns-clause-test_c_has_no_end
returns-clause-test_c_has_no_end c = test_c_has_no_end_row

pub returns-clause-test_d_divides : goal.returns-clause-test_d_divides
returns-clause-test_d_divides c = test_d_divides_row

pub returns-clause-name_that_means_nothing : goal.returns-clause-name_that_means_nothing
returns-clause-name_that_means_nothing c = name_that_means_nothing_row

pub returns-clause-call_without_a_value : goal.returns-clause-call_without_a_value
returns-clause-call_without_a_value c = call_without_a_value_row
