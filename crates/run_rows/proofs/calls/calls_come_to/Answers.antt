use Rattle.run_rows.proofs.CallsRows.{swapped_by_var_parameters_row, var_parameter_and_value_row, value_parameters_are_copies_row, names_of_a_procedure_come_first_row, calls_256_deep_row, calls_257_deep_row}
use Rattle.run_rows.proofs.calls.calls_come_to.Goals as goal

pub returns-clause-swapped_by_var_parameters : goal.returns-clause-swapped_by_var_parameters
returns-clause-swapped_by_var_parameters c = swapped_by_var_parameters_row

pub returns-clause-var_parameter_and_value : goal.returns-clause-var_parameter_and_value
returns-clause-var_parameter_and_value c = var_parameter_and_value_row

pub returns-clause-value_parameters_are_copies : goal.returns-clause-value_parameters_are_copies
returns-clause-value_parameters_are_copies c = value_parameters_are_copies_row

pub returns-clause-names_of_a_procedure_come_first : goal.returns-clause-names_of_a_procedure_come_first
returns-clause-names_of_a_procedure_come_first c = names_of_a_procedure_come_first_row

pub returns-clause-calls_256_deep : goal.returns-clause-calls_256_deep
returns-clause-calls_256_deep c = calls_256_deep_row

pub returns-clause-calls_257_deep : goal.returns-clause-calls_257_deep
returns-clause-calls_257_deep c = calls_257_deep_row
