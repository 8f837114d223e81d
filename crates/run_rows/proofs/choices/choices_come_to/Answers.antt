use Rattle.run_rows.proofs.ChoicesRows.{labels_and_ranges_row, labels_of_chars_row, no_label_fits_row, conditions_stop_early_row, from_left_to_right_row, assertion_fails_row, output_that_does_not_fit_row}
use Rattle.run_rows.proofs.choices.choices_come_to.Goals as goal

pub returns-clause-labels_and_ranges : goal.returns-clause-labels_and_ranges
returns-clause-labels_and_ranges c = labels_and_ranges_row

pub returns-clause-labels_of_chars : goal.returns-clause-labels_of_chars
returns-clause-labels_of_chars c = labels_of_chars_row

pub returns-clause-no_label_fits : goal.returns-clause-no_label_fits
returns-clause-no_label_fits c = no_label_fits_row

pub returns-clause-conditions_stop_early : goal.returns-clause-conditions_stop_early
returns-clause-conditions_stop_early c = conditions_stop_early_row

pub returns-clause-from_left_to_right : goal.returns-clause-from_left_to_right
returns-clause-from_left_to_right c = from_left_to_right_row

pub returns-clause-assertion_fails : goal.returns-clause-assertion_fails
returns-clause-assertion_fails c = assertion_fails_row

pub returns-clause-output_that_does_not_fit : goal.returns-clause-output_that_does_not_fit
returns-clause-output_that_does_not_fit c = output_that_does_not_fit_row
