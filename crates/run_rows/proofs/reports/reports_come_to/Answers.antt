use Rattle.run_rows.proofs.ReportsRows.{fits_row, four_row, exported_row, assertion_row, division_row, no_label_row, stuck_row, no_steps_row, done_row}
use Rattle.run_rows.proofs.reports.reports_come_to.Goals as goal

pub returns-clause-fits : goal.returns-clause-fits
returns-clause-fits c = fits_row

pub returns-clause-four : goal.returns-clause-four
returns-clause-four c = four_row

pub returns-clause-exported : goal.returns-clause-exported
returns-clause-exported c = exported_row

pub returns-clause-assertion : goal.returns-clause-assertion
returns-clause-assertion c = assertion_row

pub returns-clause-division : goal.returns-clause-division
returns-clause-division c = division_row

pub returns-clause-no_label : goal.returns-clause-no_label
returns-clause-no_label c = no_label_row

pub returns-clause-stuck : goal.returns-clause-stuck
returns-clause-stuck c = stuck_row

pub returns-clause-no_steps : goal.returns-clause-no_steps
returns-clause-no_steps c = no_steps_row

pub returns-clause-done : goal.returns-clause-done
returns-clause-done c = done_row
