use Rattle.run_rows.proofs.ArraysRows.{copied_and_compared_texts_row, texts_end_at_zero_row, left_text_is_read_first_row, copy_that_does_not_fit_row, copy_that_just_fits_row, open_arrays_have_lengths_row, structures_assigned_row, index_at_length_row, index_below_zero_row}
use Rattle.run_rows.proofs.arrays.arrays_come_to.Goals as goal

pub returns-clause-copied_and_compared_texts : goal.returns-clause-copied_and_compared_texts
returns-clause-copied_and_compared_texts c = copied_and_compared_texts_row

pub returns-clause-texts_end_at_zero : goal.returns-clause-texts_end_at_zero
returns-clause-texts_end_at_zero c = texts_end_at_zero_row

pub returns-clause-left_text_is_read_first : goal.returns-clause-left_text_is_read_first
returns-clause-left_text_is_read_first c = left_text_is_read_first_row

pub returns-clause-copy_that_does_not_fit : goal.returns-clause-copy_that_does_not_fit
returns-clause-copy_that_does_not_fit c = copy_that_does_not_fit_row

pub returns-clause-copy_that_just_fits : goal.returns-clause-copy_that_just_fits
returns-clause-copy_that_just_fits c = copy_that_just_fits_row

pub returns-clause-open_arrays_have_lengths : goal.returns-clause-open_arrays_have_lengths
returns-clause-open_arrays_have_lengths c = open_arrays_have_lengths_row

pub returns-clause-structures_assigned : goal.returns-clause-structures_assigned
returns-clause-structures_assigned c = structures_assigned_row

pub returns-clause-index_at_length : goal.returns-clause-index_at_length
returns-clause-index_at_length c = index_at_length_row

pub returns-clause-index_below_zero : goal.returns-clause-index_below_zero
returns-clause-index_below_zero c = index_below_zero_row
