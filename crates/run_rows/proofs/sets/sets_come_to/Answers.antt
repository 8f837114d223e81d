use Rattle.run_rows.proofs.SetsRows.{sets_by_incl_and_excl_row, complement_and_empty_range_row, element_32_row, incl_of_32_row, shifts_and_rotations_row, left_shift_and_difference_row, shift_by_32_row}
use Rattle.run_rows.proofs.sets.sets_come_to.Goals as goal

pub returns-clause-sets_by_incl_and_excl : goal.returns-clause-sets_by_incl_and_excl
returns-clause-sets_by_incl_and_excl c = sets_by_incl_and_excl_row

pub returns-clause-complement_and_empty_range : goal.returns-clause-complement_and_empty_range
returns-clause-complement_and_empty_range c = complement_and_empty_range_row

pub returns-clause-element_32 : goal.returns-clause-element_32
returns-clause-element_32 c = element_32_row

pub returns-clause-incl_of_32 : goal.returns-clause-incl_of_32
returns-clause-incl_of_32 c = incl_of_32_row

pub returns-clause-shifts_and_rotations : goal.returns-clause-shifts_and_rotations
returns-clause-shifts_and_rotations c = shifts_and_rotations_row

pub returns-clause-left_shift_and_difference : goal.returns-clause-left_shift_and_difference
returns-clause-left_shift_and_difference c = left_shift_and_difference_row

pub returns-clause-shift_by_32 : goal.returns-clause-shift_by_32
returns-clause-shift_by_32 c = shift_by_32_row
