use Rattle.run_rows.proofs.NumbersRows.{sign_covers_its_term_row, quotients_round_down_row, numbers_in_places_row, inc_and_dec_row, sum_overflows_row, sign_overflows_row, absolute_value_overflows_row, inc_overflows_row, step_of_for_overflows_row, sum_on_the_fourth_line_row, mod_by_zero_row, div_by_negative_row, not_of_a_number_row, slash_between_numbers_row}
use Rattle.run_rows.proofs.numbers.numbers_come_to.Goals as goal

pub returns-clause-sign_covers_its_term : goal.returns-clause-sign_covers_its_term
returns-clause-sign_covers_its_term c = sign_covers_its_term_row

pub returns-clause-quotients_round_down : goal.returns-clause-quotients_round_down
returns-clause-quotients_round_down c = quotients_round_down_row

pub returns-clause-numbers_in_places : goal.returns-clause-numbers_in_places
returns-clause-numbers_in_places c = numbers_in_places_row

pub returns-clause-inc_and_dec : goal.returns-clause-inc_and_dec
returns-clause-inc_and_dec c = inc_and_dec_row

pub returns-clause-sum_overflows : goal.returns-clause-sum_overflows
returns-clause-sum_overflows c = sum_overflows_row

pub returns-clause-sign_overflows : goal.returns-clause-sign_overflows
returns-clause-sign_overflows c = sign_overflows_row

pub returns-clause-absolute_value_overflows : goal.returns-clause-absolute_value_overflows
returns-clause-absolute_value_overflows c = absolute_value_overflows_row

pub returns-clause-inc_overflows : goal.returns-clause-inc_overflows
returns-clause-inc_overflows c = inc_overflows_row

pub returns-clause-step_of_for_overflows : goal.returns-clause-step_of_for_overflows
returns-clause-step_of_for_overflows c = step_of_for_overflows_row

pub returns-clause-sum_on_the_fourth_line : goal.returns-clause-sum_on_the_fourth_line
returns-clause-sum_on_the_fourth_line c = sum_on_the_fourth_line_row

pub returns-clause-mod_by_zero : goal.returns-clause-mod_by_zero
returns-clause-mod_by_zero c = mod_by_zero_row

pub returns-clause-div_by_negative : goal.returns-clause-div_by_negative
returns-clause-div_by_negative c = div_by_negative_row

pub returns-clause-not_of_a_number : goal.returns-clause-not_of_a_number
returns-clause-not_of_a_number c = not_of_a_number_row

pub returns-clause-slash_between_numbers : goal.returns-clause-slash_between_numbers
returns-clause-slash_between_numbers c = slash_between_numbers_row
