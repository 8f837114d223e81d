use Rattle.run_rows.proofs.LoopsRows.{sum_of_squares_row, repeat_and_elsif_turns_row, endless_repeat_row, for_counts_down_row, for_limit_is_looked_at_each_turn_row, for_limit_is_called_each_turn_row}
use Rattle.run_rows.proofs.loops.loops_come_to.Goals as goal

pub returns-clause-sum_of_squares : goal.returns-clause-sum_of_squares
returns-clause-sum_of_squares c = sum_of_squares_row

pub returns-clause-repeat_and_elsif_turns : goal.returns-clause-repeat_and_elsif_turns
returns-clause-repeat_and_elsif_turns c = repeat_and_elsif_turns_row

pub returns-clause-endless_repeat : goal.returns-clause-endless_repeat
returns-clause-endless_repeat c = endless_repeat_row

pub returns-clause-for_counts_down : goal.returns-clause-for_counts_down
returns-clause-for_counts_down c = for_counts_down_row

pub returns-clause-for_limit_is_looked_at_each_turn : goal.returns-clause-for_limit_is_looked_at_each_turn
returns-clause-for_limit_is_looked_at_each_turn c = for_limit_is_looked_at_each_turn_row

pub returns-clause-for_limit_is_called_each_turn : goal.returns-clause-for_limit_is_called_each_turn
returns-clause-for_limit_is_called_each_turn c = for_limit_is_called_each_turn_row
