-- What the modules of Loops come to, each computed.
use Rattle.std.specs.Prelude.{codes, [], ◌∷◌, refl}
use Rattle.std.specs.Fmt.{digits}
use Rattle.oberon_scan.specs.Spelling.{spelling, symbol_text}
use Rattle.oberon_types.specs.Folding.{folding_function}
use Rattle.oberon_rules.specs.Scopes.{predeclared}
use Rattle.run_rules.specs.Runs.{done, no_steps}
use Rattle.run_rows.specs.Coming.{Runs}
use Rattle.run_rows.specs.Loops.{sum_of_squares, repeat_and_elsif_turns, endless_repeat, for_counts_down, for_limit_is_looked_at_each_turn, for_limit_is_called_each_turn}

pub sum_of_squares_row : Runs (sum_of_squares ∷ []) (codes "A") 1000000 done (codes "14") 19
unfolding predeclared digits folding_function spelling symbol_text
sum_of_squares_row = (refl, refl)

pub repeat_and_elsif_turns_row : Runs (repeat_and_elsif_turns ∷ []) (codes "A") 1000000 done (codes "0") 23
unfolding predeclared digits folding_function spelling symbol_text
repeat_and_elsif_turns_row = (refl, refl)

pub endless_repeat_row : Runs (endless_repeat ∷ []) (codes "A") 50 no_steps [] 50
unfolding predeclared digits folding_function spelling symbol_text
endless_repeat_row = (refl, refl)

pub for_counts_down_row : Runs (for_counts_down ∷ []) (codes "A") 1000000 done (codes "321 0") 20
unfolding predeclared digits folding_function spelling symbol_text
for_counts_down_row = (refl, refl)

pub for_limit_is_looked_at_each_turn_row : Runs (for_limit_is_looked_at_each_turn ∷ []) (codes "A") 1000000 done (codes "3") 17
unfolding predeclared digits folding_function spelling symbol_text
for_limit_is_looked_at_each_turn_row = (refl, refl)

pub for_limit_is_called_each_turn_row : Runs (for_limit_is_called_each_turn ∷ []) (codes "A") 1000000 done (codes "4") 20
unfolding predeclared digits folding_function spelling symbol_text
for_limit_is_called_each_turn_row = (refl, refl)
