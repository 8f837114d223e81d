-- What the modules of Numbers come to, each computed.
use Rattle.std.specs.Prelude.{codes, [], ◌∷◌, refl}
use Rattle.std.specs.Fmt.{digits}
use Rattle.oberon_scan.specs.Spelling.{spelling, symbol_text}
use Rattle.oberon_types.specs.Folding.{folding_function}
use Rattle.oberon_rules.specs.Scopes.{predeclared}
use Rattle.run_rules.specs.declared.trap_kind.TrapKind.TheVariants as traps
use Rattle.run_rules.specs.Runs.{done, trap_at}
use Rattle.run_rows.specs.Coming.{Runs}
use Rattle.run_rows.specs.Numbers.{sign_covers_its_term, quotients_round_down, numbers_in_places, inc_and_dec, sum_overflows, sign_overflows, absolute_value_overflows, inc_overflows, step_of_for_overflows, sum_on_the_fourth_line, mod_by_zero, div_by_negative, not_of_a_number, slash_between_numbers}

pub sign_covers_its_term_row : Runs (sign_covers_its_term ∷ []) (codes "A") 1000000 done (codes "  -3x\ny") 9
unfolding predeclared digits folding_function spelling symbol_text
sign_covers_its_term_row = (refl, refl)

pub quotients_round_down_row : Runs (quotients_round_down ∷ []) (codes "A") 1000000 done (codes "  -3  -4 1") 15
unfolding predeclared digits folding_function spelling symbol_text
quotients_round_down_row = (refl, refl)

pub numbers_in_places_row : Runs (numbers_in_places ∷ []) (codes "A") 1000000 done (codes "-1512345") 13
unfolding predeclared digits folding_function spelling symbol_text
numbers_in_places_row = (refl, refl)

pub inc_and_dec_row : Runs (inc_and_dec ∷ []) (codes "A") 1000000 done (codes "6 -1\n") 12
unfolding predeclared digits folding_function spelling symbol_text
inc_and_dec_row = (refl, refl)

pub sum_overflows_row : Runs (sum_overflows ∷ []) (codes "A") 1000000 (trap_at traps.Overflow (codes "A") (record { line = 0; character = 68 })) [] 3
unfolding predeclared digits folding_function spelling symbol_text
sum_overflows_row = (refl, refl)

pub sign_overflows_row : Runs (sign_overflows ∷ []) (codes "A") 1000000 (trap_at traps.Overflow (codes "A") (record { line = 0; character = 65 })) [] 3
unfolding predeclared digits folding_function spelling symbol_text
sign_overflows_row = (refl, refl)

pub absolute_value_overflows_row : Runs (absolute_value_overflows ∷ []) (codes "A") 1000000 (trap_at traps.Overflow (codes "A") (record { line = 0; character = 65 })) [] 3
unfolding predeclared digits folding_function spelling symbol_text
absolute_value_overflows_row = (refl, refl)

pub inc_overflows_row : Runs (inc_overflows ∷ []) (codes "A") 1000000 (trap_at traps.Overflow (codes "A") (record { line = 0; character = 61 })) [] 3
unfolding predeclared digits folding_function spelling symbol_text
inc_overflows_row = (refl, refl)

pub step_of_for_overflows_row : Runs (step_of_for_overflows ∷ []) (codes "A") 1000000 (trap_at traps.Overflow (codes "A") (record { line = 0; character = 44 })) [] 5
unfolding predeclared digits folding_function spelling symbol_text
step_of_for_overflows_row = (refl, refl)

pub sum_on_the_fourth_line_row : Runs (sum_on_the_fourth_line ∷ []) (codes "A") 1000000 (trap_at traps.Overflow (codes "A") (record { line = 3; character = 42 })) [] 4
unfolding predeclared digits folding_function spelling symbol_text
sum_on_the_fourth_line_row = (refl, refl)

pub mod_by_zero_row : Runs (mod_by_zero ∷ []) (codes "A") 1000000 (trap_at traps.Division (codes "A") (record { line = 0; character = 59 })) [] 3
unfolding predeclared digits folding_function spelling symbol_text
mod_by_zero_row = (refl, refl)

pub div_by_negative_row : Runs (div_by_negative ∷ []) (codes "A") 1000000 (trap_at traps.Division (codes "A") (record { line = 0; character = 60 })) [] 3
unfolding predeclared digits folding_function spelling symbol_text
div_by_negative_row = (refl, refl)

pub not_of_a_number_row : Runs (not_of_a_number ∷ []) (codes "A") 1000000 (trap_at traps.Stuck (codes "A") (record { line = 0; character = 0 })) [] 2
unfolding predeclared digits folding_function spelling symbol_text
not_of_a_number_row = (refl, refl)

pub slash_between_numbers_row : Runs (slash_between_numbers ∷ []) (codes "A") 1000000 (trap_at traps.Stuck (codes "A") (record { line = 0; character = 0 })) [] 2
unfolding predeclared digits folding_function spelling symbol_text
slash_between_numbers_row = (refl, refl)
