-- What the modules of Choices come to, each computed.
use Rattle.std.specs.Prelude.{codes, [], ◌∷◌, refl}
use Rattle.std.specs.Fmt.{digits}
use Rattle.oberon_scan.specs.Spelling.{spelling, symbol_text}
use Rattle.oberon_types.specs.Folding.{folding_function}
use Rattle.oberon_rules.specs.Scopes.{predeclared}
use Rattle.run_rules.specs.declared.trap_kind.TrapKind.TheVariants as traps
use Rattle.run_rules.specs.Runs.{done, trap_at, no_steps}
use Rattle.run_rows.specs.Coming.{Runs}
use Rattle.run_rows.specs.Choices.{labels_and_ranges, labels_of_chars, no_label_fits, conditions_stop_early, from_left_to_right, assertion_fails, output_that_does_not_fit}

pub labels_and_ranges_row : Runs (labels_and_ranges ∷ []) (codes "A") 1000000 done (codes "baaabc") 29
unfolding predeclared digits folding_function spelling symbol_text
labels_and_ranges_row = (refl, refl)

pub labels_of_chars_row : Runs (labels_of_chars ∷ []) (codes "A") 1000000 done (codes "2b\n") 7
unfolding predeclared digits folding_function spelling symbol_text
labels_of_chars_row = (refl, refl)

pub no_label_fits_row : Runs (no_label_fits ∷ []) (codes "A") 1000000 (trap_at traps.NoCase (codes "A") (record { line = 0; character = 44 })) [] 2
unfolding predeclared digits folding_function spelling symbol_text
no_label_fits_row = (refl, refl)

pub conditions_stop_early_row : Runs (conditions_stop_early ∷ []) (codes "A") 1000000 done (codes "01") 9
unfolding predeclared digits folding_function spelling symbol_text
conditions_stop_early_row = (refl, refl)

pub from_left_to_right_row : Runs (from_left_to_right ∷ []) (codes "A") 1000000 done (codes "125") 17
unfolding predeclared digits folding_function spelling symbol_text
from_left_to_right_row = (refl, refl)

pub assertion_fails_row : Runs (assertion_fails ∷ []) (codes "A") 1000000 (trap_at traps.Assertion (codes "A") (record { line = 0; character = 47 })) [] 3
unfolding predeclared digits folding_function spelling symbol_text
assertion_fails_row = (refl, refl)

pub output_that_does_not_fit_row : Runs (output_that_does_not_fit ∷ []) (codes "A") 6 no_steps (codes "a") 6
unfolding predeclared digits folding_function spelling symbol_text
output_that_does_not_fit_row = (refl, refl)
