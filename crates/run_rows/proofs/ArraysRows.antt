-- What the modules of Arrays come to, each computed.
use Rattle.std.specs.Prelude.{codes, [], ◌∷◌, refl}
use Rattle.std.specs.Fmt.{digits}
use Rattle.oberon_scan.specs.Spelling.{spelling, symbol_text}
use Rattle.oberon_types.specs.Folding.{folding_function}
use Rattle.oberon_rules.specs.Scopes.{predeclared}
use Rattle.run_rules.specs.declared.trap_kind.TrapKind.TheVariants as traps
use Rattle.run_rules.specs.Runs.{done, trap_at, no_steps}
use Rattle.run_rows.specs.Coming.{Runs}
use Rattle.run_rows.specs.Arrays.{copied_and_compared_texts, texts_end_at_zero, left_text_is_read_first, copy_that_does_not_fit, open_arrays_have_lengths, structures_assigned, index_at_length, index_below_zero}

pub copied_and_compared_texts_row : Runs (copied_and_compared_texts ∷ []) (codes "A") 1000000 done (codes "axc  7779") 51
unfolding predeclared digits folding_function spelling symbol_text
copied_and_compared_texts_row = (refl, refl)

pub texts_end_at_zero_row : Runs (texts_end_at_zero ∷ []) (codes "A") 1000000 done (codes "x6!<=") 30
unfolding predeclared digits folding_function spelling symbol_text
texts_end_at_zero_row = (refl, refl)

pub left_text_is_read_first_row : Runs (left_text_is_read_first ∷ []) (codes "A") 1000000 done (codes "12") 28
unfolding predeclared digits folding_function spelling symbol_text
left_text_is_read_first_row = (refl, refl)

pub copy_that_does_not_fit_row : Runs (copy_that_does_not_fit ∷ []) (codes "A") 9 no_steps [] 9
unfolding predeclared digits folding_function spelling symbol_text
copy_that_does_not_fit_row = (refl, refl)

pub copy_that_just_fits_row : Runs (copy_that_does_not_fit ∷ []) (codes "A") 13 done [] 13
unfolding predeclared digits folding_function spelling symbol_text
copy_that_just_fits_row = (refl, refl)

pub open_arrays_have_lengths_row : Runs (open_arrays_have_lengths ∷ []) (codes "A") 1000000 done (codes "23") 11
unfolding predeclared digits folding_function spelling symbol_text
open_arrays_have_lengths_row = (refl, refl)

pub structures_assigned_row : Runs (structures_assigned ∷ []) (codes "A") 1000000 done (codes "6 9") 24
unfolding predeclared digits folding_function spelling symbol_text
structures_assigned_row = (refl, refl)

pub index_at_length_row : Runs (index_at_length ∷ []) (codes "A") 1000000 (trap_at traps.Index (codes "A") (record { line = 0; character = 74 })) [] 3
unfolding predeclared digits folding_function spelling symbol_text
index_at_length_row = (refl, refl)

pub index_below_zero_row : Runs (index_below_zero ∷ []) (codes "A") 1000000 (trap_at traps.Index (codes "A") (record { line = 0; character = 72 })) [] 2
unfolding predeclared digits folding_function spelling symbol_text
index_below_zero_row = (refl, refl)
