-- What the modules of Sets come to, each computed.
use Rattle.std.specs.Prelude.{codes, [], ◌∷◌, refl}
use Rattle.std.specs.Fmt.{digits}
use Rattle.oberon_scan.specs.Spelling.{spelling, symbol_text}
use Rattle.oberon_types.specs.Folding.{folding_function}
use Rattle.oberon_rules.specs.Scopes.{predeclared}
use Rattle.run_rules.specs.declared.trap_kind.TrapKind.TheVariants as traps
use Rattle.run_rules.specs.Runs.{done, trap_at}
use Rattle.run_rows.specs.Coming.{Runs}
use Rattle.run_rows.specs.Sets.{sets_by_incl_and_excl, complement_and_empty_range, element_32, incl_of_32, shifts_and_rotations, left_shift_and_difference, shift_by_32}

pub sets_by_incl_and_excl_row : Runs (sets_by_incl_and_excl ∷ []) (codes "A") 1000000 done (codes "1e") 12
unfolding predeclared digits folding_function spelling symbol_text
sets_by_incl_and_excl_row = (refl, refl)

pub complement_and_empty_range_row : Runs (complement_and_empty_range ∷ []) (codes "A") 1000000 done (codes "-21474836480") 16
unfolding predeclared digits folding_function spelling symbol_text
complement_and_empty_range_row = (refl, refl)

pub element_32_row : Runs (element_32 ∷ []) (codes "A") 1000000 (trap_at traps.Range (codes "A") (record { line = 0; character = 70 })) [] 3
unfolding predeclared digits folding_function spelling symbol_text
element_32_row = (refl, refl)

pub incl_of_32_row : Runs (incl_of_32 ∷ []) (codes "A") 1000000 (trap_at traps.Range (codes "A") (record { line = 0; character = 69 })) [] 3
unfolding predeclared digits folding_function spelling symbol_text
incl_of_32_row = (refl, refl)

pub shifts_and_rotations_row : Runs (shifts_and_rotations ∷ []) (codes "A") 1000000 done (codes "-2147483648-2147483648-4") 29
unfolding predeclared digits folding_function spelling symbol_text
shifts_and_rotations_row = (refl, refl)

pub left_shift_and_difference_row : Runs (left_shift_and_difference ∷ []) (codes "A") 1000000 done (codes "-2147483648 18") 18
unfolding predeclared digits folding_function spelling symbol_text
left_shift_and_difference_row = (refl, refl)

pub shift_by_32_row : Runs (shift_by_32 ∷ []) (codes "A") 1000000 (trap_at traps.Range (codes "A") (record { line = 0; character = 65 })) [] 3
unfolding predeclared digits folding_function spelling symbol_text
shift_by_32_row = (refl, refl)
