-- Which procedures are tests, and what is said of ends, each computed.
use Rattle.std.specs.Prelude.{◌≡◌, true, codes, [], ◌∷◌, Some, None, refl}
use Rattle.run_rules.specs.declared.trap_kind.TrapKind.TheVariants as traps
use Rattle.run_rules.specs.Runs.{done, trap_at, no_steps, end_text, tests_of}
use Rattle.run_rows.specs.Spelled.{trees_fit}
use Rattle.run_rows.specs.Modules.{four_tests}
use Rattle.run_rows.specs.Reports.{which_are_tests}
use Rattle.std.specs.Fmt.{digits}
use Rattle.oberon_scan.specs.Spelling.{spelling, symbol_text}

pub fits_row : trees_fit (which_are_tests ∷ []) ≡ true
unfolding digits spelling symbol_text
fits_row = refl

pub four_row : tests_of four_tests.tree ≡ codes "TestA" ∷ codes "TestB" ∷ codes "TestC" ∷ codes "TestD" ∷ []
unfolding digits spelling symbol_text
four_row = refl

pub exported_row : tests_of which_are_tests.tree ≡ codes "Test" ∷ codes "Testing" ∷ codes "TestEmpty" ∷ []
unfolding digits spelling symbol_text
exported_row = refl

pub assertion_row : end_text (trap_at traps.Assertion (codes "T") (record { line = 2; character = 24 })) ≡ Some (codes "trap assertion at T 2:24")
unfolding digits spelling symbol_text
assertion_row = refl

pub division_row : end_text (trap_at traps.Division (codes "T") (record { line = 4; character = 55 })) ≡ Some (codes "trap division at T 4:55")
unfolding digits spelling symbol_text
division_row = refl

pub no_label_row : end_text (trap_at traps.NoCase (codes "Main") (record { line = 0; character = 120 })) ≡ Some (codes "trap noCase at Main 0:120")
unfolding digits spelling symbol_text
no_label_row = refl

pub stuck_row : end_text (trap_at traps.Stuck (codes "A") (record { line = 0; character = 0 })) ≡ Some (codes "trap stuck at A 0:0")
unfolding digits spelling symbol_text
stuck_row = refl

pub no_steps_row : end_text no_steps ≡ Some (codes "out of steps")
unfolding digits spelling symbol_text
no_steps_row = refl

pub done_row : end_text done ≡ None
unfolding digits spelling symbol_text
done_row = refl
