-- What the modules of Modules come to, each computed.
use Rattle.std.specs.Prelude.{codes, [], ◌∷◌, refl}
use Rattle.std.specs.Fmt.{digits}
use Rattle.oberon_scan.specs.Spelling.{spelling, symbol_text}
use Rattle.oberon_types.specs.Folding.{folding_function}
use Rattle.oberon_rules.specs.Scopes.{predeclared}
use Rattle.run_rules.specs.declared.trap_kind.TrapKind.TheVariants as traps
use Rattle.run_rules.specs.Runs.{done, trap_at, no_steps}
use Rattle.run_rows.specs.Coming.{Runs, Tests}
use Rattle.run_rows.specs.Modules.{import_of_another_name_c, import_of_another_name_a, modules_in_order_e, modules_in_order_a, modules_in_order_b, modules_in_order_c, modules_in_order_d, test_behind_bodies_b, test_behind_bodies_t, endless_recursion, four_tests, name_that_means_nothing, call_without_a_value}

pub import_of_another_name_row : Runs (import_of_another_name_c ∷ import_of_another_name_a ∷ []) (codes "A") 1000000 done (codes "67") 8
unfolding predeclared digits folding_function spelling symbol_text
import_of_another_name_row = (refl, refl)

pub modules_in_order_row : Runs (modules_in_order_e ∷ modules_in_order_a ∷ modules_in_order_b ∷ modules_in_order_c ∷ modules_in_order_d ∷ []) (codes "A") 1000000 done (codes "DCBA") 8
unfolding predeclared digits folding_function spelling symbol_text
modules_in_order_row = (refl, refl)

pub test_behind_bodies_row : Tests (test_behind_bodies_b ∷ test_behind_bodies_t ∷ []) (codes "T") (codes "TestA") 1000000 (trap_at traps.Assertion (codes "T") (record { line = 0; character = 126 })) (codes "6101521\n") 39
unfolding predeclared digits folding_function spelling symbol_text
test_behind_bodies_row = (refl, refl)

pub endless_recursion_row : Tests (endless_recursion ∷ []) (codes "T") (codes "TestX") 1000000 (trap_at traps.Depth (codes "T") (record { line = 0; character = 34 })) [] 515
unfolding predeclared digits folding_function spelling symbol_text
endless_recursion_row = (refl, refl)

pub test_a_passes_row : Tests (four_tests ∷ []) (codes "T") (codes "TestA") 1000000 done [] 3
unfolding predeclared digits folding_function spelling symbol_text
test_a_passes_row = (refl, refl)

pub test_b_fails_row : Tests (four_tests ∷ []) (codes "T") (codes "TestB") 1000000 (trap_at traps.Assertion (codes "T") (record { line = 2; character = 24 })) [] 3
unfolding predeclared digits folding_function spelling symbol_text
test_b_fails_row = (refl, refl)

pub test_c_has_no_end_row : Tests (four_tests ∷ []) (codes "T") (codes "TestC") 100 no_steps [] 100
unfolding predeclared digits folding_function spelling symbol_text
test_c_has_no_end_row = (refl, refl)

pub test_d_divides_row : Tests (four_tests ∷ []) (codes "T") (codes "TestD") 1000000 (trap_at traps.Division (codes "T") (record { line = 4; character = 55 })) [] 4
unfolding predeclared digits folding_function spelling symbol_text
test_d_divides_row = (refl, refl)

pub name_that_means_nothing_row : Runs (name_that_means_nothing ∷ []) (codes "A") 1000000 (trap_at traps.Stuck (codes "A") (record { line = 1; character = 1 })) [] 2
unfolding predeclared digits folding_function spelling symbol_text
name_that_means_nothing_row = (refl, refl)

pub call_without_a_value_row : Runs (call_without_a_value ∷ []) (codes "A") 1000000 (trap_at traps.Stuck (codes "A") (record { line = 0; character = 0 })) (codes "ab") 3
unfolding predeclared digits folding_function spelling symbol_text
call_without_a_value_row = (refl, refl)
