-- What the modules of Calls come to, each computed.
use Rattle.std.specs.Prelude.{codes, [], ◌∷◌, refl}
use Rattle.std.specs.Fmt.{digits}
use Rattle.oberon_scan.specs.Spelling.{spelling, symbol_text}
use Rattle.oberon_types.specs.Folding.{folding_function}
use Rattle.oberon_rules.specs.Scopes.{predeclared}
use Rattle.run_rules.specs.declared.trap_kind.TrapKind.TheVariants as traps
use Rattle.run_rules.specs.Runs.{done, trap_at}
use Rattle.run_rows.specs.Coming.{Runs}
use Rattle.run_rows.specs.Calls.{swapped_by_var_parameters, var_parameter_and_value, value_parameters_are_copies, names_of_a_procedure_come_first, calls_256_deep, calls_257_deep}

pub swapped_by_var_parameters_row : Runs (swapped_by_var_parameters ∷ []) (codes "A") 1000000 (trap_at traps.Index (codes "A") (record { line = 0; character = 358 })) (codes " 24  5") 38
unfolding predeclared digits folding_function spelling symbol_text
swapped_by_var_parameters_row = (refl, refl)

pub var_parameter_and_value_row : Runs (var_parameter_and_value ∷ []) (codes "A") 1000000 done (codes "3") 9
unfolding predeclared digits folding_function spelling symbol_text
var_parameter_and_value_row = (refl, refl)

pub value_parameters_are_copies_row : Runs (value_parameters_are_copies ∷ []) (codes "A") 1000000 done (codes "oldold12old22litnew99str02") 119
unfolding predeclared digits folding_function spelling symbol_text
value_parameters_are_copies_row = (refl, refl)

pub names_of_a_procedure_come_first_row : Runs (names_of_a_procedure_come_first ∷ []) (codes "A") 1000000 done (codes "2 1") 9
unfolding predeclared digits folding_function spelling symbol_text
names_of_a_procedure_come_first_row = (refl, refl)

pub calls_256_deep_row : Runs (calls_256_deep ∷ []) (codes "A") 1000000 done [] 769
unfolding predeclared digits folding_function spelling symbol_text
calls_256_deep_row = (refl, refl)

pub calls_257_deep_row : Runs (calls_257_deep ∷ []) (codes "A") 1000000 (trap_at traps.Depth (codes "A") (record { line = 0; character = 55 })) [] 770
unfolding predeclared digits folding_function spelling symbol_text
calls_257_deep_row = (refl, refl)
