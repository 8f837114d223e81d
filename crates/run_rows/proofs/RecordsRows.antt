-- What the modules of Records come to, each computed.
use Rattle.std.specs.Prelude.{codes, [], ◌∷◌, refl}
use Rattle.std.specs.Fmt.{digits}
use Rattle.oberon_scan.specs.Spelling.{spelling, symbol_text}
use Rattle.oberon_types.specs.Folding.{folding_function}
use Rattle.oberon_rules.specs.Scopes.{predeclared}
use Rattle.run_rules.specs.declared.trap_kind.TrapKind.TheVariants as traps
use Rattle.run_rules.specs.Runs.{done, trap_at}
use Rattle.run_rows.specs.Coming.{Runs, Tests}
use Rattle.run_rows.specs.Records.{records_of_two_modules_b, records_of_two_modules_a, records_by_their_types, tests_of_actual_types, guard_fails}

pub records_of_two_modules_row : Runs (records_of_two_modules_b ∷ records_of_two_modules_a ∷ []) (codes "A") 1000000 (trap_at traps.Range (codes "A") (record { line = 0; character = 192 })) (codes "300  44   7   1") 37
unfolding predeclared digits folding_function spelling symbol_text
records_of_two_modules_row = (refl, refl)

pub records_by_their_types_row : Runs (records_by_their_types ∷ []) (codes "A") 1000000 done (codes "01107") 45
unfolding predeclared digits folding_function spelling symbol_text
records_by_their_types_row = (refl, refl)

pub tests_of_actual_types_row : Runs (tests_of_actual_types ∷ []) (codes "A") 1000000 done (codes "110111") 18
unfolding predeclared digits folding_function spelling symbol_text
tests_of_actual_types_row = (refl, refl)

pub guard_fails_row : Tests (guard_fails ∷ []) (codes "T") (codes "TestG") 1000000 (trap_at traps.Guard (codes "T") (record { line = 0; character = 113 })) [] 5
unfolding predeclared digits folding_function spelling symbol_text
guard_fails_row = (refl, refl)
