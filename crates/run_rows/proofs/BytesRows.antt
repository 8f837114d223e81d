-- What the modules of Bytes come to, each computed.
use Rattle.std.specs.Prelude.{codes, [], ◌∷◌, refl}
use Rattle.std.specs.Fmt.{digits}
use Rattle.oberon_scan.specs.Spelling.{spelling, symbol_text}
use Rattle.oberon_types.specs.Folding.{folding_function}
use Rattle.oberon_rules.specs.Scopes.{predeclared}
use Rattle.run_rules.specs.declared.trap_kind.TrapKind.TheVariants as traps
use Rattle.run_rules.specs.Runs.{done, trap_at}
use Rattle.run_rows.specs.Coming.{Runs}
use Rattle.run_rows.specs.Bytes.{bytes_within_range, byte_of_256, byte_of_300, byte_below_zero, inc_above_byte, inc_of_byte_overflows, dec_below_byte, byte_argument_of_256, byte_result_of_256, chr_of_256}

pub bytes_within_range_row : Runs (bytes_within_range ∷ []) (codes "A") 1000000 done (codes "255-1 254 25563") 38
unfolding predeclared digits folding_function spelling symbol_text
bytes_within_range_row = (refl, refl)

pub byte_of_256_row : Runs (byte_of_256 ∷ []) (codes "A") 1000000 (trap_at traps.Range (codes "A") (record { line = 0; character = 68 })) [] 3
unfolding predeclared digits folding_function spelling symbol_text
byte_of_256_row = (refl, refl)

pub byte_of_300_row : Runs (byte_of_300 ∷ []) (codes "A") 1000000 (trap_at traps.Range (codes "A") (record { line = 0; character = 68 })) [] 3
unfolding predeclared digits folding_function spelling symbol_text
byte_of_300_row = (refl, refl)

pub byte_below_zero_row : Runs (byte_below_zero ∷ []) (codes "A") 1000000 (trap_at traps.Range (codes "A") (record { line = 0; character = 67 })) [] 3
unfolding predeclared digits folding_function spelling symbol_text
byte_below_zero_row = (refl, refl)

pub inc_above_byte_row : Runs (inc_above_byte ∷ []) (codes "A") 1000000 (trap_at traps.Range (codes "A") (record { line = 0; character = 51 })) [] 3
unfolding predeclared digits folding_function spelling symbol_text
inc_above_byte_row = (refl, refl)

pub inc_of_byte_overflows_row : Runs (inc_of_byte_overflows ∷ []) (codes "A") 1000000 (trap_at traps.Overflow (codes "A") (record { line = 0; character = 51 })) [] 3
unfolding predeclared digits folding_function spelling symbol_text
inc_of_byte_overflows_row = (refl, refl)

pub dec_below_byte_row : Runs (dec_below_byte ∷ []) (codes "A") 1000000 (trap_at traps.Range (codes "A") (record { line = 0; character = 41 })) [] 2
unfolding predeclared digits folding_function spelling symbol_text
dec_below_byte_row = (refl, refl)

pub byte_argument_of_256_row : Runs (byte_argument_of_256 ∷ []) (codes "A") 1000000 (trap_at traps.Range (codes "A") (record { line = 0; character = 82 })) [] 2
unfolding predeclared digits folding_function spelling symbol_text
byte_argument_of_256_row = (refl, refl)

pub byte_result_of_256_row : Runs (byte_result_of_256 ∷ []) (codes "A") 1000000 (trap_at traps.Range (codes "A") (record { line = 0; character = 60 })) [] 3
unfolding predeclared digits folding_function spelling symbol_text
byte_result_of_256_row = (refl, refl)

pub chr_of_256_row : Runs (chr_of_256 ∷ []) (codes "A") 1000000 (trap_at traps.Range (codes "A") (record { line = 0; character = 72 })) [] 3
unfolding predeclared digits folding_function spelling symbol_text
chr_of_256_row = (refl, refl)
