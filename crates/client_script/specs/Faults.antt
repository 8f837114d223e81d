-- Why a text isn't read as a script.
use Rattle.std.specs.Prelude.{ℕ, Result, Ok, Err}
use Rattle.client_script.specs.declared.script.ScriptFault.{ScriptFault}
use Rattle.client_script.specs.declared.script.ScriptFault.TheVariants.{Line, NoMemory}

-- this holds of the number of the bad line, where there is one
abbrev pub IfBad : {A : Type 0} → Result A ScriptFault → (ℕ → Type 0) → Type 0
IfBad (Ok a) holds = Unit {0}
IfBad (Err (Line n)) holds = holds n
IfBad (Err NoMemory) holds = Unit {0}
