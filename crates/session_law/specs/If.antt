-- A claim that is made only where a test holds.
use Rattle.std.specs.Prelude.{Bool, true, false}

abbrev pub If : Bool → Type 0 → Type 0
If true A = A
If false A = Unit {0}
