-- What is left of a stream, and what a stream was given. `None` where nobody tells.
use Rattle.std.specs.Prelude.{◌≡◌, ℕ, List, [], ◌++◌, Option, IfSome}
use Rattle.std.specs.Option.{option_map}

-- these bytes were taken from the front of what was left
abbrev pub Takes : Option (List ℕ) → Option (List ℕ) → List ℕ → Type 0
Takes old new bytes = old ≡ option_map (λ rest. bytes ++ rest) new

-- these bytes were added behind what was given
abbrev pub Gives : Option (List ℕ) → Option (List ℕ) → List ℕ → Type 0
Gives old new bytes = new ≡ option_map (λ given. given ++ bytes) old

-- nothing is left, where that is told
abbrev pub IsDry : Option (List ℕ) → Type 0
IsDry left = IfSome left (λ rest. rest ≡ [])
