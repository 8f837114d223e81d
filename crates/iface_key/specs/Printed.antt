-- A part is printed behind what is there already.
use Rattle.std.specs.Prelude.{ℕ, ◌≡◌, List, ◌∷◌, ◌++◌, Option, Some, None}
use Rattle.oberon_types.specs.declared.entity.Entity.{Entity}
use Rattle.oberon_types.specs.Memory.{plain_export}
use Rattle.iface_key.specs.Keys.{export_then}

-- behind the one text, the part brings about the other, whatever is to follow
abbrev pub Prints : (List ℕ → List ℕ) → List ℕ → List ℕ → Type 0
Prints part_then before after = (rest : List ℕ) → after ++ rest ≡ before ++ part_then rest

-- an export that is found
abbrev pub found_then : Option (List ℕ × Entity) → List ℕ → List ℕ
found_then None rest = rest
found_then (Some e) rest = 1 ∷ export_then (plain_export e) rest
