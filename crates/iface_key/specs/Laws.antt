-- What keys are good for.
use Rattle.std.specs.Prelude.{ℕ, List, ◌≡◌}
use Rattle.oberon_types.specs.Entities.{ViewTree}
use Rattle.iface_key.specs.Keys.{KeyOf}

-- each view has one key
abbrev pub HasOneKey : Type 0
HasOneKey = (v : ViewTree) → (key : List ℕ) × KeyOf v key × ((other : List ℕ) → KeyOf v other → other ≡ key)

-- each key stands for one view at most, whatever its numbers
abbrev pub StandsForOneView : Type 0
StandsForOneView = (key : List ℕ) (a b : ViewTree) → KeyOf a key → KeyOf b key → a ≡ b
