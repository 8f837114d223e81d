-- The local names of the imports to which names resolve.
use Rattle.std.specs.Prelude.{◌≡◌, ℕ, List}
use Rattle.std.specs.List.{list_any}
use Rattle.oberon_types.specs.Types.{same_name}
use Rattle.oberon_rules.specs.Module.{is_resolved}
use Rattle.oberon_rules.specs.Scopes.{Said}

abbrev pub AreUsed : List Said → List (List ℕ) → Type 0
AreUsed said names = (x : List ℕ) → list_any (same_name x) names ≡ is_resolved x said
