-- What a kept check is of. The names that a module imports stand with numbers: each is the number of the key of what the
-- name shows to the module. A kept check is of a module in a world where what is held, the stem and these numbers are
-- those that it was made by.
use Rattle.std.specs.Prelude.{◌≡◌, ℕ, List, Some, map, Contains, All, slice_get}
use Rattle.check_cache.specs.Facts.{FactTree, names_of}
use Rattle.iface_key.specs.Keys.{key_of_view}
use Rattle.oberon_types.specs.Entities.{ViewTree}
use Rattle.target_graph.specs.Workspace.{stem_at}
use Rattle.build_rules.specs.World.{World, held_in, HasImports}
use Rattle.build_rules.specs.Views.{as_view, IsShown}
use Rattle.build_sources.specs.Documents.{AreImportsOf}

-- a name with the number of the key of what it shows to a module
pub record IsNumbered (keys : List (List ℕ)) (w : World) (p : ℕ) (i : List ℕ × ℕ) : Type 0 where
  pub view : ViewTree
  pub shown : IsShown w as_view p i.0 view
  pub number : slice_get keys i.1 ≡ Some (key_of_view view)

-- the names that a module imports, in the order of its text, with these numbers
pub record AreNumbered (keys : List (List ℕ)) (w : World) (p : ℕ) (imports : List (List ℕ × ℕ)) : Type 0 where
  pub named : AreImportsOf (held_in w p) (names_of imports)
  pub each : All (IsNumbered keys w p) imports

-- the kept check is of this module in this world
pub record IsKept (keys : List (List ℕ)) (w : World) (p : ℕ) (fact : FactTree) : Type 0 where
  pub held_is : fact.held ≡ held_in w p
  pub stem_is : fact.stem ≡ stem_at w.targets p
  pub imports : AreNumbered keys w p fact.imports
  pub keyed : map (λ i. slice_get keys i.1) fact.imports ≡ map (λ k. Some k) fact.keys

-- ---- keys

-- all numbers stay
abbrev pub Extends : List (List ℕ) → List (List ℕ) → Type 0
Extends old new = (m : ℕ) (k : List ℕ) → slice_get old m ≡ Some k → slice_get new m ≡ Some k

-- ---- views

-- what the names that a module imports show to it
abbrev pub AreShown : World → ℕ → (List ℕ → ViewTree) → Type 0
AreShown w p shown = (names : List (List ℕ)) → HasImports (held_in w p) names → (name : List ℕ) → Contains names name → IsShown w as_view p name (shown name)
