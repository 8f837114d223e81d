-- How far the checks of a build are: which modules were taken, and which of these are settled.
use Rattle.std.specs.Prelude.{◌≡◌, ◌==◌, ◌≤◌, ◌<◌, ◌⊎◌, ◌-◌, ℕ, Bool, List, Some, length, filter, Contains}
use Rattle.std.specs.List.{IsDistinct, list_any, slice_get}
use Rattle.build_plan.specs.Places.{Places}
use Rattle.oberon_types.specs.declared.entity.View.{View}
use Rattle.target_graph.specs.Workspace.{pairs_of, IsVisible}
use Rattle.target_graph.specs.declared.target.Pair.{Pair}
use Rattle.build_rules.specs.World.{World, Imports, IsCyclic}
use Rattle.build_sources.specs.Rows.{AreRows}
use Rattle.build_sources.specs.Sources.{AreSources, world}
use Rattle.build_checks.specs.declared.checks.Checks.{Checks}

-- ---- what contracts see

abbrev pub world_of : Checks → World
world_of c = world c.sources

-- the modules of the build
abbrev pub modules_of : Checks → List ℕ
modules_of c = c.wanted.keys

abbrev pub is_among : List ℕ → ℕ → Bool
is_among modules p = list_any (λ q. p == q) modules

-- those of these places that are modules of the build
abbrev pub of_build : List ℕ → List ℕ → List ℕ
of_build modules places = filter (is_among modules) places

-- those that were taken, in the order in which they came
abbrev pub taken_of : Checks → List ℕ
taken_of c = of_build (modules_of c) c.plan.given

-- those that are settled, in the order in which they came
abbrev pub settled_of : Checks → List ℕ
settled_of c = of_build (modules_of c) c.plan.finished

-- what is left to do, at most
abbrev pub left_of : Checks → ℕ
left_of c = length c.plan.rows - length c.plan.given

-- ---- which module is next

-- each module that this one imports is settled or on a cycle
abbrev pub IsClear : World → List ℕ → ℕ → Type 0
IsClear w settled p = (q : ℕ) → Imports w p q → Contains settled q ⊎ IsCyclic w q

-- the module can be taken
pub record IsReady (w : World) (modules taken settled : List ℕ) (p : ℕ) : Type 0 where
  pub among : Contains modules p
  pub is_new : ¬ (Contains taken p)
  pub clear : IsClear w settled p

abbrev pub CanBeTaken : Checks → ℕ → Type 0
CanBeTaken c p = IsReady (world_of c) (modules_of c) (taken_of c) (settled_of c) p

pub record IsNext (c : Checks) (p : ℕ) : Type 0 where
  pub ready : CanBeTaken c p
  pub least : (q : ℕ) → CanBeTaken c q → p ≤ q

-- ---- what is kept

-- A module of the workspace that isn't of the build is passed over: it is finished as soon as it is given.
pub record AreSoFar (w : World) (modules : List ℕ) (places : Places) (kept : List View) (numbers : List ℕ) : Type 0 where
  pub rows : AreRows w places.rows
  pub within : (p : ℕ) → Contains modules p → p < length (pairs_of w.targets)
  pub closed : (p : ℕ) → Contains modules p → (pair : Pair) → slice_get (pairs_of w.targets) p ≡ Some pair
      → (name : List ℕ) (q : ℕ) → IsVisible w.targets pair.target name q → Contains modules q
  pub kept_all : length kept ≡ length (pairs_of w.targets)
  pub numbered_all : length numbers ≡ length (pairs_of w.targets)
  pub distinct : IsDistinct ◌==◌ places.given
  pub below : (p : ℕ) → Contains places.given p → p < length places.rows
  pub only : (p : ℕ) → Contains places.finished p → Contains places.given p
  pub passed : (p : ℕ) → Contains places.given p → ¬ (Contains modules p) → Contains places.finished p

pub record AreChecks (c : Checks) : Type 0 where
  pub sources : AreSources c.sources
  pub so_far : AreSoFar (world_of c) (modules_of c) c.plan c.views.items c.numbers.items
