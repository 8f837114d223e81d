-- Which modules each module imports, by their indices.
use Rattle.std.specs.Prelude.{◌≡◌, ◌↔◌, ℕ, List, length, Contains}
use Rattle.build_plan.specs.Rows as plan
use Rattle.target_graph.specs.Workspace.{pairs_of, IsVisible}
use Rattle.target_graph.specs.declared.target.Target.{Target}
use Rattle.build_rules.specs.World.{World, Imports}

-- one of the names means the module
pub record IsNamed (targets : List Target) (target : ℕ) (names : List (List ℕ)) (q : ℕ) : Type 0 where
  pub name : List ℕ
  pub listed : Contains names name
  pub visible : IsVisible targets target name q

-- the modules that these names mean to a target
pub record IsRow (targets : List Target) (target : ℕ) (names : List (List ℕ)) (row : List ℕ) : Type 0 where
  pub each : (q : ℕ) → Contains row q → IsNamed targets target names q
  pub whole : (q : ℕ) → IsNamed targets target names q → Contains row q

-- a row for each module: the modules that it imports
pub record AreRows (w : World) (rows : List (List ℕ)) : Type 0 where
  pub size : length rows ≡ length (pairs_of w.targets)
  pub each : (p q : ℕ) → plan.Imports rows p q ↔ Imports w p q
