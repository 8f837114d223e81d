-- The modules of a build.
use Rattle.std.specs.Prelude.{◌≡◌, ◌==◌, ◌<◌, ℕ, List, Some, length, Contains, All}
use Rattle.std.specs.List.{IsDistinct, slice_get}
use Rattle.target_graph.specs.Workspace.{pairs_of, IsVisible}
use Rattle.target_graph.specs.declared.target.Target.{Target}
use Rattle.target_graph.specs.declared.target.Pair.{Pair}

-- each name in them means one of them, or none at all
pub record AreModules (targets : List Target) (modules : List ℕ) : Type 0 where
  pub within : All (λ p. p < length (pairs_of targets)) modules
  pub distinct : IsDistinct ◌==◌ modules
  pub closed : (p : ℕ) → Contains modules p → (pair : Pair) → slice_get (pairs_of targets) p ≡ Some pair
      → (name : List ℕ) (q : ℕ) → IsVisible targets pair.target name q → Contains modules q
