-- Which targets list one of two paths.
use Rattle.std.specs.Prelude.{◌≡◌, ℕ, ◌<◌, ◌||◌, Bool, true, false, List, Option, None, Some, All, Contains}
use Rattle.std.specs.List.{slice_get, list_any, AllPairs}
use Rattle.std.specs.Str.{bytes_eq}
use Rattle.target_graph.specs.declared.target.Target.{Target}

abbrev pub is_this : Option (List ℕ) → List ℕ → Bool
is_this None path = false
is_this (Some wanted) path = bytes_eq path wanted

abbrev pub is_one : Option (List ℕ) → Option (List ℕ) → List ℕ → Bool
is_one own other path = is_this own path || is_this other path

pub record IsLister (targets : List Target) (own other : Option (List ℕ)) (t : ℕ) : Type 0 where
  pub target : Target
  pub there : slice_get targets t ≡ Some target
  pub lists : list_any (is_one own other) target.modules ≡ true

pub record AreListers (targets : List Target) (own other : Option (List ℕ)) (indices : List ℕ) : Type 0 where
  pub ordered : AllPairs ◌<◌ indices
  pub each : All (IsLister targets own other) indices
  pub whole : (t : ℕ) → IsLister targets own other t → Contains indices t
