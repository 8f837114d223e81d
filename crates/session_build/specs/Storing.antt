-- The checks that were made are stored: which places change.
use Rattle.std.specs.Prelude.{◌≡◌, ℕ, List, Contains, Some}
use Rattle.std.specs.List.{slice_get}
use Rattle.check_cache.specs.Pairs.{key_of}
use Rattle.check_cache.specs.Places.{first_at, moved, other_at}
use Rattle.check_cache.specs.declared.cache.Cache.{Cache}
use Rattle.check_cache.specs.declared.pair.PairKey.{PairKey}
use Rattle.session_build.specs.Going.{pairs_made}
use Rattle.session_build.specs.declared.going.Made.{Made}
use Rattle.target_graph.specs.Workspace.{Space, pairs_of}
use Rattle.target_graph.specs.declared.target.Pair.{Pair}

-- at this key the check stands first, and what stood there stands in the other place
pub record IsStored (old new : Cache) (it : Made) (key : PairKey) : Type 0 where
  pub first : first_at new key ≡ Some it.fact
  pub other : other_at new key ≡ moved (first_at old key) (other_at old key)

-- both places are as they were
pub record IsLeft (old new : Cache) (key : PairKey) : Type 0 where
  pub first : first_at new key ≡ first_at old key
  pub other : other_at new key ≡ other_at old key

pub record StoresOne (space : Space) (it : Made) (old new : Cache) : Type 0 where
  pub own : (pair : Pair) → slice_get (pairs_of space.targets) it.pair ≡ Some pair → IsStored old new it (key_of space.targets pair)
  pub others : (p : ℕ) (pair : Pair) → slice_get (pairs_of space.targets) p ≡ Some pair → ¬ (it.pair ≡ p) → IsLeft old new (key_of space.targets pair)

pub record StoresAll (space : Space) (made : List Made) (old new : Cache) : Type 0 where
  pub own : (it : Made) (pair : Pair) → Contains made it → slice_get (pairs_of space.targets) it.pair ≡ Some pair → IsStored old new it (key_of space.targets pair)
  pub others : (p : ℕ) (pair : Pair) → slice_get (pairs_of space.targets) p ≡ Some pair → ¬ (Contains (pairs_made made) p) → IsLeft old new (key_of space.targets pair)
