-- What a look among the kept checks finds for a module: a kept check of what is held at its path and of these imports.
use Rattle.std.specs.Prelude.{◌≡◌, ℕ, List, Some, slice_get}
use Rattle.check_cache.specs.Facts.{FactTree}
use Rattle.check_cache.specs.Pairs.{key_of}
use Rattle.check_cache.specs.Places.{Chosen, Lacks, first_at, other_at}
use Rattle.check_cache.specs.Wanted.{IsOf}
use Rattle.check_cache.specs.declared.cache.Cache.{Cache}
use Rattle.check_cache.specs.declared.pair.PairKey.{PairKey}
use Rattle.target_graph.specs.Workspace.{pairs_of}
use Rattle.target_graph.specs.declared.target.Pair.{Pair}
use Rattle.build_rules.specs.World.{World, held_in}

-- the kept checks of the module stand at this key
pub record IsKeyIn (w : World) (p : ℕ) (key : PairKey) : Type 0 where
  pub pair : Pair
  pub there : slice_get (pairs_of w.targets) p ≡ Some pair
  pub is : key ≡ key_of w.targets pair

abbrev pub IsFound : Cache → World → ℕ → List (List ℕ × ℕ) → FactTree → Type 0
IsFound cache w p imports fact = (pair : Pair) → slice_get (pairs_of w.targets) p ≡ Some pair
    → Chosen (IsOf (held_in w p) imports) (first_at cache (key_of w.targets pair)) (other_at cache (key_of w.targets pair)) fact

-- neither place of the module has one
pub record IsLacked (cache : Cache) (w : World) (p : ℕ) (imports : List (List ℕ × ℕ)) : Type 0 where
  pub first : (pair : Pair) → slice_get (pairs_of w.targets) p ≡ Some pair → Lacks (IsOf (held_in w p) imports) (first_at cache (key_of w.targets pair))
  pub other : (pair : Pair) → slice_get (pairs_of w.targets) p ≡ Some pair → Lacks (IsOf (held_in w p) imports) (other_at cache (key_of w.targets pair))
