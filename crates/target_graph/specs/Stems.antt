-- The stems of the modules by number, and the pairs that have each.
use Rattle.std.specs.Prelude.{◌≡◌, ◌≢◌, ℕ, ◌+◌, ◌<◌, ◌≤◌, Bool, true, List, [], ◌++◌, length, Some, Contains}
use Rattle.std.specs.List.{slice_get, slice_index, slice_index_or, AllPairs}
use Rattle.target_graph.specs.declared.target.Pair.{Pair}
use Rattle.target_graph.specs.Names.{stem}
use Rattle.target_graph.specs.Walk.{has_met}

-- the number of a text among the keys, which it may be put behind
pub record IsNumbered (old new : List (List ℕ)) (text : List ℕ) (n : ℕ) : Type 0 where
  pub more : List (List ℕ)
  pub grown : new ≡ old ++ more
  pub few : length new ≤ length old + 1
  pub within : n < length new
  pub named : slice_index_or new n [] ≡ text
  pub distinct : AllPairs ◌≢◌ old → AllPairs ◌≢◌ new

-- each text has the number of an equal key, and no two keys are equal
pub record IsNumbering (texts keys : List (List ℕ)) (numbers : List ℕ) : Type 0 where
  pub size : length numbers ≡ length texts
  pub within : (q : ℕ) → q < length texts → slice_index numbers q < length keys
  pub named : (q : ℕ) → q < length texts → slice_index_or keys (slice_index numbers q) [] ≡ slice_index_or texts q []
  pub distinct : AllPairs ◌≢◌ keys

-- the pair's target is marked
pub record IsSeen (marks : List Bool) (pairs : List Pair) (q : ℕ) : Type 0 where
  pub pair : Pair
  pub there : slice_get pairs q ≡ Some pair
  pub is_marked : has_met marks pair.target ≡ true

-- a marked pair has the number of an earlier one
pub record IsTwice (marks : List Bool) (pairs : List Pair) (numbers : List ℕ) (q : ℕ) : Type 0 where
  pub earlier : ℕ
  pub before : earlier < q
  pub seen_earlier : IsSeen marks pairs earlier
  pub seen : IsSeen marks pairs q
  pub same : slice_index numbers earlier ≡ slice_index numbers q

-- the first such pair, by its stem
pub record IsFirstTwice (marks : List Bool) (pairs : List Pair) (numbers : List ℕ) (name : List ℕ) : Type 0 where
  pub index : ℕ
  pub pair : Pair
  pub there : slice_get pairs index ≡ Some pair
  pub named : stem pair.path ≡ name
  pub twice : IsTwice marks pairs numbers index
  pub first : (q : ℕ) → q < index → ¬ (IsTwice marks pairs numbers q)

-- the indices of the pairs that have each number
pub record AreGroups (numbers : List ℕ) (width : ℕ) (groups : List (List ℕ)) : Type 0 where
  pub size : length groups ≡ width
  pub each : (n q : ℕ) → Contains (slice_index_or groups n []) q → (q < length numbers) × (slice_index numbers q ≡ n)
  pub whole : (q : ℕ) → q < length numbers → Contains (slice_index_or groups (slice_index numbers q) []) q

-- the texts have numbers below the width
pub record HasNumbers (texts : List (List ℕ)) (numbers : List ℕ) (width : ℕ) : Type 0 where
  pub keys : List (List ℕ)
  pub size : length keys ≡ width
  pub numbered : IsNumbering texts keys numbers
