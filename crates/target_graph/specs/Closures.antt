-- The closures of all targets, by rows of marks: a row for each target, and in it a mark for each. A row that is empty
-- isn't made yet.
use Rattle.std.specs.Prelude.{◌≡◌, ℕ, ◌<◌, Bool, true, false, List, [], ◌∷◌, length, map, Vec, Contains, ◌⊎◌}
use Rattle.std.specs.List.{slice_index_or}
use Rattle.std.specs.declared.alloc.Global.{Global}
use Rattle.target_graph.specs.declared.target.Target.{Target}
use Rattle.target_graph.specs.Walk.{has_met, AreMarks}
use Rattle.target_graph.specs.Workspace.{Circles, IsWay}

abbrev pub lists_of : {T : Type 0} → List (Vec T Global) → List (List T)
lists_of rows = map (λ row. row.items) rows

abbrev pub lists : {T : Type 0} → Vec (Vec T Global) Global → List (List T)
lists rows = lists_of rows.items

abbrev pub row_at : List (List Bool) → ℕ → List Bool
row_at rows t = slice_index_or rows t []

-- each row has its marks where its target leads
pub record AreClosures (targets : List Target) (rows : List (List Bool)) : Type 0 where
  pub size : length rows ≡ length targets
  pub each : (t : ℕ) → t < length targets → AreMarks targets (t ∷ []) (row_at rows t)

-- ---- while the rows are made

abbrev pub IsMade : List (List Bool) → ℕ → Type 0
IsMade rows t = 0 < length (row_at rows t)

-- Each row that is made has its marks where its target leads, and these have their rows too. No target that has its row
-- depends on itself.
pub record AreRows (targets : List Target) (rows : List (List Bool)) : Type 0 where
  pub size : length rows ≡ length targets
  pub each : (t : ℕ) → IsMade rows t → AreMarks targets (t ∷ []) (row_at rows t)
  pub closed : (t b : ℕ) → IsMade rows t → has_met (row_at rows t) b ≡ true → IsMade rows b
  pub acyclic : (t : ℕ) → IsMade rows t → ¬ (Circles targets t)

-- every target has its row, or some target has none
pub record IsLeft (targets : List Target) (rows : List (List Bool)) : Type 0 where
  pub index : ℕ
  pub within : index < length targets
  pub unmade : ¬ (IsMade rows index)

abbrev pub IsWhole : List Target → List (List Bool) → Bool → Type 0
IsWhole targets rows true = (t : ℕ) → t < length targets → IsMade rows t
IsWhole targets rows false = IsLeft targets rows

-- so many dependencies stand one behind the other, from this target on
pub record IsDeep (targets : List Target) (n t : ℕ) : Type 0 where
  pub end : ℕ
  pub way : List ℕ
  pub size : length way ≡ n
  pub is_way : IsWay targets t way end

-- so does each target that has no row
abbrev pub AreDeep : List Target → ℕ → List (List Bool) → Type 0
AreDeep targets n rows = (t : ℕ) → t < length targets → ¬ (IsMade rows t) → IsDeep targets n t

-- one of the rows at these indices isn't made
pub record IsOneLeft (rows : List (List Bool)) (indices : List ℕ) : Type 0 where
  pub from : ℕ
  pub listed : Contains indices from
  pub unmade : ¬ (IsMade rows from)

-- one of the rows at these indices has a mark there
pub record HasMark (rows : List (List Bool)) (indices : List ℕ) (b : ℕ) : Type 0 where
  pub from : ℕ
  pub listed : Contains indices from
  pub mark : has_met (row_at rows from) b ≡ true

-- the row has the marks of the rows at these indices, and a mark of its own
pub record IsJoined (rows : List (List Bool)) (index : ℕ) (indices : List ℕ) (row : List Bool) : Type 0 where
  pub size : length row ≡ length rows
  pub own : has_met row index ≡ true
  pub shown : (b : ℕ) → has_met row b ≡ true → (b ≡ index) ⊎ HasMark rows indices b
  pub whole : (b : ℕ) → HasMark rows indices b → has_met row b ≡ true
