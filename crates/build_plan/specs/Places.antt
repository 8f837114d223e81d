-- How far a plan is, and which places are ready.
use Rattle.std.specs.Prelude.{ℕ, ◌<◌, ◌≤◌, ◌⊎◌, List, [], ◌∷◌, ◌++◌, length, Contains}
use Rattle.build_plan.specs.Rows.{Imports, OnCycle}

-- what contracts see of a plan
pub record Places : Type 0 where
  -- for each place, the places that it imports
  pub rows : List (List ℕ)
  -- the places that were given, in the order in which they came
  pub given : List ℕ
  -- those that are finished, in the order in which they came
  pub finished : List ℕ

-- nothing was given yet
abbrev pub fresh : List (List ℕ) → Places
fresh rows = record { rows = rows; given = []; finished = [] }

abbrev pub with_given : Places → ℕ → Places
with_given places place = record { rows = places.rows; given = places.given ++ place ∷ []; finished = places.finished }

abbrev pub with_finished : Places → ℕ → Places
with_finished places place = record { rows = places.rows; given = places.given; finished = places.finished ++ place ∷ [] }

-- what imports the place doesn't wait for it
abbrev pub IsSettled : Places → ℕ → Type 0
IsSettled places place = Contains places.finished place ⊎ OnCycle places.rows place

-- the place waits for none of its imports
abbrev pub IsClear : Places → ℕ → Type 0
IsClear places place = (import : ℕ) → Imports places.rows place import → IsSettled places import

-- the place can be given
pub record IsReady (places : Places) (place : ℕ) : Type 0 where
  pub within : place < length places.rows
  pub is_new : ¬ (Contains places.given place)
  pub clear : IsClear places place

pub record IsLeastReady (places : Places) (place : ℕ) : Type 0 where
  pub ready : IsReady places place
  pub least : (other : ℕ) → IsReady places other → place ≤ other

-- every place is finished
abbrev pub IsDone : Places → Type 0
IsDone places = (place : ℕ) → place < length places.rows → Contains places.finished place
