-- What the places of a build import: for each place its row, the places that it imports. And which places are on a
-- cycle.
use Rattle.std.specs.Prelude.{ℕ, ◌<◌, List, [], ◌∷◌, length, All, Contains}
use Rattle.std.specs.List.{slice_index_or}

-- the places that a place imports
abbrev pub row_at : List (List ℕ) → ℕ → List ℕ
row_at rows place = slice_index_or rows place []

-- a place imports another
abbrev pub Imports : List (List ℕ) → ℕ → ℕ → Type 0
Imports rows a b = Contains (row_at rows a) b

-- each import is a place
abbrev pub AreWithin : List (List ℕ) → Type 0
AreWithin rows = All (λ row. All (λ place. place < length rows) row) rows

-- steps of one kind lead from a place to another over those in between, one step at least
abbrev pub IsWay : (ℕ → ℕ → Type 0) → ℕ → List ℕ → ℕ → Type 0
IsWay Step a [] b = Step a b
IsWay Step a (next ∷ way) b = Step a next × IsWay Step next way b

pub record Leads (Step : ℕ → ℕ → Type 0) (a b : ℕ) : Type 0 where
  pub way : List ℕ
  pub is_way : IsWay Step a way b

-- a path of at least one import
abbrev pub Path : List (List ℕ) → ℕ → ℕ → Type 0
Path rows a b = Leads (Imports rows) a b

abbrev pub OnCycle : List (List ℕ) → ℕ → Type 0
OnCycle rows place = Path rows place place
