-- Places, of which some have to wait until others are finished: each for those that it imports, but for the spared ones.
use Rattle.std.specs.Prelude.{◌≡◌, ℕ, ◌<◌, ◌≤◌, ◌+◌, ◌==◌, ◌&&◌, ◌⊎◌, Bool, true, not, List, [], ◌∷◌, ◌++◌, map, length, if◌then◌else◌, Contains}
use Rattle.std.specs.List.{slice_index_or, count_by}
use Rattle.std.specs.BinaryHeap.{heap_items, heap_capacity, IsHeap}
use Rattle.std.specs.Ordering.{nat_cmp}
use Rattle.std.specs.declared.alloc.Global.{Global}
use Rattle.std.specs.declared.cmp.Reverse.{Reverse}
use Rattle.std.specs.declared.collections.BinaryHeap.{BinaryHeap}
use Rattle.build_plan.specs.Rows.{row_at, Imports}
use Rattle.build_plan.specs.Lists.{has_mark, count_of}

pub record Stand : Type 0 where
  pub rows : List (List ℕ)
  pub spared : List Bool
  pub given : List ℕ
  pub finished : List ℕ

abbrev pub first_stand : List (List ℕ) → List Bool → Stand
first_stand rows spared = record { rows = rows; spared = spared; given = []; finished = [] }

abbrev pub stand_given : Stand → ℕ → Stand
stand_given stand place = record { rows = stand.rows; spared = stand.spared; given = stand.given ++ place ∷ []; finished = stand.finished }

abbrev pub stand_finished : Stand → ℕ → Stand
stand_finished stand place = record { rows = stand.rows; spared = stand.spared; given = stand.given; finished = stand.finished ++ place ∷ [] }

-- no place waits for this one
abbrev pub IsPassed : Stand → ℕ → Type 0
IsPassed stand place = Contains stand.finished place ⊎ (has_mark stand.spared place ≡ true)

-- the place waits for none
abbrev pub WaitsForNone : Stand → ℕ → Type 0
WaitsForNone stand place = (import : ℕ) → Imports stand.rows place import → IsPassed stand import

pub record IsFree (stand : Stand) (place : ℕ) : Type 0 where
  pub within : place < length stand.rows
  pub is_new : ¬ (Contains stand.given place)
  pub clear : WaitsForNone stand place

pub record IsLeastFree (stand : Stand) (place : ℕ) : Type 0 where
  pub free : IsFree stand place
  pub least : (other : ℕ) → IsFree stand other → place ≤ other

-- ---- how a front keeps this

-- a place that others wait for
abbrev pub is_awaited : List Bool → List ℕ → ℕ → Bool
is_awaited spared finished place = not (has_mark spared place) && (count_of place finished == 0)

-- for how many a place waits, one that is imported twice counted twice
abbrev pub waits : List (List ℕ) → List Bool → List ℕ → ℕ → ℕ
waits rows spared finished place = count_by (is_awaited spared finished) (row_at rows place)

-- how many times the place stands in the list of those that wait for none: once, or it waits
abbrev pub times_free : List ℕ → ℕ → ℕ
times_free waiting place = if slice_index_or waiting place 1 == 0 then 1 else 0

abbrev pub queued : BinaryHeap (Reverse ℕ) Global → List ℕ
queued heap = map (λ entry. entry.0) (heap_items heap)

-- a heap of places that wait for none, the least first
pub record IsQueue (waiting : List ℕ) (ready : BinaryHeap (Reverse ℕ) Global) : Type 0 where
  pub once : (p : ℕ) → count_of p (queued ready) ≤ times_free waiting p
  pub ordered : IsHeap (λ x y. nat_cmp y.0 x.0) (heap_items ready)
  pub room : length waiting ≤ heap_capacity ready

-- each of these places waits for one less, and those that wait for none now are in the queue
pub record CountsDown (places old : List ℕ) (queue : BinaryHeap (Reverse ℕ) Global) (new : List ℕ) (ready : BinaryHeap (Reverse ℕ) Global) : Type 0 where
  pub size : length new ≡ length old
  pub waits : (p : ℕ) → slice_index_or new p 1 + count_of p places ≡ slice_index_or old p 1
  pub joined : (p : ℕ) → count_of p (queued ready) + times_free old p ≡ count_of p (queued queue) + times_free new p
