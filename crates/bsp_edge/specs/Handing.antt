-- What one call of a tree does, by its answer. What a tree handed out is `None` where nobody tells.
use Rattle.std.specs.Prelude.{◌≡◌, ℕ, List, [], ◌∷◌, ◌++◌, map, Option, Result, Ok, Err}
use Rattle.std.specs.Option.{option_map}
use Rattle.ob_text.specs.declared.held.Snapshot.{Snapshot}
use Rattle.ob_text.specs.Held.{Entries}
use Rattle.bsp_edge.specs.declared.handing.TreeFault.{TreeFault}
use Rattle.bsp_edge.specs.declared.handing.TreeFault.TheVariants.{Failed, NoMemory}
use Rattle.bsp_edge.specs.Faults.{Rose}

-- the paths of a snapshot, in order
abbrev pub paths_of : Entries → List (List ℕ)
paths_of entries = map (λ entry. entry.0) entries

-- these snapshots were handed out behind those before
abbrev pub Hands : Option (List Entries) → Option (List Entries) → List Entries → Type 0
Hands old new snapshots = new ≡ option_map (λ handed. handed ++ snapshots) old

-- what becomes of what was handed out
abbrev pub HandsOut : Option (List Entries) → Option (List Entries) → Result Snapshot TreeFault → Type 0
HandsOut old new (Ok snapshot) = Hands old new (snapshot.entries ∷ [])
HandsOut old new (Err fault) = new ≡ old

-- what becomes of the count of faults
abbrev pub HandFaults : ℕ → ℕ → Result Snapshot TreeFault → Type 0
HandFaults before after (Ok snapshot) = after ≡ before
HandFaults before after (Err Failed) = Rose before after
HandFaults before after (Err NoMemory) = after ≡ before
