-- The targets of two workspaces by their names, as they are sorted in memory.
use Rattle.std.specs.Prelude.{◌≡◌, ℕ, Bool, List, map, All, Option, None, Some}
use Rattle.std.specs.Borrow.{Bor}
use Rattle.std.specs.Cmp.Lexicographic.{slice_cmp}
use Rattle.std.specs.List.Sorted.{IsStrictlySortedBy}
use Rattle.std.specs.Map.{keys_of, lookup}
use Rattle.std.specs.declared.cmp.Ordering.{Ordering}
use Rattle.std.specs.Option.{option_copied, option_or}
use Rattle.std.specs.Ordering.{is_eq, nat_cmp}
use Rattle.target_graph.specs.declared.target.Target.{Target}
use Rattle.reload_rules.specs.Changes.{AreNames, with_name}
use Rattle.session_reload.specs.declared.sides.Side.{Side}

-- as a sorted map compares names
abbrev pub same_name : List ℕ → List ℕ → Bool
same_name a b = is_eq (slice_cmp nat_cmp a b)

abbrev pub side_at : List (Bor (List ℕ) × Side) → List ℕ → Option Side
side_at entries name = lookup (λ key. same_name name key.now) entries

-- the first targets of both
abbrev pub joined_to : Option Side → Side → Side
joined_to None side = side
joined_to (Some first) side = record { old = option_or first.old side.old; new = option_or first.new side.new }

-- the names ascend
abbrev pub name_cmp : Bor (List ℕ) → Bor (List ℕ) → Ordering
name_cmp a b = slice_cmp nat_cmp a.now b.now

abbrev pub IsInOrder : List (Bor (List ℕ) × Side) → Type 0
IsInOrder entries = IsStrictlySortedBy name_cmp (keys_of entries)

-- ---- all of them

abbrev pub names_in : List (Bor (List ℕ) × Side) → List (List ℕ)
names_in entries = map (λ entry. entry.0.now) entries

abbrev pub IsEntryOf : List Target → List Target → Bor (List ℕ) × Side → Type 0
IsEntryOf old new entry = (option_copied entry.1.old ≡ with_name entry.0.now old) × (option_copied entry.1.new ≡ with_name entry.0.now new)

pub record AreSides (old new : List Target) (entries : List (Bor (List ℕ) × Side)) : Type 0 where
  pub each : All (IsEntryOf old new) entries
  pub names : AreNames old new (names_in entries)
