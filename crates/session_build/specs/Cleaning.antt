-- Documents are cleaned, and another workspace takes the place of the one in force: of which pairs the checks are kept.
use Rattle.std.specs.Prelude.{◌≡◌, ◌==◌, ◌||◌, ℕ, Bool, false, not, List, map, filter, Option, None, Some, if◌then◌else◌}
use Rattle.std.specs.List.{list_any, slice_get}
use Rattle.check_cache.specs.Pairs.{is_among, key_of, same_pair}
use Rattle.check_cache.specs.Places.{first_at, other_at}
use Rattle.check_cache.specs.declared.pair.PairKey.{PairKey}
use Rattle.reload_rules.specs.Dropped.{dropped}
use Rattle.reload_rules.specs.Dropped as rules
use Rattle.session_build.specs.Remembering.{Remembers}
use Rattle.session_build.specs.declared.kept.Kept.{Kept}
use Rattle.session_law.specs.History.{Told, all_cleaned}
use Rattle.session_law.specs.Reloading.{keys_of_targets}
use Rattle.session_law.specs.Reloading as reloading
use Rattle.target_graph.specs.Workspace.{Space, pairs_of}
use Rattle.target_graph.specs.declared.target.Pair.{Pair}
use Rattle.target_graph.specs.declared.target.Target.{Target}

-- These targets are cleaned. What is kept is of the builds that were answered, but of no document of these targets.
abbrev pub HasCleaned : Space → List ℕ → Kept → Kept → Type 0
HasCleaned space targets old new = (builds : List Told) → Remembers space builds old → Remembers space (all_cleaned (keys_of_targets space targets) builds) new

-- Another workspace takes the place of this one. What is kept is of the builds that were answered, but of no document that
-- it lacks.
abbrev pub HasReloaded : Space → Space → Kept → Kept → Type 0
HasReloaded before now old new = (builds : List Told) → Remembers before builds old
    → Remembers now (all_cleaned (map (reloading.key_of before) (dropped before.targets now.targets)) builds) new

-- ---- which pairs

-- the pair is of one of these targets
abbrev pub is_of : List ℕ → Pair → Bool
is_of targets pair = list_any (λ target. target == pair.target) targets

-- these are the indices of the pairs of all other targets, in order
abbrev pub AreOthers : List Pair → List ℕ → List ℕ → Type 0
AreOthers pairs targets indices = map (slice_get pairs) indices ≡ map Some (filter (λ pair. not (is_of targets pair)) pairs)

-- the pair, if there is one, has this key
abbrev pub has_key : List Target → PairKey → Option Pair → Bool
has_key targets key None = false
has_key targets key (Some pair) = same_pair key (key_of targets pair)

-- a pair at one of these indices has this key
abbrev pub is_key_at : List Target → List ℕ → PairKey → Bool
is_key_at targets indices key = list_any (has_key targets key) (map (slice_get (pairs_of targets)) indices)

-- one of these pairs has this key
abbrev pub is_key_in : List Target → List Pair → PairKey → Bool
is_key_in targets pairs key = list_any (λ pair. same_pair key (key_of targets pair)) pairs

-- the key of this pair, if there is one, came to these
abbrev pub AddsKey : List Target → Option Pair → List PairKey → List PairKey → Type 0
AddsKey targets pair old new = (key : PairKey) → is_among new key ≡ (is_among old key || has_key targets key pair)

-- the keys are those of the pairs at these indices
abbrev pub AreKeysAt : List Target → List ℕ → List PairKey → Type 0
AreKeysAt targets indices keys = (key : PairKey) → is_among keys key ≡ is_key_at targets indices key

-- ---- what is kept

-- the checks of these pairs, those too that may still come, and no others
pub record KeepsOnly (among : PairKey → Bool) (old new : Kept) : Type 0 where
  pub first : (key : PairKey) → first_at new.cache key ≡ (if among key then first_at old.cache key else None)
  pub other : (key : PairKey) → other_at new.cache key ≡ (if among key then other_at old.cache key else None)
  pub late : new.late.items ≡ filter (λ late. among late.key) old.late.items
  pub keys : new.keys ≡ old.keys

-- the checks of all documents but those of these targets
abbrev pub KeepsOthers : Space → List ℕ → Kept → Kept → Type 0
KeepsOthers space targets = KeepsOnly (is_key_in space.targets (filter (λ pair. not (is_of targets pair)) (pairs_of space.targets)))

-- the checks of all documents that the new workspace has too
abbrev pub KeepsStaying : Space → Space → Kept → Kept → Type 0
KeepsStaying before now = KeepsOnly (is_key_in before.targets (rules.kept before.targets now.targets))
