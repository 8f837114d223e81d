-- How a walk goes over the targets to which some lead: each is marked when it is first met, and stands in the order in
-- which they were met.
use Rattle.std.specs.Prelude.{◌≡◌, ℕ, ◌<◌, Bool, true, false, List, [], ◌∷◌, ◌++◌, length, if◌then◌else◌, All, Contains}
use Rattle.std.specs.List.{slice_index_or, slice_set, fold, AllPairs}
use Rattle.target_graph.specs.declared.target.Target.{Target}
use Rattle.target_graph.specs.Workspace.{IsReached}

pub record Met : Type 0 where
  pub marks : List Bool
  pub order : List ℕ

abbrev pub has_met : List Bool → ℕ → Bool
has_met marks target = slice_index_or marks target false

abbrev pub meet : Met → ℕ → Met
meet met target = record {
  marks = slice_set met.marks target true;
  order = if has_met met.marks target then met.order else met.order ++ target ∷ [];
}

abbrev pub meet_all : Met → List ℕ → Met
meet_all met targets = fold meet met targets

-- each dependency of a target is a target
abbrev pub AreClosed : List Target → Type 0
AreClosed targets = All (λ target. All (λ index. index < length targets) target.dependencies) targets

-- the marks stand at the targets to which an asked one leads
pub record AreMarks (targets : List Target) (asked : List ℕ) (marks : List Bool) : Type 0 where
  pub size : length marks ≡ length targets
  pub reached : (b : ℕ) → has_met marks b ≡ true → IsReached targets asked b
  pub whole : (b : ℕ) → IsReached targets asked b → has_met marks b ≡ true

-- the indices at which marks stand, in order
pub record AreMarked (marks : List Bool) (indices : List ℕ) : Type 0 where
  pub ordered : AllPairs ◌<◌ indices
  pub each : All (λ index. has_met marks index ≡ true) indices
  pub whole : (index : ℕ) → has_met marks index ≡ true → Contains indices index
