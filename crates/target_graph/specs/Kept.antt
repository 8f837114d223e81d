-- What a workspace keeps beside its targets: their names and closures, the stems of their modules, and the pairs of each stem.
use Rattle.std.specs.Prelude.{◌≡◌, ◌≢◌, ℕ, ◌≤◌, List, length, map}
use Rattle.std.specs.List.{AllPairs, flat_map}
use Rattle.target_graph.specs.Limits.{dependencies_limit, pairs_limit, targets_limit}
use Rattle.target_graph.specs.declared.reading.Listing.{Listing}
use Rattle.target_graph.specs.declared.target.Target.{Target}
use Rattle.target_graph.specs.declared.workspace.Workspace.TheInside.{Inside}
use Rattle.target_graph.specs.Closures.{AreClosures, lists}
use Rattle.target_graph.specs.Faults.{IsRepeat}
use Rattle.target_graph.specs.Stems.{IsNumbering, AreGroups}
use Rattle.target_graph.specs.Walk.{AreClosed}
use Rattle.target_graph.specs.Workspace.{Space, pairs_of, stems_of, AreValid}

abbrev pub space : Inside → Space
space w = record { root = w.root; targets = w.targets.items }

-- what a listing has to be, for a workspace to be made of it
pub record IsSoundOf (keys : List (List ℕ)) (targets : List Target) : Type 0 where
  pub closed : AreClosed targets
  pub valid : AreValid targets
  pub few : length targets ≤ targets_limit
  pub few_pairs : length (pairs_of targets) ≤ pairs_limit
  pub few_modules : length (flat_map (λ target. target.modules) targets) ≤ pairs_limit
  pub few_dependencies : length (flat_map (λ target. target.dependencies) targets) ≤ dependencies_limit
  pub names : keys ≡ map (λ target. target.name) targets
  pub distinct : AllPairs ◌≢◌ keys

abbrev pub IsSoundListing : Listing → Type 0
IsSoundListing listing = IsSoundOf listing.names.keys listing.targets.items

pub record IsKept (w : Inside) : Type 0 where
  pub sound : IsSoundOf w.names.keys w.targets.items
  pub pairs : w.pairs.items ≡ pairs_of w.targets.items
  pub numbers : List ℕ
  pub numbered : IsNumbering (stems_of (pairs_of w.targets.items)) w.stems.keys numbers
  pub groups : AreGroups numbers (length w.stems.keys) (lists w.groups)
  pub closures : AreClosures w.targets.items (lists w.closures)
  pub once : (t q : ℕ) → ¬ (IsRepeat w.targets.items t q)
