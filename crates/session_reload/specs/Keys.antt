-- Pairs by the names of their targets and their paths.
use Rattle.std.specs.Prelude.{◌≡◌, ◌&&◌, ℕ, Bool, List}
use Rattle.std.specs.List.{list_any}
use Rattle.std.specs.Str.{bytes_eq}
use Rattle.target_graph.specs.Workspace.{name_at}
use Rattle.target_graph.specs.declared.target.Pair.{Pair}
use Rattle.target_graph.specs.declared.target.Target.{Target}
use Rattle.reload_rules.specs.Dropped.{has_pair}
use Rattle.session_reload.specs.declared.parting.Key.{Key}

abbrev pub has_key : List Key → List ℕ → List ℕ → Bool
has_key keys name path = list_any (λ key. bytes_eq name key.target.now && bytes_eq path key.path.now) keys

-- the key of the pair, whose target is one of these, is there
abbrev pub is_known : List Key → List Target → Pair → Bool
is_known keys targets pair = has_key keys (name_at targets pair.target) pair.path

-- the keys are those of the targets
abbrev pub AreKeys : List Key → List Target → Type 0
AreKeys keys targets = (name path : List ℕ) → has_key keys name path ≡ has_pair targets name path
