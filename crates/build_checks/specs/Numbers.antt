-- The numbers of the keys of what modules show.
use Rattle.std.specs.Prelude.{◌≡◌, ◌⊎◌, ℕ, codes, List, Some, Contains, if◌then◌else◌, slice_get}
use Rattle.std.specs.List.{slice_index_or}
use Rattle.iface_key.specs.Keys.{key_of_view}
use Rattle.oberon_rules.specs.Views.{out_view}
use Rattle.oberon_types.specs.declared.entity.View.{View}
use Rattle.oberon_types.specs.Entities.{missing_view}
use Rattle.oberon_types.specs.Types.{same_name}
use Rattle.target_graph.specs.Workspace.{IsVisible}
use Rattle.target_graph.specs.declared.target.Target.{Target}
use Rattle.build_rules.specs.Views.{HasView}
use Rattle.build_rules.specs.World.{World, IsCyclic}
use Rattle.build_sources.specs.Known.{view_at}
use Rattle.build_checks.specs.Stand.{modules_of, settled_of, world_of}
use Rattle.build_checks.specs.declared.checks.Checks.{Checks}

abbrev pub number_at : List ℕ → ℕ → ℕ
number_at numbers p = slice_index_or numbers p 0

-- Each module of the build that is settled or on a cycle has its view, and the number of the key of that. So have Out and a
-- name that means no module.
pub record AreNumbers (keys : List (List ℕ)) (w : World) (modules settled : List ℕ) (kept : List View) (numbers : List ℕ) (out missing : ℕ) : Type 0 where
  pub for_out : slice_get keys out ≡ Some (key_of_view out_view)
  pub for_missing : slice_get keys missing ≡ Some (key_of_view missing_view)
  pub each : (p : ℕ) → Contains modules p → Contains settled p ⊎ IsCyclic w p
      → HasView w p (view_at kept p) × (slice_get keys (number_at numbers p) ≡ Some (key_of_view (view_at kept p)))

abbrev pub AreNumbersOf : List (List ℕ) → Checks → Type 0
AreNumbersOf keys c = AreNumbers keys (world_of c) (modules_of c) (settled_of c) c.views.items c.numbers.items c.out c.missing

-- the number of what a name means to a target: that of a module, or that of a name which means none
pub data IsNumberOf (targets : List Target) (target : ℕ) (numbers : List ℕ) (out missing : ℕ) (name : List ℕ) (number : ℕ) : Type 0 where
  of_module : (q : ℕ) → IsVisible targets target name q → number ≡ number_at numbers q → IsNumberOf targets target numbers out missing name number
  of_none : ((q : ℕ) → ¬ (IsVisible targets target name q)) → number ≡ (if same_name name (codes "Out") then out else missing) → IsNumberOf targets target numbers out missing name number
