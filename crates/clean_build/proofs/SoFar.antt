-- How far a build is: the views and the lists that it has.
use Rattle.std.specs.Prelude.{◌≡◌, ◌==◌, ◌<◌, ◌⊎◌, ℕ, List, length, Contains}
use Rattle.std.specs.List.{IsDistinct}
use Rattle.build_plan.specs.Rows.{AreWithin, OnCycle}
use Rattle.build_plan.specs.Places.{Places}
use Rattle.oberon_types.specs.declared.entity.View.{View}
use Rattle.target_graph.specs.Workspace.{pairs_of}
use Rattle.build_rules.specs.World.{World}
use Rattle.build_rules.specs.Views.{HasView}
use Rattle.build_sources.specs.Known.{view_at}
use Rattle.build_sources.specs.Rows.{AreRows}
use Rattle.clean_build.specs.Build.{HasListAt, Slots}

-- each module of the build that was finished has its list, and each that was or is on a cycle its view
pub record IsSoFar (w : World) (modules : List ℕ) (places : Places) (kept : List View) (slots : Slots) : Type 0 where
  pub rows : AreRows w places.rows
  pub within : AreWithin places.rows
  pub kept_all : length kept ≡ length (pairs_of w.targets)
  pub sized : length slots ≡ length (pairs_of w.targets)
  pub distinct : IsDistinct ◌==◌ places.given
  pub below : (p : ℕ) → Contains places.given p → p < length places.rows
  pub finished : (p : ℕ) → Contains places.given p → Contains places.finished p
  pub only : (p : ℕ) → Contains places.finished p → Contains places.given p
  pub seen : (p : ℕ) → Contains modules p → Contains places.finished p ⊎ OnCycle places.rows p → HasView w p (view_at kept p)
  pub listed : (p : ℕ) → Contains modules p → Contains places.finished p → HasListAt w slots p
