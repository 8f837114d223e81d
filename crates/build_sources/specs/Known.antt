-- The views that are known of modules, and the views of a module's imports.
use Rattle.std.specs.Prelude.{◌≡◌, ℕ, List, map, Contains}
use Rattle.std.specs.List.{slice_index_or}
use Rattle.oberon_types.specs.declared.entity.View.{View}
use Rattle.oberon_types.specs.Entities.{ViewTree, missing_view}
use Rattle.oberon_types.specs.Memory.{plain_view}
use Rattle.target_graph.specs.Workspace.{IsVisible}
use Rattle.target_graph.specs.declared.target.Target.{Target}
use Rattle.build_rules.specs.Views.{shown_elsewhere}

-- the view that is kept of a module
abbrev pub view_at : List View → ℕ → ViewTree
view_at kept q = slice_index_or (map plain_view kept) q missing_view

-- the view of what a name means to a target: the one that is kept of a module, or that of a name which means none
pub data IsViewOf (targets : List Target) (target : ℕ) (kept : List View) (name : List ℕ) (view : ViewTree) : Type 0 where
  of_module : (q : ℕ) → IsVisible targets target name q → view ≡ view_at kept q → IsViewOf targets target kept name view
  of_none : ((q : ℕ) → ¬ (IsVisible targets target name q)) → view ≡ shown_elsewhere name → IsViewOf targets target kept name view

abbrev pub AreViewsOf : List Target → ℕ → List View → List (List ℕ) → (List ℕ → ViewTree) → Type 0
AreViewsOf targets target kept names views = (name : List ℕ) → Contains names name → IsViewOf targets target kept name (views name)
