-- The views that a module is checked by, as the rules take them.
use Rattle.std.specs.Prelude.{ℕ, List, map}
use Rattle.oberon_types.specs.declared.entity.View.{View}
use Rattle.oberon_types.specs.Entities.{ViewTree}
use Rattle.oberon_types.specs.Memory.{plain_view}
use Rattle.oberon_rules.specs.Local.{view_in}
use Rattle.oberon_module.specs.declared.importing.Views.{Views}

abbrev pub plain_views : List (List ℕ × View) → List (List ℕ × ViewTree)
plain_views vs = map (λ (v : List ℕ × View). (v.0, plain_view v.1)) vs

abbrev pub views_of : Views → List ℕ → ViewTree
views_of v x = view_in (plain_views v.known.now.entries) x
