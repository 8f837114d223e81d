use Rattle.std.proofs.Common.{◌≡◌, ℕ, List, take}
use Rattle.std.specs.Prelude.{Contains}
use Rattle.oberon_module.specs.Views.{plain_views}
use Rattle.oberon_rules.specs.Local.{view_in}
use Rattle.oberon_types.specs.Entities.{missing_view}
use Rattle.build_sources.specs.Known.{AreViewsOf}
use Rattle.build_sources.proofs.sources.Sources.views_of.Given as goal

abbrev pub invariant-loop-name : goal.invariant-loop-name
invariant-loop-name l =
    record {
      are : AreViewsOf l.fn.self.workspace.value.targets l.fn.target l.fn.kept (take l.name-index l.fn.imports) (view_in (plain_views l.views.entries));
      others : (name : List ℕ) → ¬ (Contains (take l.name-index l.fn.imports) name) → view_in (plain_views l.views.entries) name ≡ missing_view;
    }
