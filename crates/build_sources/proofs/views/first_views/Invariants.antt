use Rattle.std.proofs.Common.{◌≡◌, ◌<◌, ℕ, length}
use Rattle.build_plan.specs.Rows.{OnCycle}
use Rattle.oberon_types.specs.Entities.{cyclic_view}
use Rattle.build_sources.specs.Known.{view_at}
use Rattle.build_sources.proofs.views.first_views.Given as goal

abbrev pub invariant-loop-index : goal.invariant-loop-index
invariant-loop-index l =
    record {
      size : length l.views.items ≡ l.index;
      cyclic : (p : ℕ) → p < l.index → OnCycle l.fn.plan.rows p → view_at l.views.items p ≡ cyclic_view;
    }
