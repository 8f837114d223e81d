use Rattle.std.proofs.Common.{◌≡◌, ◌<◌, ℕ, length}
use Rattle.std.specs.Prelude.{Contains, ◌↔◌}
use Rattle.build_plan.specs.Lists.{lists}
use Rattle.build_plan.specs.Rows.{row_at}
use Rattle.build_rules.specs.World.{Imports}
use Rattle.build_sources.specs.Sources.{world}
use Rattle.build_sources.proofs.sources.Sources.rows.Given as goal

abbrev pub invariant-loop-pair : goal.invariant-loop-pair
invariant-loop-pair l =
    record {
      size : length (lists l.rows) ≡ l.pair-index;
      each : (p : ℕ) → p < l.pair-index → (q : ℕ) → Contains (row_at (lists l.rows) p) q ↔ Imports (world l.fn.self) p q;
    }
