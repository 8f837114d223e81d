use Rattle.std.proofs.Common.{ℕ, drop, take}
use Rattle.std.specs.Prelude.{Contains}
use Rattle.build_plan.specs.Lists.{lists}
use Rattle.build_rules.specs.Views.{AreLists}
use Rattle.clean_build.specs.Build.{HasListAt}
use Rattle.build_sources.specs.Sources.{world}
use Rattle.clean_build.proofs.build.in_order.Given as goal

abbrev pub invariant-loop-module : goal.invariant-loop-module
invariant-loop-module l =
    record {
      found : AreLists (world l.fn.sources) (take l.module-index l.fn.modules) (lists l.found);
      left : (p : ℕ) → Contains (drop l.module-index l.fn.modules) p → HasListAt (world l.fn.sources) l.slots.items p;
    }
