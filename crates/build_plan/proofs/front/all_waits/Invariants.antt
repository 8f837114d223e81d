use Rattle.std.proofs.Common.{◌≡◌, ◌<◌, ℕ, [], length}
use Rattle.std.specs.List.{slice_index}
use Rattle.build_plan.specs.Lists.{lists_of}
use Rattle.build_plan.specs.Front.{waits}
use Rattle.build_plan.proofs.front.all_waits.Given as goal

abbrev pub invariant-loop-row : goal.invariant-loop-row
invariant-loop-row l = record {
  size : length l.waiting.items ≡ l.row-index;
  waits : (p : ℕ) → p < l.row-index → slice_index l.waiting.items p ≡ waits (lists_of l.rows) l.spared [] p;
}
