use Rattle.std.proofs.Common.{◌≡◌, ◌<◌, ℕ, false}
use Rattle.build_plan.specs.Lists.{has_mark}
use Rattle.build_plan.specs.Cycles.{IsKnown}
use Rattle.build_plan.proofs.cycles.cyclic.Given as goal

abbrev pub invariant-loop-place : goal.invariant-loop-place
invariant-loop-place l = record {
  known : IsKnown l.links l.undecided.items l.cyclic.items;
  decided : (k : ℕ) → k < l.place → has_mark l.undecided.items k ≡ false;
}
