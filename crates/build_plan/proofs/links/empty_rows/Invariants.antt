use Rattle.std.proofs.Common.{◌≡◌, [], replicate}
use Rattle.build_plan.specs.Lists.{lists}
use Rattle.build_plan.proofs.links.empty_rows.Given as goal

abbrev pub invariant-loop : goal.invariant-loop
invariant-loop l = lists l.rows ≡ replicate l.counter []
