use Rattle.std.proofs.Common.{◌<◌, All, length, take}
use Rattle.build_plan.specs.Lists.{lists_of}
use Rattle.plan_tests.proofs.rows.are_within.Given as goal

abbrev pub invariant-loop-row : goal.invariant-loop-row
invariant-loop-row l = All (λ row. All (λ place. place < length l.rows) row) (take l.row-index (lists_of l.rows))
