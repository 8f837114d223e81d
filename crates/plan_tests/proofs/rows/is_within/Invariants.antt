use Rattle.std.proofs.Common.{◌<◌, All, take}
use Rattle.plan_tests.proofs.rows.is_within.Given as goal

abbrev pub invariant-loop-place : goal.invariant-loop-place
invariant-loop-place l = All (λ place. place < l.places) (take l.place-index l.row)
