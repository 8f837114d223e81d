use Rattle.std.proofs.Common.{◌≡◌, ◌≤◌, [], take}
use Rattle.std.specs.List.{count_by}
use Rattle.build_plan.specs.Front.{is_awaited}
use Rattle.build_plan.proofs.front.count_awaited.Given as goal

abbrev pub invariant-loop-place : goal.invariant-loop-place
invariant-loop-place l = (l.count ≡ count_by (is_awaited l.spared []) (take l.place-index l.row)) × (l.count ≤ l.place-index)
