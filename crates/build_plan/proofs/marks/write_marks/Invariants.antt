use Rattle.std.proofs.Common.{◌≡◌, take, length}
use Rattle.build_plan.specs.Lists.{written}
use Rattle.build_plan.proofs.marks.write_marks.Given as goal

abbrev pub invariant-loop-place : goal.invariant-loop-place
invariant-loop-place l = (l.marks.items ≡ written l.initial.marks.items (take l.place-index l.places) l.mark) × (length l.marks.items ≡ length l.initial.marks.items)
