use Rattle.std.proofs.Common.{◌≡◌, take, length}
use Rattle.build_plan.specs.Walk.{met, meet_all, allowed_of}
use Rattle.build_plan.proofs.walk.Walk.meet_allowed.Given as goal

abbrev pub invariant-loop-place : goal.invariant-loop-place
invariant-loop-place l = (met l.self ≡ meet_all (met l.initial.self) (allowed_of l.allowed (take l.place-index l.places))) × (length l.self.marks.items ≡ length l.initial.self.marks.items)
