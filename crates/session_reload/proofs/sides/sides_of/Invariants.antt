use Rattle.std.proofs.Common.{◌+◌, ◌≤◌, [], take, length}
use Rattle.session_reload.specs.Sides.{IsInOrder}
use Rattle.session_reload.proofs.SideLaws.{HasSides}
use Rattle.session_reload.proofs.sides.sides_of.Given as goal

abbrev pub invariant-loop-target : goal.invariant-loop-target
invariant-loop-target l = HasSides (take l.target-index l.old) [] l.sides.entries × IsInOrder l.sides.entries × (length l.sides.entries ≤ l.target-index)

abbrev pub invariant-loop-target-2 : goal.invariant-loop-target-2
invariant-loop-target-2 l = HasSides l.old (take l.target-index l.new) l.sides.entries × IsInOrder l.sides.entries × (length l.sides.entries ≤ length l.old + l.target-index)
