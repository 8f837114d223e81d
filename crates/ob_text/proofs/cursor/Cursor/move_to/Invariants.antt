use Rattle.std.proofs.Common.{◌≡◌, ◌-◌, ◌≤◌}
use Rattle.ob_text.proofs.cursor.Cursor.move_to.Given as goal

abbrev pub invariant-loop-self : goal.invariant-loop-self
invariant-loop-self l = (l.self.text ≡ l.initial.self.text) × (l.self.offset ≤ l.offset)

abbrev pub decreases-loop-self : goal.decreases-loop-self
decreases-loop-self l = l.offset - l.self.offset
