use Rattle.std.proofs.Common.{◌≡◌, drop}
use Rattle.ob_text.specs.Held.{held_at}
use Rattle.ob_text.proofs.held.Snapshot.get.Given as goal

abbrev pub invariant-loop-at : goal.invariant-loop-at
invariant-loop-at l = held_at (drop l.at-index l.at-items) l.path ≡ held_at l.at-items l.path
