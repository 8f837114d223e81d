use Rattle.std.specs.Prelude.{◌≡◌, length}
use Rattle.iface_key.specs.Read.{letter_then}
use Rattle.iface_key.proofs.reading.read_text.Given as goal
use Rattle.iface_key.proofs.Listed.{so_far}

abbrev pub invariant-letters : goal.invariant-letters
invariant-letters l = l.fn.text ≡ so_far letter_then l.letters.items l.left

abbrev pub decreases-letters : goal.decreases-letters
decreases-letters l = length l.left
