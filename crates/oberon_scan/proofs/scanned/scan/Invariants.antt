use Rattle.std.proofs.Common.{length}
use Rattle.oberon_scan.proofs.Sweeping.{Swept}
use Rattle.oberon_scan.proofs.scanned.scan.Given as goal

abbrev pub invariant-pieces : goal.invariant-pieces
invariant-pieces l = Swept l.text l.rest l.scanned.tokens.items l.scanned.faults.items l.cursor

abbrev pub decreases-pieces : goal.decreases-pieces
decreases-pieces l = length l.rest
