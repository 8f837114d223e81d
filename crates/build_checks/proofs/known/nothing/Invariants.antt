use Rattle.std.proofs.Common.{◌≡◌, ◌≤◌, ◌-◌, None, length, replicate}
use Rattle.build_checks.proofs.KnownLaws.{Names}
use Rattle.build_checks.proofs.known.nothing.Given as goal

abbrev pub decreases-documents : goal.decreases-documents
decreases-documents l = l.fn.count - length l.known.items

abbrev pub invariant-documents : goal.invariant-documents
invariant-documents l =
    record {
      within : length l.known.items ≤ l.fn.count;
      none : l.known.items ≡ replicate {A = Names} (length l.known.items) None;
    }
