use Rattle.std.proofs.Common.{◌≤◌, length, drop}
use Rattle.build_sources.specs.Documents.{AreRead, shown_in}
use Rattle.build_sources.proofs.documents.read_all.Given as goal

abbrev pub decreases-entries : goal.decreases-entries
decreases-entries l = l.left

abbrev pub invariant-entries : goal.invariant-entries
invariant-entries l =
    record {
      within : l.left ≤ length l.fn.entries;
      read : AreRead (shown_in (drop l.left l.fn.entries)) l.by_path;
    }
