use Rattle.std.proofs.Common.{◌≡◌, length}
use Rattle.build_sources.specs.Documents.{AreKnown}
use Rattle.build_checks.proofs.known.known_imports.Given as goal

abbrev pub invariant-loop-pair : goal.invariant-loop-pair
invariant-loop-pair l =
    record {
      size : length l.known.items ≡ length l.fn.entries;
      are : AreKnown l.fn.entries l.known.items;
    }
