use Rattle.std.proofs.Common.{◌≡◌, ◌+◌, take}
use Rattle.session_law.specs.Course.{count_errors, count_warnings}
use Rattle.session_build.proofs.tally.counted.Given as goal

abbrev pub invariant-loop-diagnostic : goal.invariant-loop-diagnostic
invariant-loop-diagnostic l =
    record {
      errors : l.errors ≡ count_errors (take l.diagnostic-index l.list);
      warnings : l.warnings ≡ count_warnings (take l.diagnostic-index l.list);
      few : l.errors + l.warnings ≡ l.diagnostic-index;
    }
