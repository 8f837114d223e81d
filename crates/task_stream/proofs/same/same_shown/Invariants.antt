use Rattle.std.proofs.Common.{◌≡◌, length, map}
use Rattle.bsp_records.specs.Shown.{shown}
use Rattle.task_stream.proofs.same.same_shown.Given as goal

abbrev pub decreases-diagnostics : goal.decreases-diagnostics
decreases-diagnostics l = length l.xs

abbrev pub invariant-diagnostics : goal.invariant-diagnostics
invariant-diagnostics l =
    record {
      forth : map shown l.xs ≡ map shown l.ys → map shown l.fn.a ≡ map shown l.fn.b;
      back : map shown l.fn.a ≡ map shown l.fn.b → map shown l.xs ≡ map shown l.ys;
    }
