use Rattle.std.proofs.Common.{◌≡◌, length}
use Rattle.check_cache.proofs.same.same_imports.Given as goal

abbrev pub decreases-imports : goal.decreases-imports
decreases-imports l = length l.xs

abbrev pub invariant-imports : goal.invariant-imports
invariant-imports l =
    record {
      forth : l.xs ≡ l.ys → l.fn.a ≡ l.fn.b;
      back : l.fn.a ≡ l.fn.b → l.xs ≡ l.ys;
    }
