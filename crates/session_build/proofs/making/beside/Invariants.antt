use Rattle.std.proofs.Common.{◌≡◌, take}
use Rattle.check_cache.specs.Facts.{names_of}
use Rattle.session_build.proofs.making.beside.Given as goal

abbrev pub invariant-loop-index : goal.invariant-loop-index
invariant-loop-index l =
    record {
      names : names_of l.own.items ≡ take l.index l.names;
      same : names_of l.imports ≡ l.names → l.own.items ≡ take l.index l.imports;
    }
