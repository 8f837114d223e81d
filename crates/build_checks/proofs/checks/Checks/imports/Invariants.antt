use Rattle.std.proofs.Common.{◌≡◌, ℕ, List, take}
use Rattle.std.specs.Prelude.{All}
use Rattle.check_cache.specs.Facts.{names_of}
use Rattle.build_checks.specs.Kept.{IsNumbered}
use Rattle.build_checks.specs.Numbers.{AreNumbersOf}
use Rattle.build_checks.specs.Stand.{world_of}
use Rattle.build_checks.proofs.checks.Checks.imports.Given as goal

abbrev pub invariant-loop-name : goal.invariant-loop-name
invariant-loop-name l =
    record {
      names : names_of l.numbered.items ≡ take l.name-index l.names;
      each : (keys : List (List ℕ)) → AreNumbersOf keys l.fn.self → All (IsNumbered keys (world_of l.fn.self) l.fn.index) l.numbered.items;
    }
