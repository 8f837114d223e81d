use Rattle.std.proofs.Common.{◌≡◌, length}
use Rattle.clean_build.proofs.build.no_lists.Given as goal

abbrev pub invariant-loop : goal.invariant-loop
invariant-loop l = length l.lists.items ≡ l.counter
