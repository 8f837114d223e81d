use Rattle.std.proofs.Common.{◌≢◌}
use Rattle.std.specs.List.{AllPairs}
use Rattle.session_build.specs.Going.{pairs_made}
use Rattle.session_build.specs.Storing.{StoresAll}
use Rattle.session_build.proofs.storing.store_all.Given as goal

abbrev pub invariant-made : goal.invariant-made
invariant-made l = AllPairs ◌≢◌ (pairs_made l.fn.made.items) → StoresAll l.workspace l.yielded l.initial.cache l.cache
