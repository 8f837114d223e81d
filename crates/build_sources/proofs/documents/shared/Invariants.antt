use Rattle.std.proofs.Common.{◌≡◌}
use Rattle.build_sources.specs.Documents.{shown_in}
use Rattle.build_sources.proofs.documents.shared.Given as goal

abbrev pub invariant-entries : goal.invariant-entries
invariant-entries l = shown_in l.shared.items ≡ l.yielded
