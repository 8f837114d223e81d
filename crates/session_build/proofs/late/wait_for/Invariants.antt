use Rattle.session_build.specs.Late.{AddsLateOf}
use Rattle.session_build.proofs.late.wait_for.Given as goal

abbrev pub invariant-jobs : goal.invariant-jobs
invariant-jobs l = AddsLateOf l.checks l.yielded l.initial.late.items l.late.items
