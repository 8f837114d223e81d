use Rattle.std.proofs.Common.{◌-◌, length}
use Rattle.clean_build.proofs.SoFar.{IsSoFar}
use Rattle.build_sources.specs.Sources.{world}
use Rattle.clean_build.proofs.build.check_all.Given as goal

abbrev pub invariant-modules : goal.invariant-modules
invariant-modules l = IsSoFar (world l.fn.sources) l.fn.modules l.plan l.views.items l.lists.items

abbrev pub decreases-modules : goal.decreases-modules
decreases-modules l = length l.plan.rows - length l.plan.given
