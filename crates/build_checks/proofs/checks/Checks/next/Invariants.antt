use Rattle.std.proofs.Common.{◌≡◌, ◌≤◌, ◌-◌, length}
use Rattle.build_sources.specs.Sources.{world}
use Rattle.build_checks.specs.Stand.{AreSoFar, of_build}
use Rattle.build_checks.proofs.checks.Checks.next.Given as goal

abbrev pub invariant-places : goal.invariant-places
invariant-places l =
    record {
      same : l.self ≡ record l.fn.self { plan = l.self.plan };
      so_far : AreSoFar (world l.fn.self.sources) l.fn.self.wanted.keys l.self.plan l.fn.self.views.items l.fn.self.numbers.items;
      rows : l.self.plan.rows ≡ l.fn.self.plan.rows;
      given : of_build l.fn.self.wanted.keys l.self.plan.given ≡ of_build l.fn.self.wanted.keys l.fn.self.plan.given;
      finished : of_build l.fn.self.wanted.keys l.self.plan.finished ≡ of_build l.fn.self.wanted.keys l.fn.self.plan.finished;
      further : length l.fn.self.plan.given ≤ length l.self.plan.given;
    }

abbrev pub decreases-places : goal.decreases-places
decreases-places l = length l.self.plan.rows - length l.self.plan.given
