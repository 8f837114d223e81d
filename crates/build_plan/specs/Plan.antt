-- What a plan keeps, and what contracts see of it.
use Rattle.build_plan.specs.declared.plan.Plan.TheInside.{Inside}
use Rattle.build_plan.specs.Places.{Places}
use Rattle.build_plan.specs.Cycles.{AreCyclic}

abbrev pub places : Inside → Places
places plan = record { rows = plan.front.rows; given = plan.front.given; finished = plan.front.finished }

pub record IsPlan (plan : Inside) : Type 0 where
  pub cyclic : AreCyclic plan.front.rows plan.front.spared
