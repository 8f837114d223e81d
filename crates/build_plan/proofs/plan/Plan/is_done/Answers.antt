use Rattle.std.proofs.Common.{◌↔◌, IsTrue, subst}
use Rattle.build_plan.specs.Places.{Places, IsDone}
use Rattle.build_plan.proofs.plan.Plan.is_done.Goals as goal

pub returns : goal.returns
returns c = subst (λ (s : Places). IsTrue c.is_done.result ↔ IsDone s) c.self.view_is c.is_done.ensures
