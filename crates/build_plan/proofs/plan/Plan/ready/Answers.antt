use Rattle.std.proofs.Common.{ℕ, Option, Some, None, IfSome, subst}
use Rattle.std.specs.Option.{IfNone}
use Rattle.std.proofs.lemmas.Option.{IfSome_then}
use Rattle.build_plan.specs.Places.{Places, IsReady, IsLeastReady}
use Rattle.build_plan.proofs.PlanLaws.{least_ready, none_ready}
use Rattle.build_plan.proofs.plan.Plan.ready.Goals as goal

none_then : (o : Option ℕ) (P Q : Type 0) → (P → Q) → IfNone o P → IfNone o Q
none_then None P Q f h = f h
none_then (Some x) P Q f h = h

pub returns-clause-least : goal.returns-clause-least
returns-clause-least c =
    subst (λ (s : Places). IfSome c.next.result (IsLeastReady s)) c.self.view_is
    (IfSome_then c.next.result c.next.ensures.least (least_ready c.self.inside.front c.self.invariant.cyclic))

pub returns-clause-none : goal.returns-clause-none
returns-clause-none c =
    subst (λ (s : Places). IfNone c.next.result ((place : ℕ) → ¬ (IsReady s place))) c.self.view_is
    (none_then c.next.result _ _ (none_ready c.self.inside.front c.self.invariant.cyclic) c.next.ensures.none)
