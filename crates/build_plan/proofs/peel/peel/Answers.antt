use Rattle.std.proofs.Common.{Contains, sym, subst, ap, ◌∙◌}
use Rattle.std.proofs.lemmas.List.Elements.{Contains-push}
use Rattle.build_plan.specs.Front.{Stand, stand_finished}
use Rattle.build_plan.proofs.PlanLaws.{IsPeeling, not_finished, peeling_more}
use Rattle.build_plan.proofs.peel.peel.Goals as goal

pub finish-requires-clause-given : goal.finish-requires-clause-given
finish-requires-clause-given c =
    subst (λ (s : Stand). Contains s.given c.in-Some.place) (sym c.in-Some.ensures.given) (Contains-push c.loop-place.front.given c.in-Some.place)

pub finish-requires-clause-unfinished : goal.finish-requires-clause-unfinished
finish-requires-clause-unfinished c =
    subst (λ (s : Stand). ¬ (Contains s.finished c.in-Some.place)) (sym c.in-Some.ensures.given)
    (not_finished c.args.links c.loop-place.front c.loop-place.invariant c.in-Some.place c.in-Some.ensures.least.free)

pub loop-place-preserved : goal.loop-place-preserved
loop-place-preserved c =
    subst (IsPeeling c.args.links) (sym (c.finish.ensures ∙ ap (λ (s : Stand). stand_finished s c.in-Some.place) c.in-Some.ensures.given))
    (peeling_more c.args.links c.loop-place.front c.loop-place.invariant c.in-Some.place c.in-Some.ensures.least.free)
