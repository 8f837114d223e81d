use Rattle.std.proofs.Common.{◌≡◌, ◌<◌, ◌≤◌, ◌+◌, List, ℕ, length, get_or, All, ap, sym, subst, ◌∙◌, arith}
use Rattle.std.proofs.lemmas.List.{length-replicate}
use Rattle.target_graph.specs.declared.target.Target.{Target}
use Rattle.target_graph.specs.Met.{met}
use Rattle.target_graph.specs.Walk.{Met, meet_all}
use Rattle.target_graph.proofs.WalkLaws.{IsOnWay, set_off, met_within, go_on, arrive, few_met, inside_marks}
use Rattle.target_graph.proofs.walk.reached.Goals as goal

pub meet_all-requires : goal.meet_all-requires
meet_all-requires c = λ k d h.
    let size : length c.in_ok-walk.walk.marks.items ≡ length c.args.targets.now =
    ap (λ (m : Met). length m.marks) c.in_ok-walk.ensures ∙ length-replicate (length c.args.targets.now) _ in
    subst (λ n. get_or c.args.asked.now k d < n) (sym size) (c.requires.asked k d h)

pub walk-init : goal.walk-init
walk-init c =
    let targets = c.args.targets.now in
    let asked = c.args.asked.now in
    subst (λ (m : Met). IsOnWay targets asked m 0) (sym (c.in_ok-meet_all.ensures ∙ ap (λ (m : Met). meet_all m asked) c.in_ok-walk.ensures))
    (set_off targets asked c.requires.asked)

pub bounds-targets-index : goal.bounds-targets-index
bounds-targets-index c =
    let h : c.walk.at < length c.walk.walk.order.items = omega (arith, c.len.ensures, c.walk.walk.order.ok.0) in
    met_within c.args.targets.now c.args.asked.now (met c.walk.walk) c.walk.at c.index.result.now c.walk.invariant h c.index.ensures

pub meet_all-requires-in-walk : goal.meet_all-requires-in-walk
meet_all-requires-in-walk c =
    let h : c.walk.at < length c.walk.walk.order.items = omega (arith, c.len.ensures, c.walk.walk.order.ok.0) in
    let size = met_within c.args.targets.now c.args.asked.now (met c.walk.walk) c.walk.at c.index.result.now c.walk.invariant h c.index.ensures in
    subst (λ (xs : List ℕ). All (λ d. d < length c.walk.walk.marks.items) xs) (sym (c.as_slice.ensures ∙ ap (λ (x : Target). x.dependencies) (sym c.index-targets-index.is)))
    (inside_marks c.args.targets.now c.args.asked.now (met c.walk.walk) c.walk.at c.index.result.now c.index-targets-index.result
    c.requires.closed c.walk.invariant size c.index-targets-index.is)

pub walk-preserved : goal.walk-preserved
walk-preserved c =
    let targets = c.args.targets.now in
    let asked = c.args.asked.now in
    let h : c.walk.at < length c.walk.walk.order.items = omega (arith, c.len.ensures, c.walk.walk.order.ok.0) in
    subst (λ (m : Met). IsOnWay targets asked m (c.walk.at + 1)) (sym (c.in_ok-meet_all-2.ensures ∙ ap (meet_all (met c.walk.walk)) (c.as_slice.ensures ∙ ap (λ (x : Target). x.dependencies) (sym c.index-targets-index.is))))
    (go_on targets asked (met c.walk.walk) c.walk.at c.index.result.now c.index-targets-index.result
    c.requires.closed c.walk.invariant h c.index.ensures c.index-targets-index.is)

pub walk-smaller : goal.walk-smaller
walk-smaller c =
    let h : c.walk.at < length c.walk.walk.order.items = omega (arith, c.len.ensures, c.walk.walk.order.ok.0) in
    let few = few_met c.args.targets.now c.args.asked.now (met c.walk.walk) c.walk.at c.walk.invariant in
    omega (arith, h, few)

pub returns : goal.returns
returns c =
    let h : length c.walk.walk.order.items ≤ c.walk.at = omega (arith, c.len.ensures, c.walk.walk.order.ok.0) in
    arrive c.args.targets.now c.args.asked.now (met c.walk.walk) c.walk.at c.walk.invariant h
