use Rattle.std.proofs.Common.{ℕ, List, [], length, sym, ap, subst, ◌∙◌, arith}
use Rattle.std.proofs.lemmas.List.{length-replicate}
use Rattle.build_plan.specs.Places.{Places}
use Rattle.build_plan.specs.Rows.{OnCycle}
use Rattle.oberon_types.specs.declared.entity.View.{View}
use Rattle.build_sources.specs.Sources.{world}
use Rattle.build_checks.proofs.BeginLaws.{begun, begun_numbers, wanted_are}
use Rattle.build_checks.specs.Numbers.{AreNumbers}
use Rattle.build_checks.specs.Stand.{AreSoFar, of_build}
use Rattle.build_checks.proofs.begin.begun.Goals as goal

pub returns-clause-modules : goal.returns-clause-modules
returns-clause-modules c = wanted_are c.in_ok-wanted.wanted.keys c.args.modules.now c.in_ok-wanted.ensures

pub returns-clause-taken : goal.returns-clause-taken
returns-clause-taken c = ap (λ (pl : Places). of_build c.in_ok-wanted.wanted.keys pl.given) c.in_ok-plan.ensures.2

pub returns-clause-settled : goal.returns-clause-settled
returns-clause-settled c = ap (λ (pl : Places). of_build c.in_ok-wanted.wanted.keys pl.finished) c.in_ok-plan.ensures.2

pub first_views-requires-clause-rows : goal.first_views-requires-clause-rows
first_views-requires-clause-rows c =
    let all = c.count-size.ensures.count in
    let size = c.in_ok-plan.ensures.1.size in
    let same = ap (λ (pl : Places). length pl.rows) c.in_ok-plan.ensures.2 in
    omega (arith, all, size, same)

pub first_views-requires-clause-few : goal.first_views-requires-clause-few
first_views-requires-clause-few c = let few = c.count-size.ensures.few in omega (arith, few)

pub returns-clause-checks : goal.returns-clause-checks
returns-clause-checks c =
    let w = world c.args.sources in
    let keys = c.in_ok-wanted.wanted.keys in
    let views : List View = c.in_ok-views.views.items in
    let numbers : List ℕ = c.in_ok-numbers.numbers.items in
    let plan_is = c.in_ok-plan.ensures.2 in
    let all = c.count-size.ensures.count in
    let count = ap (λ (ns : List ℕ). length ns) (c.in_ok-numbers.ensures.items_if_clones_equal (λ y e. e)) in
    record {
      sources = c.requires.sources;
      so_far = subst (λ (pl : Places). AreSoFar w keys pl views numbers) (sym plan_is)
          (begun w keys c.args.modules.now (wanted_are keys c.args.modules.now c.in_ok-wanted.ensures) c.requires.modules c.in_ok-plan.ensures.0 c.in_ok-plan.ensures.1 views
          (λ p on. c.in_ok-views.ensures.cyclic p (subst (λ (pl : Places). OnCycle pl.rows p) (sym plan_is) on))
          numbers (c.in_ok-views.ensures.count ∙ all) (count ∙ length-replicate _ _ ∙ all));
    }

pub returns-clause-numbers : goal.returns-clause-numbers
returns-clause-numbers c = λ known are.
    let w = world c.args.sources in
    let keys = c.in_ok-wanted.wanted.keys in
    let views : List View = c.in_ok-views.views.items in
    let first = c.args.first in
    let plan_is = c.in_ok-plan.ensures.2 in
    let all = c.count-size.ensures.count in
    subst (λ (xs : List ℕ). AreNumbers known w keys xs views c.in_ok-numbers.numbers.items first.out first.missing) (sym (ap (λ (pl : Places). of_build keys pl.finished) plan_is))
    (subst (λ (ns : List ℕ). AreNumbers known w keys [] views ns first.out first.missing) (sym (c.in_ok-numbers.ensures.items_if_clones_equal (λ y e. e)))
    (begun_numbers w keys c.args.modules.now (wanted_are keys c.args.modules.now c.in_ok-wanted.ensures) c.requires.modules c.in_ok-plan.ensures.0 c.in_ok-plan.ensures.1 views
    (λ p on. c.in_ok-views.ensures.cyclic p (subst (λ (pl : Places). OnCycle pl.rows p) (sym plan_is) on))
    known first.out first.missing first.cyclic _ all are.for_out are.for_missing are.for_cyclic))
