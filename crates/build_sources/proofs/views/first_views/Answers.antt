use Rattle.std.proofs.Common.{◌≡◌, ◌+◌, ◌++◌, ◌∷◌, [], List, length, length-append, sym, ap, subst, ◌∙◌, arith}
use Rattle.std.proofs.lemmas.Bool.{false≢true}
use Rattle.build_plan.specs.Rows.{OnCycle}
use Rattle.oberon_types.specs.declared.entity.View.{View}
use Rattle.oberon_types.specs.Entities.{cyclic_view}
use Rattle.oberon_types.specs.Memory.{plain_view}
use Rattle.build_sources.specs.Known.{view_at}
use Rattle.build_sources.proofs.KeptViews.{views_more}
use Rattle.build_sources.proofs.ListLaws.{cycle_within}
use Rattle.build_sources.proofs.views.first_views.Goals as goal
use Rattle.build_sources.proofs.views.first_views.Goals.{then-on_cycle, else-on_cycle}

pub loop-index-init : goal.loop-index-init
loop-index-init c = record { size = ap (λ (vs : List View). length vs) c.new-views.ensures.items; cyclic = λ p h. absurd (omega (arith, h)) }

pub loop-index-preserved : goal.loop-index-preserved
loop-index-preserved c =
    let rows = c.args.plan.now.rows in
    let views = c.loop-index.views.items in
    let i = c.loop-index.index in
    let view : View = c.if-on_cycle.push in
    let pushed : c.push.new.self.items ≡ views ++ view ∷ [] = c.in_ok-push.ensures.items in
    let one = length-append views (view ∷ []) in
    let size : length (views ++ view ∷ []) ≡ i + 1 = omega (arith, one, c.loop-index.invariant.size) in
    let this : OnCycle rows i → plain_view view ≡ cyclic_view = λ on.
    elim c.if-on_cycle.branch [
      | then-on_cycle w ↦ ap plain_view w.push-is
      | else-on_cycle w ↦ absurd (false≢true (sym w.if-on_cycle.false ∙ c.on_cycle.ensures.1 on))
    ] in
    record {
      size = ap (λ (vs : List View). length vs) pushed ∙ size;
      cyclic = λ p h on. subst (λ (vs : List View). view_at vs p ≡ cyclic_view) (sym pushed) (views_more rows views view i c.loop-index.invariant.size c.loop-index.invariant.cyclic this p h on);
    }

pub returns-clause-count : goal.returns-clause-count
returns-clause-count c = omega (arith, c.loop-index.invariant.size, c.loop-index-test.false, c.loop-index.auto.index-end)

pub returns-clause-cyclic : goal.returns-clause-cyclic
returns-clause-cyclic c = λ p on.
    let h = cycle_within c.args.plan.now.rows p on in
    c.loop-index.invariant.cyclic p (omega (arith, h, c.requires.rows, c.loop-index-test.false)) on
