use Rattle.std.proofs.Common.{◌≡◌, ◌<◌, ◌-◌, ◌∷◌, [], ℕ, List, length, length-append, sym, ap, subst, ◌∙◌, arith}
use Rattle.std.specs.Prelude.{Contains, Vec, ◌==◌}
use Rattle.std.specs.List.{list_any}
use Rattle.std.specs.declared.alloc.Global.{Global}
use Rattle.std.proofs.lemmas.Bool.{false≢true}
use Rattle.std.proofs.lemmas.List.{length-map}
use Rattle.std.proofs.lemmas.List.Elements.{Contains-push}
use Rattle.build_plan.specs.Lists.{lists}
use Rattle.build_plan.specs.Places.{Places, with_finished, with_given}
use Rattle.build_plan.specs.Rows.{OnCycle}
use Rattle.oberon_types.specs.declared.entity.View.{View}
use Rattle.build_rules.specs.Views.{HasView}
use Rattle.clean_build.proofs.SoFar.{IsSoFar}
use Rattle.clean_build.specs.Build.{Slots}
use Rattle.build_sources.specs.Known.{view_at}
use Rattle.build_sources.specs.Sources.{world}
use Rattle.clean_build.proofs.BuildLaws.{all_listed, given_few, imports_seen}
use Rattle.build_sources.proofs.KeptViews.{later_views}
use Rattle.build_sources.proofs.RowLaws.{rows_within}
use Rattle.clean_build.proofs.KeptLaws.{begun, kept_on, passed_on}
use Rattle.build_sources.proofs.ListLaws.{any_listed, listed_any}
use Rattle.clean_build.proofs.build.check_all.Goals as goal
use Rattle.clean_build.proofs.build.check_all.Goals.{then-contains+in_ok-checked, else-contains}

pub new-requires-clause-within : goal.new-requires-clause-within
new-requires-clause-within c = rows_within (world c.args.sources.now) (lists c.in_ok-rows.field-0) c.in_ok-rows.ensures

pub new-requires-clause-few : goal.new-requires-clause-few
new-requires-clause-few c =
    let size = c.in_ok-rows.ensures.size in
    let items = length-map c.in_ok-rows.field-0.items (λ (row : Vec ℕ Global). row.items) in
    let all = c.count-size.ensures.count in
    let few = c.count-size.ensures.few in
    omega (arith, size, items, all, few)

pub modules-init : goal.modules-init
modules-init c =
    let w = world c.args.sources.now in
    let rows = lists c.in_ok-rows.field-0 in
    let views = c.in_ok-views.views.items in
    let slots : Slots = c.in_ok-lists.lists.items in
    let all = c.count-size.ensures.count in
    subst (λ (pl : Places). IsSoFar w c.args.modules.now pl views slots) (sym c.in_ok-plan.ensures)
    (begun w c.args.modules.now rows c.in_ok-rows.ensures views slots (c.in_ok-views.ensures.count ∙ all) (c.in_ok-lists.ensures ∙ all)
    (λ p on. c.in_ok-views.ensures.cyclic p (subst (λ (pl : Places). OnCycle pl.rows p) (sym c.in_ok-plan.ensures) on)))

pub check-requires-clause-within : goal.check-requires-clause-within
check-requires-clause-within c =
    let h = c.in-Some.ensures.least.ready.within in
    let size = c.modules.invariant.rows.size in
    omega (arith, h, size)

pub check-requires-clause-all : goal.check-requires-clause-all
check-requires-clause-all c = ap (λ (vs : List View). length vs) c.as_slice.ensures.value ∙ c.modules.invariant.kept_all

pub check-requires-clause-known : goal.check-requires-clause-known
check-requires-clause-known c = λ q i.
    let w = world c.args.sources.now in
    let m = c.in-Some.module in
    let modules = c.args.modules.now in
    let among : Contains modules m = any_listed m modules (sym (c.in_ok-wanted.ensures m) ∙ sym c.contains.ensures ∙ c.if-contains.true) in
    subst (λ (vs : List View). HasView w q (view_at vs q)) (sym c.as_slice.ensures.value)
    (imports_seen w modules c.modules.plan m c.modules.views.items c.modules.lists.items c.modules.invariant c.in-Some.ensures.least.ready c.requires.modules among q i)

pub keep-requires-clause-viewed : goal.keep-requires-clause-viewed
keep-requires-clause-viewed c =
    let h = c.in-Some.ensures.least.ready.within in
    let size = c.modules.invariant.rows.size in
    let all = c.modules.invariant.kept_all in
    omega (arith, h, size, all)

pub keep-requires-clause-listed : goal.keep-requires-clause-listed
keep-requires-clause-listed c =
    let h = c.in-Some.ensures.least.ready.within in
    let size = c.modules.invariant.rows.size in
    let all = c.modules.invariant.sized in
    omega (arith, h, size, all)

pub finish-requires-clause-given : goal.finish-requires-clause-given
finish-requires-clause-given c = subst (λ (pl : Places). Contains pl.given c.in-Some.module) (sym c.in-Some.ensures.given) (Contains-push c.modules.plan.given c.in-Some.module)

pub finish-requires-clause-unfinished : goal.finish-requires-clause-unfinished
finish-requires-clause-unfinished c = λ f.
    c.in-Some.ensures.least.ready.is_new (c.modules.invariant.only c.in-Some.module (subst (λ (pl : Places). Contains pl.finished c.in-Some.module) c.in-Some.ensures.given f))

finished : (c : goal.After-finish) → c.finish.new.self ≡ with_finished (with_given c.modules.plan c.in-Some.module) c.in-Some.module
finished c = c.finish.ensures ∙ ap (λ (pl : Places). with_finished pl c.in-Some.module) c.in-Some.ensures.given

pub modules-smaller : goal.modules-smaller
modules-smaller c =
    let pl = c.modules.plan in
    let m = c.in-Some.module in
    let few = given_few (world c.args.sources.now) c.args.modules.now pl m c.modules.views.items c.modules.lists.items c.modules.invariant c.in-Some.ensures.least.ready in
    let one = length-append pl.given (m ∷ []) in
    subst (λ (after : Places). length after.rows - length after.given < length pl.rows - length pl.given) (sym (finished c)) (omega (arith, few, one))

pub modules-preserved : goal.modules-preserved
modules-preserved c =
    let w = world c.args.sources.now in
    let modules = c.args.modules.now in
    let pl = c.modules.plan in
    let m = c.in-Some.module in
    let views = c.modules.views.items in
    let slots : Slots = c.modules.lists.items in
    let far = c.modules.invariant in
    let ready = c.in-Some.ensures.least.ready in
    let after = with_finished (with_given pl m) m in
    let wanted : list_any (λ n. n == m) modules ≡ c.contains.result = sym (c.in_ok-wanted.ensures m) ∙ sym c.contains.ensures in
    subst (λ (p : Places). IsSoFar w modules p c.if-contains.views.items c.if-contains.lists.items) (sym (finished c))
    (elim c.if-contains.branch [
      | then-contains+in_ok-checked v ↦
          let cyclic = v.on_cycle.result in
          let found = v.in_ok-checked.checked in
          rw v.views-is
          (rw v.lists-is
          (subst (λ (vs : List View). IsSoFar w modules after vs v.keep.new.slots.items) (sym v.keep.ensures.views)
          (subst (λ (ss : Slots). IsSoFar w modules after (later_views cyclic views m found.view) ss) (sym v.keep.ensures.slots)
          (kept_on w modules pl m views slots far ready cyclic
          (let on = v.on_cycle.ensures in ((λ t. subst (λ (p : Places). OnCycle p.rows m) c.in-Some.ensures.given (on.0 t)), (λ o. on.1 (subst (λ (p : Places). OnCycle p.rows m) (sym c.in-Some.ensures.given) o))))
          found.view found.list v.in_ok-checked.ensures.list v.in_ok-checked.ensures.view))))
      | else-contains v ↦
          rw v.views-is
          (rw v.lists-is
          (passed_on w modules pl m views slots far ready (λ among. false≢true (sym (wanted ∙ v.if-contains.false) ∙ listed_any m modules among))))
    ])

pub returns : goal.returns
returns c =
    all_listed (world c.args.sources.now) c.args.modules.now c.modules.plan c.modules.views.items c.modules.lists.items c.modules.invariant c.in_default.ensures.none c.requires.modules
