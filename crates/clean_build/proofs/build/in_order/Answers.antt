use Rattle.std.proofs.Common.{◌≡◌, ◌+◌, ◌++◌, ◌<◌, ◌∷◌, [], ℕ, List, Option, None, length, get_or, take, sym, ap, subst, ◌∙◌, arith}
use Rattle.std.specs.Prelude.{Vec}
use Rattle.std.specs.List.{slice_index_or, slice_set}
use Rattle.std.specs.declared.alloc.Global.{Global}
use Rattle.std.proofs.lemmas.List.{get_or_default, map-append, take_all, take_more}
use Rattle.build_plan.specs.Lists.{lists, lists_of}
use Rattle.ob_text.specs.declared.diagnostic.Diagnostic.{Diagnostic}
use Rattle.build_rules.specs.Views.{AreLists, HasList}
use Rattle.clean_build.specs.Build.{HasListAt, IsListOf, Slots}
use Rattle.build_sources.specs.Sources.{world}
use Rattle.clean_build.proofs.OrderLaws.{left_on, list_within, lists_more, next_left}
use Rattle.clean_build.proofs.build.in_order.Goals as goal

pub loop-module-init : goal.loop-module-init
loop-module-init c =
    record {
      found = subst (λ (xs : List (Vec Diagnostic Global)). AreLists (world c.args.sources.now) [] (lists_of xs)) (sym c.new-found.ensures.items) tt;
      left = c.in_ok-slots.ensures;
    }

-- the module at an index, as the code and as the laws read it
read : (modules : List ℕ) (i : ℕ) → i < length modules → slice_index_or modules i 0 ≡ get_or modules i (slice_index_or modules i 0)
read modules i h = get_or_default modules i 0 (slice_index_or modules i 0) h

pub index_mut-requires : goal.index_mut-requires
index_mut-requires c =
    let modules = c.args.modules.now in
    let i = c.loop-module.module-index in
    let m = slice_index_or modules i 0 in
    let h = c.loop-module-test.true in
    let within = list_within (world c.args.sources.now) c.loop-module.slots.items m (c.loop-module.invariant.left m (next_left modules i m h (read modules i h))) in
    omega (arith, within, c.loop-module.slots.ok.0)

pub unreachable-requires : goal.unreachable-requires
unreachable-requires c =
    let w = world c.args.sources.now in
    let modules = c.args.modules.now in
    let i = c.loop-module.module-index in
    let m = slice_index_or modules i 0 in
    let h = c.loop-module-test.true in
    let slots : Slots = c.loop-module.slots.items in
    let list = c.loop-module.invariant.left m (next_left modules i m h (read modules i h)) in
    let slot = get_or_default slots m None _ (list_within w slots m list) ∙ sym c.index_mut.ensures.value ∙ sym c.take.ensures.value in
    subst (IsListOf w m) (slot ∙ c.in-None.is) list

pub loop-module-preserved : goal.loop-module-preserved
loop-module-preserved c =
    let w = world c.args.sources.now in
    let modules = c.args.modules.now in
    let i = c.loop-module.module-index in
    let m = slice_index_or modules i 0 in
    let h = c.loop-module-test.true in
    let slots : Slots = c.loop-module.slots.items in
    let list = c.loop-module.invariant.left m (next_left modules i m h (read modules i h)) in
    let slot = get_or_default slots m None _ (list_within w slots m list) ∙ sym c.index_mut.ensures.value ∙ sym c.take.ensures.value in
    let one : HasList w m c.in-Some.list.items = subst (IsListOf w m) (slot ∙ c.in-Some.is) list in
    let more : take (i + 1) modules ≡ take i modules ++ m ∷ [] = take_more modules i m h ∙ ap (λ k. take i modules ++ k ∷ []) (sym (read modules i h)) in
    let pushed : lists c.push.new.self ≡ lists c.loop-module.found ++ c.in-Some.list.items ∷ [] =
    ap (λ (xs : List (Vec Diagnostic Global)). lists_of xs) c.in_ok-push-in-Some.ensures.items ∙ map-append (λ (row : Vec Diagnostic Global). row.items) c.loop-module.found.items (c.in-Some.list ∷ []) in
    record {
      found = subst (λ (ps : List ℕ). AreLists w ps (lists c.push.new.self)) (sym more)
          (subst (λ (ls : List (List Diagnostic)). AreLists w (take i modules ++ m ∷ []) ls) (sym pushed)
          (lists_more w (take i modules) (lists c.loop-module.found) m c.in-Some.list.items c.loop-module.invariant.found one));
      left = λ p listed. subst (λ (o : Option (Vec Diagnostic Global)). HasListAt w (slice_set slots m o) p) (sym c.take.ensures.after)
          (left_on w slots modules i m c.requires.modules.distinct h (read modules i h) c.loop-module.invariant.left p listed);
    }

pub returns : goal.returns
returns c =
    subst (λ (ps : List ℕ). AreLists (world c.args.sources.now) ps (lists c.loop-module.found)) (take_all c.loop-module.module-index c.args.modules.now (omega (arith, c.loop-module-test.false))) c.loop-module.invariant.found
