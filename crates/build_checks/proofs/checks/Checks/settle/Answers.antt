use Rattle.std.proofs.Common.{◌≡◌, ◌++◌, ◌∷◌, [], ◌-◌, ℕ, List, Some, length, sym, ap, subst, ◌∙◌, arith}
use Rattle.std.specs.Prelude.{slice_get}
use Rattle.std.specs.List.{slice_set}
use Rattle.std.proofs.lemmas.Bool.{false≢true}
use Rattle.build_plan.specs.Places.{Places, with_finished}
use Rattle.iface_key.specs.Keys.{key_of_view}
use Rattle.oberon_types.specs.declared.entity.View.{View}
use Rattle.oberon_types.specs.Memory.{plain_view}
use Rattle.build_rules.specs.Views.{HasView}
use Rattle.build_rules.specs.World.{IsCyclic}
use Rattle.build_sources.proofs.ImportLaws.{cyclic_rows}
use Rattle.build_checks.proofs.ListLaws.{build_listed, build_push, listed_build}
use Rattle.build_checks.proofs.NumberLaws.{before_cyclic, before_view, numbers_cyclic, numbers_on, numbers_view, settled_cyclic, settled_view}
use Rattle.build_checks.specs.Numbers.{AreNumbers}
use Rattle.build_checks.specs.Stand.{AreSoFar, of_build, settled_of, world_of}
use Rattle.build_checks.proofs.checks.Checks.settle.Goals as goal

pub on_cycle-requires : goal.on_cycle-requires
on_cycle-requires c = c.requires.checks.so_far.below c.args.index (build_listed c.args.self.now.wanted.keys c.args.self.now.plan.given c.args.index c.requires.taken).0

pub finish-requires-clause-given : goal.finish-requires-clause-given
finish-requires-clause-given c = (build_listed c.args.self.now.wanted.keys c.args.self.now.plan.given c.args.index c.requires.taken).0

pub finish-requires-clause-unfinished : goal.finish-requires-clause-unfinished
finish-requires-clause-unfinished c = λ f.
    let s = c.args.self.now in
    c.requires.unsettled (listed_build s.wanted.keys s.plan.finished c.args.index f (build_listed s.wanted.keys s.plan.given c.args.index c.requires.taken).1)

pub finish-requires-2-clause-given : goal.finish-requires-2-clause-given
finish-requires-2-clause-given c = (build_listed c.args.self.now.wanted.keys c.args.self.now.plan.given c.args.index c.requires.taken).0

pub finish-requires-2-clause-unfinished : goal.finish-requires-2-clause-unfinished
finish-requires-2-clause-unfinished c = λ f.
    let s = c.args.self.now in
    c.requires.unsettled (listed_build s.wanted.keys s.plan.finished c.args.index f (build_listed s.wanted.keys s.plan.given c.args.index c.requires.taken).1)

-- ---- a module on a cycle

pub returns-then-on_cycle-clause-checks : goal.returns-then-on_cycle-clause-checks
returns-then-on_cycle-clause-checks c =
    let s = c.args.self.now in
    let m = c.args.index in
    let at = build_listed s.wanted.keys s.plan.given m c.requires.taken in
    record {
      sources = c.requires.checks.sources;
      so_far = subst (λ (x : Places). AreSoFar (world_of s) s.wanted.keys x s.views.items s.numbers.items) (sym c.finish.ensures)
          (settled_cyclic (world_of s) s.wanted.keys s.plan s.views.items s.numbers.items c.requires.checks.so_far m at.0);
    }

pub returns-then-on_cycle-clause-taken : goal.returns-then-on_cycle-clause-taken
returns-then-on_cycle-clause-taken c = ap (λ (x : Places). of_build c.args.self.now.wanted.keys x.given) c.finish.ensures

pub returns-then-on_cycle-clause-left : goal.returns-then-on_cycle-clause-left
returns-then-on_cycle-clause-left c = ap (λ (x : Places). length x.rows - length x.given) c.finish.ensures

settled_then : (c : goal.After-finish) → of_build c.args.self.now.wanted.keys c.finish.new.self.finished ≡ settled_of c.args.self.now ++ c.args.index ∷ []
settled_then c =
    let s = c.args.self.now in
    let at = build_listed s.wanted.keys s.plan.given c.args.index c.requires.taken in
    ap (λ (x : Places). of_build s.wanted.keys x.finished) c.finish.ensures ∙ build_push s.wanted.keys s.plan.finished c.args.index at.1

pub returns-then-on_cycle-clause-settled : goal.returns-then-on_cycle-clause-settled
returns-then-on_cycle-clause-settled c = settled_then c

pub returns-then-on_cycle-clause-numbers : goal.returns-then-on_cycle-clause-numbers
returns-then-on_cycle-clause-numbers c = λ shown are.
    let s = c.args.self.now in
    let m = c.args.index in
    let at = build_listed s.wanted.keys s.plan.given m c.requires.taken in
    subst (λ (xs : List ℕ). AreNumbers c.args.keys.now (world_of s) s.wanted.keys xs s.views.items s.numbers.items s.out s.missing) (sym (settled_then c))
    (numbers_cyclic c.args.keys.now (world_of s) s.wanted.keys (settled_of s) s.views.items s.numbers.items s.out s.missing are m
    ((cyclic_rows (world_of s) s.plan.rows c.requires.checks.so_far.rows m).0 (c.on_cycle.ensures.0 c.if-on_cycle.true)))

-- ---- another one

pub put-requires-clause-viewed : goal.put-requires-clause-viewed
put-requires-clause-viewed c =
    let s = c.args.self.now in
    let far = c.requires.checks.so_far in
    let h = far.within c.args.index (build_listed s.wanted.keys s.plan.given c.args.index c.requires.taken).1 in
    let size = far.kept_all in
    omega (arith, h, size)

pub put-requires-clause-numbered : goal.put-requires-clause-numbered
put-requires-clause-numbered c =
    let s = c.args.self.now in
    let far = c.requires.checks.so_far in
    let h = far.within c.args.index (build_listed s.wanted.keys s.plan.given c.args.index c.requires.taken).1 in
    let size = far.numbered_all in
    omega (arith, h, size)

pub returns-clause-checks : goal.returns-clause-checks
returns-clause-checks c =
    let s = c.args.self.now in
    let w = world_of s in
    let m = c.args.index in
    let far = c.requires.checks.so_far in
    let at = build_listed s.wanted.keys s.plan.given m c.requires.taken in
    record {
      sources = c.requires.checks.sources;
      so_far =
          subst (λ (x : Places). AreSoFar w s.wanted.keys x c.put.new.views.items c.put.new.numbers.items) (sym c.finish-2.ensures)
          (subst (λ (vs : List View). AreSoFar w s.wanted.keys (with_finished s.plan m) vs c.put.new.numbers.items) (sym c.put.ensures.views)
          (subst (AreSoFar w s.wanted.keys (with_finished s.plan m) (slice_set s.views.items m c.in_ok-own.own)) (sym c.put.ensures.numbers)
          (settled_view w s.wanted.keys s.plan s.views.items s.numbers.items far m at.0 c.in_ok-own.own c.in_ok-number.number)));
    }

pub returns-clause-taken : goal.returns-clause-taken
returns-clause-taken c = ap (λ (x : Places). of_build c.args.self.now.wanted.keys x.given) c.finish-2.ensures

pub returns-clause-left : goal.returns-clause-left
returns-clause-left c = ap (λ (x : Places). length x.rows - length x.given) c.finish-2.ensures

pub returns-clause-settled : goal.returns-clause-settled
returns-clause-settled c =
    let s = c.args.self.now in
    let at = build_listed s.wanted.keys s.plan.given c.args.index c.requires.taken in
    ap (λ (x : Places). of_build s.wanted.keys x.finished) c.finish-2.ensures ∙ build_push s.wanted.keys s.plan.finished c.args.index at.1

pub returns-clause-numbers : goal.returns-clause-numbers
returns-clause-numbers c = λ shown are.
    let s = c.args.self.now in
    let w = world_of s in
    let m = c.args.index in
    let acyclic : ¬ (IsCyclic w m) = λ cycle. false≢true (sym c.if-on_cycle.false ∙ c.on_cycle.ensures.1 ((cyclic_rows w s.plan.rows c.requires.checks.so_far.rows m).1 cycle)) in
    let has : HasView w m (plain_view c.in_ok-own.own) = subst (HasView w m) (sym c.in_ok-own.ensures) (shown acyclic) in
    let keys = c.intern.new.self in
    let far = c.requires.checks.so_far in
    let at = build_listed s.wanted.keys s.plan.given m c.requires.taken in
    let h = far.within m at.1 in
    let size = far.kept_all in
    let count = far.numbered_all in
    let own : View = c.in_ok-own.own in
    let number = c.in_ok-number.number in
    let key : slice_get keys number ≡ Some (key_of_view (plain_view own)) =
    c.in_ok-number.ensures.number ∙ ap Some (c.in_ok-key_of.ensures ∙ ap key_of_view (sym c.in_ok-own.ensures)) in
    subst (λ (xs : List ℕ). AreNumbers keys w s.wanted.keys xs c.put.new.views.items c.put.new.numbers.items s.out s.missing)
    (sym (ap (λ (x : Places). of_build s.wanted.keys x.finished) c.finish-2.ensures ∙ build_push s.wanted.keys s.plan.finished m at.1))
    (subst (λ (vs : List View). AreNumbers keys w s.wanted.keys (settled_of s ++ m ∷ []) vs c.put.new.numbers.items s.out s.missing) (sym c.put.ensures.views)
    (subst (λ (ns : List ℕ). AreNumbers keys w s.wanted.keys (settled_of s ++ m ∷ []) (slice_set s.views.items m own) ns s.out s.missing) (sym c.put.ensures.numbers)
    (numbers_view keys w s.wanted.keys (settled_of s) s.views.items s.numbers.items s.out s.missing
    (numbers_on c.args.keys.now w s.wanted.keys (settled_of s) s.views.items s.numbers.items s.out s.missing are keys c.in_ok-number.ensures.earlier)
    m own number (omega (arith, h, size)) (omega (arith, h, count)) has key)))

-- ---- what was settled before

pub returns-then-on_cycle-clause-stays : goal.returns-then-on_cycle-clause-stays
returns-then-on_cycle-clause-stays c = λ keys are.
    let s = c.args.self.now in
    before_cyclic keys (world_of s) s.wanted.keys (settled_of s) s.views.items s.numbers.items s.out s.missing c.args.index
    (subst (λ (xs : List ℕ). AreNumbers keys (world_of s) s.wanted.keys xs s.views.items s.numbers.items s.out s.missing) (settled_then c) are)

pub returns-clause-stays : goal.returns-clause-stays
returns-clause-stays c = λ keys are.
    let s = c.args.self.now in
    let w = world_of s in
    let m = c.args.index in
    let acyclic : ¬ (IsCyclic w m) = λ cycle. false≢true (sym c.if-on_cycle.false ∙ c.on_cycle.ensures.1 ((cyclic_rows w s.plan.rows c.requires.checks.so_far.rows m).1 cycle)) in
    let at = build_listed s.wanted.keys s.plan.given m c.requires.taken in
    let own : View = c.in_ok-own.own in
    let number = c.in_ok-number.number in
    let settled = ap (λ (x : Places). of_build s.wanted.keys x.finished) c.finish-2.ensures ∙ build_push s.wanted.keys s.plan.finished m at.1 in
    before_view keys w s.wanted.keys (settled_of s) s.views.items s.numbers.items s.out s.missing m own number c.requires.unsettled acyclic
    (subst (λ (ns : List ℕ). AreNumbers keys w s.wanted.keys (settled_of s ++ m ∷ []) (slice_set s.views.items m own) ns s.out s.missing) c.put.ensures.numbers
    (subst (λ (vs : List View). AreNumbers keys w s.wanted.keys (settled_of s ++ m ∷ []) vs c.put.new.numbers.items s.out s.missing) c.put.ensures.views
    (subst (λ (xs : List ℕ). AreNumbers keys w s.wanted.keys xs c.put.new.views.items c.put.new.numbers.items s.out s.missing) settled are)))
