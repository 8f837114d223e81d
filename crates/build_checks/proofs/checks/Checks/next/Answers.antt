use Rattle.std.proofs.Common.{◌≡◌, ◌∷◌, [], ◌<◌, ◌≤◌, ◌-◌, length, length-append, false, refl, sym, ap, subst, ◌∙◌, arith}
use Rattle.std.specs.Prelude.{Contains}
use Rattle.std.proofs.lemmas.List.Elements.{Contains-push}
use Rattle.build_plan.specs.Places.{Places, with_finished, with_given}
use Rattle.build_checks.proofs.ChecksLaws.{checks_none, checks_taken, finished_none, finished_taken, left_none, less_taken, modules_now, next_taken, none_none, numbers_before_now, numbers_now, settled_now, taken_none, taken_taken, through_none, world_now}
use Rattle.build_checks.proofs.ListLaws.{among_listed, build_pass, not_among}
use Rattle.build_checks.proofs.StandLaws.{given_few, passed_on}
use Rattle.build_checks.specs.Stand.{AreSoFar, is_among, of_build, world_of}
use Rattle.build_checks.specs.declared.checks.Checks.{Checks}
use Rattle.build_checks.proofs.checks.Checks.next.Goals as goal
use Rattle.build_checks.proofs.checks.Checks.next.Goals.{Then-contains}

pub places-init : goal.places-init
places-init c = record { same = refl; so_far = c.requires.so_far; rows = refl; given = refl; finished = refl; further = omega arith }

pub finish-requires-clause-given : goal.finish-requires-clause-given
finish-requires-clause-given c = subst (λ (pl : Places). Contains pl.given c.in-Some.module) (sym c.in-Some.ensures.given) (Contains-push c.places.self.plan.given c.in-Some.module)

pub finish-requires-clause-unfinished : goal.finish-requires-clause-unfinished
finish-requires-clause-unfinished c = λ f.
    c.in-Some.ensures.least.ready.is_new (c.places.invariant.so_far.only c.in-Some.module (subst (λ (pl : Places). Contains pl.finished c.in-Some.module) c.in-Some.ensures.given f))

-- ---- a module that is passed over

passed : (c : goal.After-finish) → c.finish.new.self ≡ with_finished (with_given c.places.self.plan c.in-Some.module) c.in-Some.module
passed c = c.finish.ensures ∙ ap (λ (pl : Places). with_finished pl c.in-Some.module) c.in-Some.ensures.given

out : (c : goal.After-finish) → is_among c.args.self.now.wanted.keys c.in-Some.module ≡ false
out c = ap (λ (x : Checks). is_among x.wanted.keys c.in-Some.module) (sym c.places.invariant.same) ∙ sym c.contains.ensures ∙ c.if-contains.false

pub places-smaller : goal.places-smaller
places-smaller c =
    let s = c.args.self.now in
    let pl = c.places.self.plan in
    let m = c.in-Some.module in
    let few = given_few (world_of s) s.wanted.keys pl s.views.items s.numbers.items c.places.invariant.so_far m c.in-Some.ensures.least.ready in
    let one = length-append pl.given (m ∷ []) in
    subst (λ (after : Places). length after.rows - length after.given < length pl.rows - length pl.given) (sym (passed c)) (omega (arith, few, one))

pub places-preserved : goal.places-preserved
places-preserved c =
    let s = c.args.self.now in
    let keys = s.wanted.keys in
    let pl = c.places.self.plan in
    let m = c.in-Some.module in
    let far = c.places.invariant.so_far in
    let ready = c.in-Some.ensures.least.ready in
    let one = length-append pl.given (m ∷ []) in
    let further = c.places.invariant.further in
    record {
      same = ap (λ (x : Checks). record x { plan = c.finish.new.self }) c.places.invariant.same;
      so_far = subst (λ (x : Places). AreSoFar (world_of s) keys x s.views.items s.numbers.items) (sym (passed c))
          (passed_on (world_of s) keys pl s.views.items s.numbers.items far m ready (not_among keys m (out c)));
      rows = ap (λ (x : Places). x.rows) (passed c) ∙ c.places.invariant.rows;
      given = ap (λ (x : Places). of_build keys x.given) (passed c) ∙ build_pass keys pl.given m (out c) ∙ c.places.invariant.given;
      finished = ap (λ (x : Places). of_build keys x.finished) (passed c) ∙ build_pass keys pl.finished m (out c) ∙ c.places.invariant.finished;
      further = subst (λ (x : Places). length s.plan.given ≤ length x.given) (sym (passed c)) (omega (arith, further, one));
    }

-- ---- a module that is taken

among : (c : Then-contains) → Contains c.args.self.now.wanted.keys c.in-Some.module
among c =
    among_listed c.args.self.now.wanted.keys c.in-Some.module
    (ap (λ (x : Checks). is_among x.wanted.keys c.in-Some.module) (sym c.places.invariant.same) ∙ sym c.contains.ensures ∙ c.if-contains.true)

pub returns-then-contains-clause-checks : goal.returns-then-contains-clause-checks
returns-then-contains-clause-checks c = checks_taken c.args.self.now c.places.self c.ready.new.self c.places.invariant.same c.requires c.places.invariant.so_far c.places.invariant.given c.places.invariant.finished c.in-Some.module c.in-Some.ensures.given c.in-Some.ensures.least (among c) c.places.invariant.rows c.places.invariant.further

pub returns-then-contains-clause-world : goal.returns-then-contains-clause-world
returns-then-contains-clause-world c = world_now c.args.self.now c.places.self c.ready.new.self c.places.invariant.same c.requires c.places.invariant.so_far c.places.invariant.given c.places.invariant.finished

pub returns-then-contains-clause-modules : goal.returns-then-contains-clause-modules
returns-then-contains-clause-modules c = modules_now c.args.self.now c.places.self c.ready.new.self c.places.invariant.same c.requires c.places.invariant.so_far c.places.invariant.given c.places.invariant.finished

pub returns-then-contains-clause-settled : goal.returns-then-contains-clause-settled
returns-then-contains-clause-settled c = settled_now c.args.self.now c.places.self c.ready.new.self c.places.invariant.same c.requires c.places.invariant.so_far c.places.invariant.given c.places.invariant.finished (finished_taken c.args.self.now c.places.self c.ready.new.self c.places.invariant.same c.requires c.places.invariant.so_far c.places.invariant.given c.places.invariant.finished c.in-Some.module c.in-Some.ensures.given c.in-Some.ensures.least (among c) c.places.invariant.rows c.places.invariant.further)

pub returns-then-contains-clause-numbers : goal.returns-then-contains-clause-numbers
returns-then-contains-clause-numbers c = numbers_now c.args.self.now c.places.self c.ready.new.self c.places.invariant.same c.requires c.places.invariant.so_far c.places.invariant.given c.places.invariant.finished (finished_taken c.args.self.now c.places.self c.ready.new.self c.places.invariant.same c.requires c.places.invariant.so_far c.places.invariant.given c.places.invariant.finished c.in-Some.module c.in-Some.ensures.given c.in-Some.ensures.least (among c) c.places.invariant.rows c.places.invariant.further)

pub returns-then-contains-clause-stays : goal.returns-then-contains-clause-stays
returns-then-contains-clause-stays c = numbers_before_now c.args.self.now c.places.self c.ready.new.self c.places.invariant.same c.requires c.places.invariant.so_far c.places.invariant.given c.places.invariant.finished (finished_taken c.args.self.now c.places.self c.ready.new.self c.places.invariant.same c.requires c.places.invariant.so_far c.places.invariant.given c.places.invariant.finished c.in-Some.module c.in-Some.ensures.given c.in-Some.ensures.least (among c) c.places.invariant.rows c.places.invariant.further)

pub returns-then-contains-clause-next : goal.returns-then-contains-clause-next
returns-then-contains-clause-next c = next_taken c.args.self.now c.places.self c.ready.new.self c.places.invariant.same c.requires c.places.invariant.so_far c.places.invariant.given c.places.invariant.finished c.in-Some.module c.in-Some.ensures.given c.in-Some.ensures.least (among c) c.places.invariant.rows c.places.invariant.further

pub returns-then-contains-clause-taken : goal.returns-then-contains-clause-taken
returns-then-contains-clause-taken c = taken_taken c.args.self.now c.places.self c.ready.new.self c.places.invariant.same c.requires c.places.invariant.so_far c.places.invariant.given c.places.invariant.finished c.in-Some.module c.in-Some.ensures.given c.in-Some.ensures.least (among c) c.places.invariant.rows c.places.invariant.further

pub returns-then-contains-clause-less : goal.returns-then-contains-clause-less
returns-then-contains-clause-less c = less_taken c.args.self.now c.places.self c.ready.new.self c.places.invariant.same c.requires c.places.invariant.so_far c.places.invariant.given c.places.invariant.finished c.in-Some.module c.in-Some.ensures.given c.in-Some.ensures.least (among c) c.places.invariant.rows c.places.invariant.further

pub returns-then-contains-clause-left : goal.returns-then-contains-clause-left
returns-then-contains-clause-left c = let less = less_taken c.args.self.now c.places.self c.ready.new.self c.places.invariant.same c.requires c.places.invariant.so_far c.places.invariant.given c.places.invariant.finished c.in-Some.module c.in-Some.ensures.given c.in-Some.ensures.least (among c) c.places.invariant.rows c.places.invariant.further in omega (arith, less)

-- ---- none

pub returns-clause-checks : goal.returns-clause-checks
returns-clause-checks c = checks_none c.args.self.now c.places.self c.ready.new.self c.places.invariant.same c.requires c.places.invariant.so_far c.places.invariant.given c.places.invariant.finished c.in_default.ensures.unchanged c.in_default.ensures.none

pub returns-clause-world : goal.returns-clause-world
returns-clause-world c = world_now c.args.self.now c.places.self c.ready.new.self c.places.invariant.same c.requires c.places.invariant.so_far c.places.invariant.given c.places.invariant.finished

pub returns-clause-modules : goal.returns-clause-modules
returns-clause-modules c = modules_now c.args.self.now c.places.self c.ready.new.self c.places.invariant.same c.requires c.places.invariant.so_far c.places.invariant.given c.places.invariant.finished

pub returns-clause-settled : goal.returns-clause-settled
returns-clause-settled c = settled_now c.args.self.now c.places.self c.ready.new.self c.places.invariant.same c.requires c.places.invariant.so_far c.places.invariant.given c.places.invariant.finished (finished_none c.args.self.now c.places.self c.ready.new.self c.places.invariant.same c.requires c.places.invariant.so_far c.places.invariant.given c.places.invariant.finished c.in_default.ensures.unchanged c.in_default.ensures.none)

pub returns-clause-numbers : goal.returns-clause-numbers
returns-clause-numbers c = numbers_now c.args.self.now c.places.self c.ready.new.self c.places.invariant.same c.requires c.places.invariant.so_far c.places.invariant.given c.places.invariant.finished (finished_none c.args.self.now c.places.self c.ready.new.self c.places.invariant.same c.requires c.places.invariant.so_far c.places.invariant.given c.places.invariant.finished c.in_default.ensures.unchanged c.in_default.ensures.none)

pub returns-clause-stays : goal.returns-clause-stays
returns-clause-stays c = numbers_before_now c.args.self.now c.places.self c.ready.new.self c.places.invariant.same c.requires c.places.invariant.so_far c.places.invariant.given c.places.invariant.finished (finished_none c.args.self.now c.places.self c.ready.new.self c.places.invariant.same c.requires c.places.invariant.so_far c.places.invariant.given c.places.invariant.finished c.in_default.ensures.unchanged c.in_default.ensures.none)

pub returns-clause-none : goal.returns-clause-none
returns-clause-none c = none_none c.args.self.now c.places.self c.ready.new.self c.places.invariant.same c.requires c.places.invariant.so_far c.places.invariant.given c.places.invariant.finished c.in_default.ensures.unchanged c.in_default.ensures.none

pub returns-clause-unchanged : goal.returns-clause-unchanged
returns-clause-unchanged c = taken_none c.args.self.now c.places.self c.ready.new.self c.places.invariant.same c.requires c.places.invariant.so_far c.places.invariant.given c.places.invariant.finished c.in_default.ensures.unchanged c.in_default.ensures.none

pub returns-clause-through : goal.returns-clause-through
returns-clause-through c = through_none c.args.self.now c.places.self c.ready.new.self c.places.invariant.same c.requires c.places.invariant.so_far c.places.invariant.given c.places.invariant.finished c.in_default.ensures.unchanged c.in_default.ensures.none

pub returns-clause-left : goal.returns-clause-left
returns-clause-left c = left_none c.args.self.now c.places.self c.ready.new.self c.places.invariant.same c.requires c.places.invariant.so_far c.places.invariant.given c.places.invariant.finished c.in_default.ensures.unchanged c.in_default.ensures.none c.places.invariant.rows c.places.invariant.further
