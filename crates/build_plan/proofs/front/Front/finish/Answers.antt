use Rattle.std.proofs.Common.{◌<◌, ◌≤◌, ℕ, List, true, false, get_or, Contains, sym, subst, ◌∙◌, arith}
use Rattle.build_plan.specs.Lists.{lists_of, count_of}
use Rattle.build_plan.specs.Front.{Stand, CountsDown}
use Rattle.build_plan.proofs.CycleLaws.{mark_there}
use Rattle.build_plan.proofs.InMemory.{same_length, row_there}
use Rattle.build_plan.proofs.FrontLaws.{given_within, finished_room, enough}
use Rattle.build_plan.proofs.FrontSteps.{finished_front, spared_front}
use Rattle.build_plan.proofs.front.Front.finish.Goals as goal

pub unwrap-requires : goal.unwrap-requires
unwrap-requires c =
    let front = c.self.inside in
    let given = subst (λ (s : Stand). Contains s.given c.args.place) (sym c.self.view_is) c.requires.given in
    let unfinished = subst (λ (s : Stand). ¬ (Contains s.finished c.args.place)) (sym c.self.view_is) c.requires.unfinished in
    let few = finished_room front c.self.invariant c.args.place given unfinished in
    let room = c.self.invariant.finished_room in
    c.push.ensures.succeeds (omega (arith, few, room, front.finished.ok.0))

pub index-requires : goal.index-requires
index-requires c =
    let front = c.self.inside in
    let given = subst (λ (s : Stand). Contains s.given c.args.place) (sym c.self.view_is) c.requires.given in
    let inside = given_within front c.self.invariant c.args.place given in
    let size = c.self.invariant.spared in
    omega (arith, inside, size, front.spared.ok.0)

pub bounds-importers-index : goal.bounds-importers-index
bounds-importers-index c =
    let front = c.self.inside in
    let given = subst (λ (s : Stand). Contains s.given c.args.place) (sym c.self.view_is) c.requires.given in
    let inside = given_within front c.self.invariant c.args.place given in
    subst (λ n. c.args.place < n) (sym c.importers.ensures.turned.size ∙ same_length c.importers.result.now) inside

pub count_down-requires-clause-waits : goal.count_down-requires-clause-waits
count_down-requires-clause-waits c =
    let front = c.self.inside in
    let given = subst (λ (s : Stand). Contains s.given c.args.place) (sym c.self.view_is) c.requires.given in
    let unfinished = subst (λ (s : Stand). ¬ (Contains s.finished c.args.place)) (sym c.self.view_is) c.requires.unfinished in
    let inside = given_within front c.self.invariant c.args.place given in
    let marked = mark_there front.spared.items c.args.place c.index.result.now false (subst (λ n. c.args.place < n) (sym c.self.invariant.spared) inside) c.index.ensures c.if-not-index.true in
    let there = row_there c.importers.result.now c.args.place c.index-importers-index.result
    (subst (λ n. c.args.place < n) (sym c.importers.ensures.turned.size ∙ same_length c.importers.result.now) inside) c.index-importers-index.is in
    subst (λ (xs : List ℕ). (p : ℕ) → count_of p xs ≤ get_or front.waiting.items p 0) (there ∙ sym c.as_slice-importers.ensures.value)
    (enough front c.self.invariant c.args.place given unfinished (lists_of c.importers.result.now) c.importers.ensures.turned marked)

pub invariant_of-self : goal.invariant_of-self
invariant_of-self c =
    let front = c.self.inside in
    let given = subst (λ (s : Stand). Contains s.given c.args.place) (sym c.self.view_is) c.requires.given in
    let unfinished = subst (λ (s : Stand). ¬ (Contains s.finished c.args.place)) (sym c.self.view_is) c.requires.unfinished in
    let inside = given_within front c.self.invariant c.args.place given in
    let marked = mark_there front.spared.items c.args.place c.index.result.now false (subst (λ n. c.args.place < n) (sym c.self.invariant.spared) inside) c.index.ensures c.if-not-index.true in
    let there = row_there c.importers.result.now c.args.place c.index-importers-index.result
    (subst (λ n. c.args.place < n) (sym c.importers.ensures.turned.size ∙ same_length c.importers.result.now) inside) c.index-importers-index.is in
    finished_front front c.self.invariant c.args.place given unfinished c.push.new.self (rw c.unwrap.ensures at c.push.ensures.items) c.push.ensures.capacity
    (lists_of c.importers.result.now) c.importers.ensures.turned marked c.count_down.new.waiting c.count_down.new.ready c.count_down.ensures.queue
    (subst (λ (xs : List ℕ). CountsDown xs front.waiting.items front.ready c.count_down.new.waiting.items c.count_down.new.ready)
    (c.as_slice-importers.ensures.value ∙ sym there) c.count_down.ensures.counts)

pub invariant_of-self-else-not-index : goal.invariant_of-self-else-not-index
invariant_of-self-else-not-index c =
    let front = c.self.inside in
    let given = subst (λ (s : Stand). Contains s.given c.args.place) (sym c.self.view_is) c.requires.given in
    let unfinished = subst (λ (s : Stand). ¬ (Contains s.finished c.args.place)) (sym c.self.view_is) c.requires.unfinished in
    let inside = given_within front c.self.invariant c.args.place given in
    let marked = mark_there front.spared.items c.args.place c.index.result.now true (subst (λ n. c.args.place < n) (sym c.self.invariant.spared) inside) c.index.ensures c.if-not-index.false in
    spared_front front c.self.invariant c.args.place given unfinished c.push.new.self (rw c.unwrap.ensures at c.push.ensures.items) c.push.ensures.capacity marked
