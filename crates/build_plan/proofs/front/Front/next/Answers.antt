use Rattle.std.proofs.Common.{◌<◌, ◌∷◌, ℕ, List, length, Contains, map, heap_items, IsPermutation, subst, refl, arith}
use Rattle.std.specs.declared.cmp.Reverse.{Reverse}
use Rattle.std.proofs.lemmas.List.{nil_from_length}
use Rattle.std.proofs.lemmas.List.Sorted.{Contains-permutation, IsPermutation-map, IsPermutation-sym}
use Rattle.build_plan.specs.Front.{Stand, IsFree, IsLeastFree}
use Rattle.build_plan.proofs.FrontLaws.{given_room, none_free, least_free}
use Rattle.build_plan.proofs.FrontSteps.{given_front}
use Rattle.build_plan.proofs.front.Front.next.Goals as goal

-- the top was in the queue
top_there : (p : ℕ) (old new : List (Reverse ℕ)) → IsPermutation old (record { 0 = p } ∷ new) → Contains (map (λ (entry : Reverse ℕ). entry.0) old) p
top_there p old new moved =
    let back = IsPermutation-map (λ (entry : Reverse ℕ). entry.0) (record { 0 = p } ∷ new) old (IsPermutation-sym old (record { 0 = p } ∷ new) moved) in
    Contains-permutation (p ∷ map (λ (entry : Reverse ℕ). entry.0) new) (map (λ (entry : Reverse ℕ). entry.0) old) p back (0, omega arith, refl)

pub returns-in_err-place-clause-none : goal.returns-in_err-place-clause-none
returns-in_err-place-clause-none c =
    let front = c.self.inside in
    let none = none_free front c.self.invariant (nil_from_length (heap_items front.ready) (omega (arith, c.in_err-place.ensures.none, front.ready.data.ok.0))) in
    rw c.from_residual.ensures (subst (λ (s : Stand). (place : ℕ) → ¬ (IsFree s place)) c.self.view_is none)

pub unwrap-requires : goal.unwrap-requires
unwrap-requires c =
    let front = c.self.inside in
    let there = top_there c.in_ok-place.field-0.0 (heap_items front.ready) (heap_items c.pop.new.self) c.in_ok-place.ensures.permutation in
    let few = given_room front c.self.invariant c.in_ok-place.field-0.0 there in
    let room = c.self.invariant.given_room in
    c.push.ensures.succeeds (omega (arith, few, room, front.given.ok.0))

pub invariant_of-self-2 : goal.invariant_of-self-2
invariant_of-self-2 c =
    let front = c.self.inside in
    given_front front c.self.invariant c.in_ok-place.field-0.0 c.pop.new.self c.push.new.self
    (rw c.unwrap.ensures at c.push.ensures.items) c.push.ensures.capacity c.in_ok-place.ensures.permutation
    (c.in_ok-place.ensures.heap_order c.self.invariant.ordered).0 c.in_ok-place.ensures.capacity

pub returns-clause-least : goal.returns-clause-least
returns-clause-least c =
    let front = c.self.inside in
    let there = top_there c.in_ok-place.field-0.0 (heap_items front.ready) (heap_items c.pop.new.self) c.in_ok-place.ensures.permutation in
    subst (λ (s : Stand). IsLeastFree s c.in_ok-place.field-0.0) c.self.view_is
    (least_free front c.self.invariant c.in_ok-place.field-0.0 there (c.in_ok-place.ensures.heap_order c.self.invariant.ordered).1)

pub returns-clause-room : goal.returns-clause-room
returns-clause-room c =
    let front = c.self.inside in
    let there = top_there c.in_ok-place.field-0.0 (heap_items front.ready) (heap_items c.pop.new.self) c.in_ok-place.ensures.permutation in
    subst (λ (s : Stand). length s.given < length s.rows) c.self.view_is (given_room front c.self.invariant c.in_ok-place.field-0.0 there)
