-- A front keeps what it has to, whatever is given and finished.
use Rattle.std.proofs.Common.{◌≡◌, ℕ, ◌+◌, ◌≤◌, List, [], ◌∷◌, ◌++◌, true, false, Vec, Global, Contains, ap, sym, ◌∙◌, arith}
use Rattle.std.specs.Vec.{vec_capacity}
use Rattle.std.specs.BinaryHeap.{heap_items, heap_capacity, IsHeap}
use Rattle.std.specs.Ordering.{nat_cmp}
use Rattle.std.specs.List.Sorted.{IsPermutation}
use Rattle.std.specs.declared.cmp.Reverse.{Reverse}
use Rattle.std.specs.declared.collections.BinaryHeap.{BinaryHeap}
use Rattle.build_plan.specs.Rows.{row_at}
use Rattle.build_plan.specs.Lists.{has_mark, count_of}
use Rattle.build_plan.specs.Links.{AreTurned}
use Rattle.build_plan.specs.Front.{waits, IsQueue, CountsDown}
use Rattle.build_plan.specs.Kept.{IsFront}
use Rattle.build_plan.specs.declared.front.Front.TheInside.{Inside}
use Rattle.build_plan.proofs.Counting.{same_count, count_push}
use Rattle.build_plan.proofs.QueueLaws.{popped}
use Rattle.build_plan.proofs.FrontLaws.{finished_push, waits_now, waits_still}

module _ (front : Inside) (is : IsFront front) where
  -- one place more is given
  pub given_front : (p : ℕ) (ready : BinaryHeap (Reverse ℕ) Global) (given : Vec ℕ Global) → given.items ≡ front.given.items ++ p ∷ [] → vec_capacity front.given ≤ vec_capacity given
      → IsPermutation (heap_items front.ready) (record { 0 = p } ∷ heap_items ready) → IsHeap (λ x y. nat_cmp y.0 x.0) (heap_items ready) → heap_capacity ready ≡ heap_capacity front.ready
      → IsFront (record { links = front.links; spared = front.spared; waiting = front.waiting; ready = ready; given = given; finished = front.finished })
  given_front p ready given pushed more moved ordered room = record {
    within = is.within;
    spared = is.spared;
    waiting = is.waiting;
    waits = is.waits;
    once = λ q. (let a = push q in let b = popped p front.ready ready moved q in let c = is.once q in omega arith);
    finished = λ q. (let a = push q in let c = is.finished q in omega arith);
    ordered = ordered;
    room = (let r = is.room in omega arith);
    given_room = (let r = is.given_room in omega arith);
    finished_room = is.finished_room;
  }
    where
      push : (q : ℕ) → count_of q given.items ≡ count_of q front.given.items + same_count p q
      push q = ap (count_of q) pushed ∙ count_push q front.given.items p

  module _ (p : ℕ) (given : Contains front.given.items p) (unfinished : Contains front.finished.items p → ⊥) (finished : Vec ℕ Global)
      (pushed : finished.items ≡ front.finished.items ++ p ∷ []) (more : vec_capacity front.finished ≤ vec_capacity finished) where
    still_once : (q : ℕ) → count_of q finished.items ≤ count_of q front.given.items
    still_once q = let a = ap (count_of q) pushed in let b = finished_push front is p given unfinished q in omega arith

    -- a place is finished for which others may wait
    pub finished_front : (importers : List (List ℕ)) → AreTurned front.links importers → has_mark front.spared.items p ≡ false
        → (waiting : Vec ℕ Global) (ready : BinaryHeap (Reverse ℕ) Global) → IsQueue waiting.items ready
        → CountsDown (row_at importers p) front.waiting.items front.ready waiting.items ready
        → IsFront (record { links = front.links; spared = front.spared; waiting = waiting; ready = ready; given = front.given; finished = finished })
    finished_front importers t m waiting ready queue counts = record {
      within = is.within;
      spared = is.spared;
      waiting = counts.size ∙ is.waiting;
      waits = λ q h.
          waits_now front is p given unfinished importers t m waiting.items counts.size counts.waits q h
          ∙ ap (λ (xs : List ℕ). waits front.links front.spared.items xs q) (sym pushed);
      once = λ q. (let a = counts.joined q in let b = is.once q in omega arith);
      finished = still_once;
      ordered = queue.ordered;
      room = (let a = queue.room in let b = counts.size in let c = is.waiting in omega arith);
      given_room = is.given_room;
      finished_room = (let a = is.finished_room in omega arith);
    }

    -- a spared one is finished
    pub spared_front : has_mark front.spared.items p ≡ true
        → IsFront (record { links = front.links; spared = front.spared; waiting = front.waiting; ready = front.ready; given = front.given; finished = finished })
    spared_front m = record {
      within = is.within;
      spared = is.spared;
      waiting = is.waiting;
      waits = λ q h. waits_still front is p given unfinished m q h ∙ ap (λ (xs : List ℕ). waits front.links front.spared.items xs q) (sym pushed);
      once = is.once;
      finished = still_once;
      ordered = is.ordered;
      room = is.room;
      given_room = is.given_room;
      finished_room = (let a = is.finished_room in omega arith);
    }
