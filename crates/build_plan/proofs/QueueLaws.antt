-- The queue of the places that wait for none.
use Rattle.std.proofs.Common.{◌≡◌, ◌⊎◌, inl, inr, ℕ, ◌+◌, ◌-◌, ◌<◌, ◌≤◌, List, [], ◌∷◌, cond, eqb, map, length, get_or, set, take, refl, ap, sym, subst, ◌∙◌, arith, Global}
use Rattle.std.specs.BinaryHeap.{heap_items, heap_len, heap_capacity, IsHeap, KeepsHeap}
use Rattle.std.specs.Ordering.{nat_cmp}
use Rattle.std.specs.List.Sorted.{IsPermutation}
use Rattle.std.specs.declared.cmp.Reverse.{Reverse}
use Rattle.std.specs.declared.collections.BinaryHeap.{BinaryHeap}
use Rattle.std.proofs.lemmas.Bool.{cases_eq, cases_lt, cases_order}
use Rattle.std.proofs.lemmas.List.{length-set, length-map, get_or-set_same, get_or-set_other, get_or_default, get_or_past, get_or-take, length-take-le, take_all}
use Rattle.std.proofs.lemmas.List.Sorted.{IsPermutation-map, sum_by-IsPermutation}
use Rattle.build_plan.specs.Lists.{count_of}
use Rattle.build_plan.specs.Front.{times_free, queued, IsQueue, CountsDown}
use Rattle.build_plan.proofs.Counting.{same_count, same_one, same_none, count_cons, count_more, count_take, few}

pub inside : (waiting : List ℕ) (p : ℕ) → 0 < get_or waiting p 0 → p < length waiting
inside waiting p h = by (cases_lt p (length waiting))
  where
    by : (p < length waiting) ⊎ (length waiting ≤ p) → p < length waiting
    by (inl k) = k
    by (inr k) = let none = get_or_past waiting p 0 k in absurd (omega arith)

pub free_inside : (waiting : List ℕ) (p : ℕ) → 0 < times_free waiting p → p < length waiting
free_inside waiting p h = by (cases_lt p (length waiting))
  where
    by : (p < length waiting) ⊎ (length waiting ≤ p) → p < length waiting
    by (inl k) = k
    by (inr k) =
        let past : get_or waiting p 1 ≡ 1 = get_or_past waiting p 1 k in
        let none = same_none (get_or waiting p 1) 0 (λ e. omega arith) in
        absurd (omega arith)

pub free_once : (waiting : List ℕ) (p : ℕ) → times_free waiting p ≤ 1
free_once waiting p = by (cases_eq (get_or waiting p 1) 0)
  where
    by : (get_or waiting p 1 ≡ 0) ⊎ (get_or waiting p 1 ≡ 0 → ⊥) → times_free waiting p ≤ 1
    by (inl e) = let k = same_one (get_or waiting p 1) 0 e in omega arith
    by (inr n) = let k = same_none (get_or waiting p 1) 0 n in omega arith

pub pushed : (p : ℕ) (old new : BinaryHeap (Reverse ℕ) Global) → IsPermutation (record { 0 = p } ∷ heap_items old) (heap_items new)
    → (q : ℕ) → count_of q (queued new) ≡ count_of q (queued old) + same_count p q
pushed p old new moved q =
    let all = sum_by-IsPermutation (λ y. same_count y q) (p ∷ queued old) (queued new) (IsPermutation-map (λ (entry : Reverse ℕ). entry.0) (record { 0 = p } ∷ heap_items old) (heap_items new) moved) in
    let first = count_cons q p (queued old) in
    omega arith

pub popped : (p : ℕ) (old new : BinaryHeap (Reverse ℕ) Global) → IsPermutation (heap_items old) (record { 0 = p } ∷ heap_items new)
    → (q : ℕ) → count_of q (queued old) ≡ count_of q (queued new) + same_count p q
popped p old new moved q =
    let all = sum_by-IsPermutation (λ y. same_count y q) (queued old) (p ∷ queued new) (IsPermutation-map (λ (entry : Reverse ℕ). entry.0) (heap_items old) (record { 0 = p } ∷ heap_items new) moved) in
    let first = count_cons q p (queued new) in
    omega arith

-- there is room for one more, where that isn't there yet
pub has_room : (waiting : List ℕ) (ready : BinaryHeap (Reverse ℕ) Global) (p : ℕ) → IsQueue waiting ready → p < length waiting → times_free waiting p ≡ 0
    → heap_len ready < heap_capacity ready
has_room waiting ready p is h none =
    let most = few (p ∷ queued ready) (length waiting) (λ q. once q (cases_eq p q)) (λ q k. below q k (cases_eq p q)) in
    let room = is.room in
    let size = length-map (heap_items ready) (λ (entry : Reverse ℕ). entry.0) in
    omega (arith, most, room, size, ready.data.ok.0)
  where
    once : (q : ℕ) → (p ≡ q) ⊎ (p ≡ q → ⊥) → count_of q (p ∷ queued ready) ≤ 1
    once q (inl e) =
        let all = count_cons q p (queued ready) in
        let one = same_one p q e in
        let here = is.once q in
        let free : times_free waiting q ≡ 0 = ap (times_free waiting) (sym e) ∙ none in
        omega arith
    once q (inr n) =
        let all = count_cons q p (queued ready) in
        let other = same_none p q n in
        let here = is.once q in
        let free = free_once waiting q in
        omega arith

    below : (q : ℕ) → 0 < count_of q (p ∷ queued ready) → (p ≡ q) ⊎ (p ≡ q → ⊥) → q < length waiting
    below q k (inl e) = subst (λ x. x < length waiting) e h
    below q k (inr n) =
        let all = count_cons q p (queued ready) in
        let other = same_none p q n in
        let here = is.once q in
        free_inside waiting q (omega arith)

-- ---- one place waits for one less

module _ (waiting : List ℕ) (ready new : BinaryHeap (Reverse ℕ) Global) (p w : ℕ) (h : 0 < get_or waiting p 0) (e : w ≡ get_or waiting p w)
    (is : IsQueue waiting ready) where
  now : List ℕ
  now = set waiting p (w - 1)

  pub there : get_or waiting p 1 ≡ w
  there = get_or_default waiting p 1 w (inside waiting p h) ∙ sym e

  here : get_or waiting p 0 ≡ w
  here = get_or_default waiting p 0 w (inside waiting p h) ∙ sym e

  pub not_free : times_free waiting p ≡ 0
  not_free = same_none (get_or waiting p 1) 0 (λ k. let a = there in let b = here in omega arith)

  left : get_or (set waiting p (w - 1)) p 1 ≡ w - 1
  left = get_or-set_same waiting p (w - 1) 1 (inside waiting p h)

  waits : (q : ℕ) → (q ≡ p) ⊎ (q ≡ p → ⊥) → get_or (set waiting p (w - 1)) q 1 + count_of q (p ∷ []) ≡ get_or waiting q 1
  waits q (inl f) =
      let a = there in
      let b = here in
      let c = left in
      let same : get_or (set waiting p (w - 1)) q 1 ≡ get_or (set waiting p (w - 1)) p 1 = ap (λ x. get_or (set waiting p (w - 1)) x 1) f in
      let was : get_or waiting q 1 ≡ get_or waiting p 1 = ap (λ x. get_or waiting x 1) f in
      let one = same_one p q (sym f) in
      let all = count_cons q p [] in
      omega arith
  waits q (inr n) =
      let same = get_or-set_other waiting p q (w - 1) 1 n in
      let none = same_none p q (λ f. n (sym f)) in
      let all = count_cons q p [] in
      omega arith

  free_other : (q : ℕ) → (q ≡ p → ⊥) → times_free (set waiting p (w - 1)) q ≡ times_free waiting q
  free_other q n = ap (λ x. let m : ℕ = cond (eqb x 0) 1 0 in m) (get_or-set_other waiting p q (w - 1) 1 n)

  module _ (joined : (q : ℕ) → count_of q (queued new) + times_free waiting q ≡ count_of q (queued ready) + times_free (set waiting p (w - 1)) q)
      (kept : KeepsHeap (λ x y. nat_cmp y.0 x.0) (heap_items ready) (heap_items new)) (more : heap_capacity ready ≤ heap_capacity new) where
    pub counts_one : CountsDown (p ∷ []) waiting ready (set waiting p (w - 1)) new
    counts_one = record { size = length-set waiting p (w - 1); waits = λ q. waits q (cases_eq q p); joined = joined }

    pub queue_one : IsQueue (set waiting p (w - 1)) new
    queue_one = record {
      once = λ q. (let j = joined q in let o = is.once q in omega arith);
      ordered = kept is.ordered;
      room = (let r = is.room in let s = length-set waiting p (w - 1) in omega arith);
    }

  pub joined_push : w - 1 ≡ 0 → ((q : ℕ) → count_of q (queued new) ≡ count_of q (queued ready) + same_count p q)
      → (q : ℕ) → count_of q (queued new) + times_free waiting q ≡ count_of q (queued ready) + times_free (set waiting p (w - 1)) q
  joined_push last more q = by (cases_eq q p)
    where
      by : (q ≡ p) ⊎ (q ≡ p → ⊥) → count_of q (queued new) + times_free waiting q ≡ count_of q (queued ready) + times_free (set waiting p (w - 1)) q
      by (inl f) =
          let a = more q in
          let one = same_one p q (sym f) in
          let was : times_free waiting q ≡ 0 = ap (times_free waiting) f ∙ not_free in
          let is_free : times_free (set waiting p (w - 1)) q ≡ 1 = ap (times_free (set waiting p (w - 1))) f ∙ same_one (get_or (set waiting p (w - 1)) p 1) 0 (left ∙ last) in
          omega arith
      by (inr n) =
          let a = more q in
          let none = same_none p q (λ f. n (sym f)) in
          let same = free_other q n in
          omega arith

-- ---- place after place

pub counts_none : (waiting : List ℕ) (ready : BinaryHeap (Reverse ℕ) Global) → CountsDown [] waiting ready waiting ready
counts_none waiting ready = record { size = refl; waits = λ p. omega arith; joined = λ p. refl }

module _ (places waiting : List ℕ) (ready : BinaryHeap (Reverse ℕ) Global) (i : ℕ) (between : List ℕ) (middle : BinaryHeap (Reverse ℕ) Global)
    (h : i < length places) (counts : CountsDown (take i places) waiting ready between middle) where
  -- the next place still waits
  pub still_waits : ((p : ℕ) → count_of p places ≤ get_or waiting p 0) → 0 < get_or between (get_or places i 0) 0
  still_waits enough =
      let p : ℕ = get_or places i 0 in
      let more = count_more p places i 0 h in
      let one = same_one p p refl in
      let all = count_take p places (i + 1) in
      let has = enough p in
      let k : p < length waiting = inside waiting p (omega arith) in
      let l : p < length between = subst (λ n. p < n) (sym counts.size) k in
      let before = get_or_default waiting p 0 1 k in
      let after = get_or_default between p 0 1 l in
      let w = counts.waits p in
      omega arith

  pub counts_more : (new : List ℕ) (queue : BinaryHeap (Reverse ℕ) Global) → CountsDown (get_or places i 0 ∷ []) between middle new queue
      → CountsDown (take (i + 1) places) waiting ready new queue
  counts_more new queue one = record {
    size = one.size ∙ counts.size;
    waits = λ p. (let a = one.waits p in let b = counts.waits p in let c = count_more p places i 0 h in let d = count_cons p (get_or places i 0) [] in omega arith);
    joined = λ p. (let a = one.joined p in let b = counts.joined p in omega arith);
  }

-- ---- all that wait for none, place after place

module _ (waiting : List ℕ) (i : ℕ) (h : i < length waiting) where
  before : (p : ℕ) → p < i → get_or (take (i + 1) waiting) p 1 ≡ get_or (take i waiting) p 1
  before p k = get_or-take (i + 1) waiting p 1 (omega arith) ∙ sym (get_or-take i waiting p 1 k)

  at : get_or (take (i + 1) waiting) i 1 ≡ get_or waiting i 0
  at = get_or-take (i + 1) waiting i 1 (omega arith) ∙ get_or_default waiting i 1 0 h

  not_yet : (p : ℕ) → i ≤ p → get_or (take i waiting) p 1 ≡ 1
  not_yet p k = get_or_past (take i waiting) p 1 (let s : length (take i waiting) ≡ i = length-take-le i waiting (omega arith) in omega arith)

  behind : (p : ℕ) → i < p → get_or (take (i + 1) waiting) p 1 ≡ 1
  behind p k = get_or_past (take (i + 1) waiting) p 1 (let s : length (take (i + 1) waiting) ≡ i + 1 = length-take-le (i + 1) waiting (omega arith) in omega arith)

  same_free : (a b : ℕ) → a ≡ b → same_count a 0 ≡ same_count b 0
  same_free a b e = ap (λ n. same_count n 0) e

  other_free : (p : ℕ) → (p < i) ⊎ (i < p) → times_free (take (i + 1) waiting) p ≡ times_free (take i waiting) p
  other_free p (inl k) = same_free (get_or (take (i + 1) waiting) p 1) (get_or (take i waiting) p 1) (before p k)
  other_free p (inr k) = same_free (get_or (take (i + 1) waiting) p 1) (get_or (take i waiting) p 1) (behind p k ∙ sym (not_yet p (omega arith)))

  own_before : times_free (take i waiting) i ≡ 0
  own_before = same_none (get_or (take i waiting) i 1) 0 (λ e. let k = not_yet i (omega arith) in omega arith)

  pub free_yes : get_or waiting i 0 ≡ 0 → (p : ℕ) → times_free (take (i + 1) waiting) p ≡ times_free (take i waiting) p + same_count i p
  free_yes free p = by (cases_order p i)
    where
      by : (p ≡ i) ⊎ ((p < i) ⊎ (i < p)) → times_free (take (i + 1) waiting) p ≡ times_free (take i waiting) p + same_count i p
      by (inl e) =
          let one = same_one i p (sym e) in
          let now : times_free (take (i + 1) waiting) p ≡ 1 = ap (times_free (take (i + 1) waiting)) e ∙ same_one (get_or (take (i + 1) waiting) i 1) 0 (at ∙ free) in
          let was : times_free (take i waiting) p ≡ 0 = ap (times_free (take i waiting)) e ∙ own_before in
          omega arith
      by (inr o) = let none = same_none i p (λ e. by_order o e) in let same = other_free p o in omega arith
        where
          by_order : (p < i) ⊎ (i < p) → i ≡ p → ⊥
          by_order (inl k) e = omega arith
          by_order (inr k) e = omega arith

  pub free_no : (get_or waiting i 0 ≡ 0 → ⊥) → (p : ℕ) → times_free (take (i + 1) waiting) p ≡ times_free (take i waiting) p
  free_no some p = by (cases_order p i)
    where
      by : (p ≡ i) ⊎ ((p < i) ⊎ (i < p)) → times_free (take (i + 1) waiting) p ≡ times_free (take i waiting) p
      by (inl e) =
          let now : times_free (take (i + 1) waiting) p ≡ 0 = ap (times_free (take (i + 1) waiting)) e ∙ same_none (get_or (take (i + 1) waiting) i 1) 0 (λ k. some (sym at ∙ k)) in
          let was : times_free (take i waiting) p ≡ 0 = ap (times_free (take i waiting)) e ∙ own_before in
          omega arith
      by (inr o) = other_free p o

-- the places below an index that wait for none are in the queue
pub record IsQueuedTo (waiting : List ℕ) (i : ℕ) (ready : BinaryHeap (Reverse ℕ) Global) : Type 0 where
  pub whole : (p : ℕ) → count_of p (queued ready) ≡ times_free (take i waiting) p
  pub ordered : IsHeap (λ x y. nat_cmp y.0 x.0) (heap_items ready)
  pub size : heap_len ready ≤ i
  pub room : length waiting ≤ heap_capacity ready

pub queued_none : (waiting : List ℕ) (ready : BinaryHeap (Reverse ℕ) Global) → heap_items ready ≡ [] → IsHeap (λ x y. nat_cmp y.0 x.0) (heap_items ready)
    → length waiting ≤ heap_capacity ready → IsQueuedTo waiting 0 ready
queued_none waiting ready empty ordered room = record {
  whole = λ p. ap (λ (xs : List (Reverse ℕ)). count_of p (map (λ (entry : Reverse ℕ). entry.0) xs)) empty;
  ordered = ordered;
  size = (let e = ap length empty in omega (arith, e, ready.data.ok.0));
  room = room;
}

pub queued_yes : (waiting : List ℕ) (i : ℕ) (ready new : BinaryHeap (Reverse ℕ) Global) → i < length waiting → IsQueuedTo waiting i ready → get_or waiting i 0 ≡ 0
    → IsPermutation (record { 0 = i } ∷ heap_items ready) (heap_items new) → KeepsHeap (λ x y. nat_cmp y.0 x.0) (heap_items ready) (heap_items new)
    → heap_len new ≡ heap_len ready + 1 → heap_capacity ready ≤ heap_capacity new → IsQueuedTo waiting (i + 1) new
queued_yes waiting i ready new h q free moved kept more room = record {
  whole = λ p. (let a = pushed i ready new moved p in let b = free_yes waiting i h free p in let c = q.whole p in omega arith);
  ordered = kept q.ordered;
  size = (let s = q.size in omega arith);
  room = (let r = q.room in omega arith);
}

pub queued_no : (waiting : List ℕ) (i : ℕ) (ready : BinaryHeap (Reverse ℕ) Global) → i < length waiting → IsQueuedTo waiting i ready → (get_or waiting i 0 ≡ 0 → ⊥)
    → IsQueuedTo waiting (i + 1) ready
queued_no waiting i ready h q some = record {
  whole = λ p. q.whole p ∙ sym (free_no waiting i h some p);
  ordered = q.ordered;
  size = (let s = q.size in omega arith);
  room = q.room;
}

pub queued_whole : (waiting : List ℕ) (i : ℕ) (ready : BinaryHeap (Reverse ℕ) Global) → length waiting ≤ i → IsQueuedTo waiting i ready
    → (p : ℕ) → count_of p (queued ready) ≡ times_free waiting p
queued_whole waiting i ready h q p = q.whole p ∙ ap (λ (xs : List ℕ). times_free xs p) (take_all i waiting h)

pub queue_all : (waiting : List ℕ) (i : ℕ) (ready : BinaryHeap (Reverse ℕ) Global) → length waiting ≤ i → IsQueuedTo waiting i ready → IsQueue waiting ready
queue_all waiting i ready h q = record {
  once = λ p. (let w = queued_whole waiting i ready h q p in omega arith);
  ordered = q.ordered;
  room = q.room;
}
