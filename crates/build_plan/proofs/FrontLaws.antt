-- What a front keeps, and which places are free by it.
use Rattle.std.proofs.Common.{◌≡◌, ◌⊎◌, inl, inr, ℕ, zero, suc, ◌+◌, ◌<◌, ◌≤◌, List, [], ◌∷◌, ◌++◌, true, false, map, length, get_or, Contains, ap, sym, subst, ◌∙◌, arith}
use Rattle.std.specs.List.{AllByRecursion}
use Rattle.std.specs.BinaryHeap.{heap_items}
use Rattle.std.specs.Ordering.{is_lt, nat_cmp}
use Rattle.std.specs.declared.cmp.Reverse.{Reverse}
use Rattle.std.proofs.lemmas.Bool.{cases_eq, cases_lt}
use Rattle.std.proofs.lemmas.List.{get_or_default, get_or_past}
use Rattle.std.proofs.lemmas.Map.Keys.{ge_from_not_lt}
use Rattle.build_plan.specs.Rows.{row_at}
use Rattle.build_plan.specs.Lists.{has_mark, count_of}
use Rattle.build_plan.specs.Links.{AreTurned}
use Rattle.build_plan.specs.Front.{WaitsForNone, IsFree, IsLeastFree, waits, times_free, queued, IsQueue}
use Rattle.build_plan.specs.Kept.{stand, IsFront}
use Rattle.build_plan.specs.declared.front.Front.TheInside.{Inside}
use Rattle.build_plan.proofs.Counting.{same_count, same_one, same_none, count_cons, count_push, counted, found, not_counted, is_counted, few, many}
use Rattle.build_plan.proofs.QueueLaws.{free_inside, free_once}
use Rattle.build_plan.proofs.WaitLaws.{waits_none, none_waited, waits_spared, waits_fewer}

-- no entry of a heap is less than its top
least_entry : (p : ℕ) (entries : List (Reverse ℕ)) → AllByRecursion (λ (y : Reverse ℕ). is_lt (nat_cmp y.0 p) ≡ false) entries
    → (q : ℕ) → Contains (map (λ (entry : Reverse ℕ). entry.0) entries) q → p ≤ q
least_entry p [] h q c = let k : c.0 < 0 = c.1 in absurd (omega arith)
least_entry p (y ∷ ys) h q (zero, k, e) = let l = ge_from_not_lt y.0 p h.0 in omega arith
least_entry p (y ∷ ys) h q (suc i, k, e) = least_entry p ys h.1 q (i, omega arith, e)

free_zero : (waiting : List ℕ) (p : ℕ) → 0 < times_free waiting p → get_or waiting p 1 ≡ 0
free_zero waiting p h = by (cases_eq (get_or waiting p 1) 0)
  where
    by : (get_or waiting p 1 ≡ 0) ⊎ (get_or waiting p 1 ≡ 0 → ⊥) → get_or waiting p 1 ≡ 0
    by (inl e) = e
    by (inr n) = let none = same_none (get_or waiting p 1) 0 n in absurd (omega arith)

module _ (front : Inside) (is : IsFront front) where
  abbrev places : ℕ
  places = length front.links

  pub queue_of : IsQueue front.waiting.items front.ready
  queue_of = record {
    once = λ q. (let k = is.once q in omega arith);
    ordered = is.ordered;
    room = (let s = is.waiting in let r = is.room in omega arith);
  }

  within_of : (p : ℕ) → 0 < times_free front.waiting.items p → p < places
  within_of p h = subst (λ n. p < n) is.waiting (free_inside front.waiting.items p h)

  -- a place is in the queue or was given where it waits for none
  clear_of : (p : ℕ) → 0 < times_free front.waiting.items p → WaitsForNone (stand front) p
  clear_of p h =
      let inside = within_of p h in
      let free = free_zero front.waiting.items p h in
      let same = get_or_default front.waiting.items p 0 1 (free_inside front.waiting.items p h) in
      let count = is.waits p inside in
      waits_none front.spared.items front.finished.items front.links p (omega arith)

  free_of : (p : ℕ) → p < places → WaitsForNone (stand front) p → times_free front.waiting.items p ≡ 1
  free_of p h clear =
      let none = none_waited front.spared.items front.finished.items front.links p clear in
      let count = is.waits p h in
      let same = get_or_default front.waiting.items p 0 1 (subst (λ n. p < n) (sym is.waiting) h) in
      same_one (get_or front.waiting.items p 1) 0 (omega arith)

  pub given_within : (p : ℕ) → Contains front.given.items p → p < places
  given_within p c = let k = counted front.given.items p c in let o = is.once p in within_of p (omega arith)

  pub given_clear : (p : ℕ) → Contains front.given.items p → WaitsForNone (stand front) p
  given_clear p c = let k = counted front.given.items p c in let o = is.once p in clear_of p (omega arith)

  pub finished_within : (p : ℕ) → Contains front.finished.items p → p < places
  finished_within p c =
      let k = counted front.finished.items p c in
      let f = is.finished p in
      given_within p (found front.given.items p (omega arith))

  -- places that are free, none of them twice
  few_free : (xs : List ℕ) → ((q : ℕ) → count_of q xs ≤ times_free front.waiting.items q) → length xs ≤ places
  few_free xs h = few xs places (λ q. let a = h q in let b = free_once front.waiting.items q in omega arith) (λ q k. let a = h q in within_of q (omega arith))

  -- ---- what is given next

  queued_free : (q : ℕ) → IsFree (stand front) q → Contains (queued front.ready) q
  queued_free q free =
      let all = is.once q in
      let none = not_counted front.given.items q free.is_new in
      let one = free_of q free.within free.clear in
      found (queued front.ready) q (omega arith)

  module _ (p : ℕ) (c : Contains (queued front.ready) p) where
    top_free : IsFree (stand front) p
    top_free =
        let one = counted (queued front.ready) p c in
        let all = is.once p in
        record {
          within = within_of p (omega arith);
          is_new = λ g. (let k = counted front.given.items p g in let b = free_once front.waiting.items p in omega arith);
          clear = clear_of p (omega arith);
        }

    room_for : (q : ℕ) → (p ≡ q) ⊎ (p ≡ q → ⊥) → count_of q (p ∷ front.given.items) ≤ times_free front.waiting.items q
    room_for q (inl e) =
        let first = count_cons q p front.given.items in
        let one = same_one p q e in
        let there = counted (queued front.ready) q (subst (λ x. Contains (queued front.ready) x) e c) in
        let all = is.once q in
        omega arith
    room_for q (inr n) =
        let first = count_cons q p front.given.items in
        let none = same_none p q n in
        let all = is.once q in
        omega arith

    pub given_room : length front.given.items < places
    given_room = let k = few_free (p ∷ front.given.items) (λ q. room_for q (cases_eq p q)) in omega arith

  pub none_free : heap_items front.ready ≡ [] → (q : ℕ) → ¬ (IsFree (stand front) q)
  none_free empty q free =
      let c = subst (λ (xs : List (Reverse ℕ)). Contains (map (λ (entry : Reverse ℕ). entry.0) xs) q) empty (queued_free q free) in
      let k : c.0 < 0 = c.1 in
      omega arith

  pub least_free : (p : ℕ) → Contains (queued front.ready) p → AllByRecursion (λ (y : Reverse ℕ). is_lt (nat_cmp y.0 p) ≡ false) (heap_items front.ready) → IsLeastFree (stand front) p
  least_free p c top = record { free = top_free p c; least = λ q free. least_entry p (heap_items front.ready) top q (queued_free q free) }

  -- ---- what is finished

  module _ (p : ℕ) (given : Contains front.given.items p) (unfinished : Contains front.finished.items p → ⊥) where
    none_yet : count_of p front.finished.items ≡ 0
    none_yet = not_counted front.finished.items p unfinished

    finished_more : (q : ℕ) → (p ≡ q) ⊎ (p ≡ q → ⊥) → count_of q front.finished.items + same_count p q ≤ count_of q front.given.items
    finished_more q (inl e) =
        let one = same_one p q e in
        let none : count_of q front.finished.items ≡ 0 = ap (λ x. count_of x front.finished.items) (sym e) ∙ none_yet in
        let there = counted front.given.items q (subst (λ x. Contains front.given.items x) e given) in
        omega arith
    finished_more q (inr n) = let none = same_none p q n in let f = is.finished q in omega arith

    pub finished_push : (q : ℕ) → count_of q (front.finished.items ++ p ∷ []) ≤ count_of q front.given.items
    finished_push q = let k = finished_more q (cases_eq p q) in let a = count_push q front.finished.items p in omega arith

    pub finished_room : length front.finished.items < places
    finished_room =
        let k = few_free (p ∷ front.finished.items)
        (λ q. let a = finished_more q (cases_eq p q) in let b = count_cons q p front.finished.items in let o = is.once q in omega arith) in
        omega arith

    module _ (importers : List (List ℕ)) (t : AreTurned front.links importers) (m : has_mark front.spared.items p ≡ false) where
      fewer : (q : ℕ) → waits front.links front.spared.items (front.finished.items ++ p ∷ []) q + count_of q (row_at importers p) ≡ waits front.links front.spared.items front.finished.items q
      fewer q = let a = waits_fewer front.spared.items front.finished.items p m none_yet front.links q in let b = t.count q p in omega arith

      pub enough : (q : ℕ) → count_of q (row_at importers p) ≤ get_or front.waiting.items q 0
      enough q = by (cases_lt q places)
        where
          by : (q < places) ⊎ (places ≤ q) → count_of q (row_at importers p) ≤ get_or front.waiting.items q 0
          by (inl h) = let a = fewer q in let b = is.waits q h in omega arith
          by (inr h) =
              let a = t.count q p in
              let b : count_of p (row_at front.links q) ≡ 0 = ap (count_of p) (get_or_past front.links q [] h) in
              omega arith

      pub waits_now : (new : List ℕ) → length new ≡ length front.waiting.items → ((q : ℕ) → get_or new q 1 + count_of q (row_at importers p) ≡ get_or front.waiting.items q 1)
          → (q : ℕ) → q < places → get_or new q 0 ≡ waits front.links front.spared.items (front.finished.items ++ p ∷ []) q
      waits_now new size counts q h =
          let a = fewer q in
          let b = is.waits q h in
          let c = counts q in
          let old_inside : q < length front.waiting.items = subst (λ n. q < n) (sym is.waiting) h in
          let d = get_or_default front.waiting.items q 0 1 old_inside in
          let e = get_or_default new q 0 1 (subst (λ n. q < n) (sym size) old_inside) in
          omega arith

    pub waits_still : has_mark front.spared.items p ≡ true → (q : ℕ) → q < places → get_or front.waiting.items q 0 ≡ waits front.links front.spared.items (front.finished.items ++ p ∷ []) q
    waits_still m q h = is.waits q h ∙ sym (waits_spared front.spared.items front.finished.items p m front.links q)

  -- ---- where all are finished

  finished_once : (q : ℕ) → count_of q front.finished.items ≤ 1
  finished_once q = let f = is.finished q in let o = is.once q in let b = free_once front.waiting.items q in omega arith

  finished_few : (xs : List ℕ) → ((q : ℕ) → count_of q xs ≤ 1) → ((q : ℕ) → 0 < count_of q xs → q < places) → length xs ≤ places
  finished_few xs once below = few xs places once below

  counted_within : (q : ℕ) → 0 < count_of q front.finished.items → q < places
  counted_within q k = finished_within q (found front.finished.items q k)

  pub all_finished : length front.finished.items ≡ places → (q : ℕ) → q < places → Contains front.finished.items q
  all_finished size q h = by (is_counted front.finished.items q)
    where
      by : Contains front.finished.items q ⊎ (Contains front.finished.items q → ⊥) → Contains front.finished.items q
      by (inl c) = c
      by (inr n) =
          let none = not_counted front.finished.items q n in
          let most = finished_few (q ∷ front.finished.items) (λ x. once x (cases_eq q x)) (λ x k. below x (cases_eq q x) k) in
          absurd (omega arith)
        where
          once : (x : ℕ) → (q ≡ x) ⊎ (q ≡ x → ⊥) → count_of x (q ∷ front.finished.items) ≤ 1
          once x (inl e) =
              let first = count_cons x q front.finished.items in
              let one = same_one q x e in
              let none : count_of x front.finished.items ≡ 0 = not_counted front.finished.items x (λ c. n (subst (λ y. Contains front.finished.items y) (sym e) c)) in
              omega arith
          once x (inr m) = let first = count_cons x q front.finished.items in let other = same_none q x m in let o = finished_once x in omega arith

          below : (x : ℕ) → (q ≡ x) ⊎ (q ≡ x → ⊥) → 0 < count_of x (q ∷ front.finished.items) → x < places
          below x (inl e) k = subst (λ y. y < places) e h
          below x (inr m) k = let first = count_cons x q front.finished.items in let other = same_none q x m in counted_within x (omega arith)

  pub finished_all : ((q : ℕ) → q < places → Contains front.finished.items q) → length front.finished.items ≡ places
  finished_all all =
      let most = finished_few front.finished.items finished_once counted_within in
      let least = many front.finished.items places (λ q h. counted front.finished.items q (all q h)) in
      omega arith
