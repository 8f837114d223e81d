-- A queue and the set of its ids, as a request is pushed, marked and taken.
use Rattle.std.proofs.Common.{◌≡◌, ◌||◌, ℕ, zero, suc, ◌+◌, ◌<◌, ◌≤◌, Bool, true, false, cond, List, [], ◌∷◌, ◌++◌, length, take, drop, get_or, set, remove, position, Some, None, refl, ap, sym, ◌∙◌, subst, arith}
use Rattle.std.specs.Prelude.{if◌then◌else◌}
use Rattle.std.specs.List.{position_from}
use Rattle.std.proofs.lemmas.Iterator.Adapters.{position_from-zero}
use Rattle.std.proofs.lemmas.List.{set-get_or, set_split}
use Rattle.std.proofs.lemmas.List.Quantifiers.{position-Some}
use Rattle.indexmap.specs.IndexSet.{IndexSet, contains}
use Rattle.rpc_peer.specs.declared.message.Id.{Id}
use Rattle.rpc_peer.specs.OpenIds.{has_id, same_id}
use Rattle.session_queue.specs.IdSet.{HasIdsOf, equal}
use Rattle.session_queue.specs.Waiting.{AreApart, all_marked, first_marked, has_this_id, ids, is_open, marked_if, marked_where}
use Rattle.session_queue.specs.declared.waiting.Waiting.{Waiting}
use Rattle.session_queue.proofs.CallerLaws.{TakesMarked, ids-append}
use Rattle.session_queue.proofs.IdLaws.{AreApart-push, AreApart-without, apart_back, both_false, equal_is_same, found_behind, has_id_around, has_id_push, middle_apart, or_false, same_is}

or_true : (b : Bool) → (b || true) ≡ true
or_true true = refl
or_true false = refl

or_none : (b : Bool) → (b || false) ≡ b
or_none true = refl
or_none false = refl

module _ {T : Type 0} where
  abbrev pub cancelled_now : Waiting T → Waiting T
  cancelled_now waiting = record waiting { cancelled = true }

  -- ---- the set of ids

  module _ {S : Type 0} where
    -- the set has an id more
    pub HasIdsOf-push : (queue room items : List (Waiting T)) (waiting : Waiting T) (old new : IndexSet Id S) → HasIdsOf queue old → is_open waiting.id queue ≡ false → room ≡ queue → items ≡ room ++ waiting ∷ []
        → ((id : Id) → contains equal new id ≡ (if equal waiting.id id then true else contains equal old id)) → HasIdsOf items new
    HasIdsOf-push queue room items waiting old new has none same is told =
        let more : ids items ≡ ids queue ++ waiting.id ∷ [] = ap ids is ∙ (ids-append room (waiting ∷ []) ∙ ap (λ (held : List (Waiting T)). ids held ++ waiting.id ∷ []) same) in
        record {
          apart = subst AreApart (sym more) (AreApart-push (ids queue) waiting.id has.apart none);
          known = λ id.
              told id
              ∙ (ap (λ (same : Bool). if same then true else contains equal old id) (equal_is_same waiting.id id)
              ∙ (ap (λ (held : Bool). if same_id waiting.id id then true else held) (has.known id)
              ∙ (sym (has_id_push (ids queue) waiting.id id)
              ∙ ap (has_id id) (sym more))));
        }

    -- or one less
    pub HasIdsOf-without : (before : List (Waiting T)) (waiting : Waiting T) (after queue items : List (Waiting T)) (old new : IndexSet Id S) → HasIdsOf queue old → queue ≡ before ++ waiting ∷ after → items ≡ before ++ after
        → ((id : Id) → contains equal new id ≡ (if equal waiting.id id then false else contains equal old id)) → HasIdsOf items new
    HasIdsOf-without before waiting after queue items old new has was is told =
        let were : ids queue ≡ ids before ++ waiting.id ∷ ids after = ap ids was ∙ ids-append before (waiting ∷ after) in
        let fewer : ids items ≡ ids before ++ ids after = ap ids is ∙ ids-append before after in
        let apart = subst AreApart were has.apart in
        record {
          apart = subst AreApart (sym fewer) (AreApart-without (ids before) waiting.id (ids after) apart);
          known = λ id.
              told id
              ∙ (ap (λ (same : Bool). if same then false else contains equal old id) (equal_is_same waiting.id id)
              ∙ (ap (λ (held : Bool). if same_id waiting.id id then false else held) (has.known id ∙ ap (has_id id) were)
              ∙ (by id apart (same_id waiting.id id) refl
              ∙ ap (has_id id) (sym fewer))));
        }
      where
        by : (id : Id) → AreApart (ids before ++ waiting.id ∷ ids after) → (same : Bool) → same_id waiting.id id ≡ same
            → (if same_id waiting.id id then false else has_id id (ids before ++ waiting.id ∷ ids after)) ≡ has_id id (ids before ++ ids after)
        by id apart true here = rw here (sym (ap (λ (q : Id). has_id q (ids before ++ ids after)) (sym (same_is waiting.id id here)) ∙ middle_apart (ids before) waiting.id (ids after) apart))
        by id apart false away = rw away (has_id_around id (ids before) waiting.id (ids after) (apart_back waiting.id id away))

  -- ---- marks

  ids-marked : (test : Waiting T → Bool) (queue : List (Waiting T)) → ids (marked_where test queue) ≡ ids queue
  ids-marked test [] = refl
  ids-marked test (waiting ∷ queue) = ap (λ (rest : List Id). waiting.id ∷ rest) (ids-marked test queue)

  -- the ids stay as marks change
  pub HasIdsOf-marked : {S : Type 0} → (test : Waiting T → Bool) (queue items : List (Waiting T)) (held : IndexSet Id S) → HasIdsOf queue held → items ≡ marked_where test queue → HasIdsOf items held
  HasIdsOf-marked test queue items held has is =
      let same : ids items ≡ ids queue = ap ids is ∙ ids-marked test queue in
      record {
        apart = subst AreApart (sym same) has.apart;
        known = λ id. has.known id ∙ ap (has_id id) (sym same);
      }

  -- where none has this id, none is marked by it
  pub none_has_it : (id : Id) (queue : List (Waiting T)) → is_open id queue ≡ false → marked_where (has_this_id id) queue ≡ queue
  none_has_it id [] none = refl
  none_has_it id (waiting ∷ queue) none =
      let parts = or_false (same_id id waiting.id) (has_id id (ids queue)) none in
      ap (λ (b : Bool). marked_if b waiting ∷ marked_where (has_this_id id) queue) parts.0
      ∙ (ap (λ (b : Bool). record waiting { cancelled = b } ∷ marked_where (has_this_id id) queue) (or_none waiting.cancelled)
      ∙ ap (λ (rest : List (Waiting T)). waiting ∷ rest) (none_has_it id queue parts.1))

  -- the first that has it is the one that has it
  one_has_it : (id : Id) (queue : List (Waiting T)) (index : ℕ) (d : Waiting T) → AreApart (ids queue) → index < length queue → same_id id (get_or queue index d).id ≡ true
      → ((k : ℕ) → k < index → same_id id (get_or queue k d).id ≡ false) → set queue index (cancelled_now (get_or queue index d)) ≡ marked_where (has_this_id id) queue
  one_has_it id [] index d apart below here before = absurd (omega arith)
  one_has_it id (waiting ∷ queue) zero d apart below here before =
      sym (ap (λ (b : Bool). marked_if b waiting ∷ marked_where (has_this_id id) queue) here
      ∙ (ap (λ (b : Bool). record waiting { cancelled = b } ∷ marked_where (has_this_id id) queue) (or_true waiting.cancelled)
      ∙ ap (λ (rest : List (Waiting T)). cancelled_now waiting ∷ rest) (none_has_it id queue (ap (λ (q : Id). has_id q (ids queue)) (same_is id waiting.id here) ∙ apart.0))))
  one_has_it id (waiting ∷ queue) (suc index) d apart below here before =
      ap (λ (rest : List (Waiting T)). waiting ∷ rest) (one_has_it id queue index d apart.1 (omega arith) here (λ k less. before (suc k) (omega arith)))
      ∙ sym (ap (λ (b : Bool). marked_if b waiting ∷ marked_where (has_this_id id) queue) (before 0 (omega arith))
      ∙ ap (λ (b : Bool). record waiting { cancelled = b } ∷ marked_where (has_this_id id) queue) (or_none waiting.cancelled))

  pub marks_one : (id : Id) (queue : List (Waiting T)) (index : ℕ) (waiting : Waiting T) → AreApart (ids queue) → position (λ w. equal id w.id) queue ≡ Some index → waiting ≡ get_or queue index waiting
      → set queue index (cancelled_now waiting) ≡ marked_where (has_this_id id) queue
  marks_one id queue index waiting apart first at =
      let found = position-Some (λ (w : Waiting T). equal id w.id) queue index waiting first in
      ap (λ (w : Waiting T). set queue index (cancelled_now w)) at
      ∙ one_has_it id queue index waiting apart found.0 (sym (equal_is_same id (get_or queue index waiting).id) ∙ found.1)
      (λ k below. sym (equal_is_same id (get_or queue k waiting).id) ∙ found.2 k below)

  -- an id is found where it waits
  waits_at : (id : Id) (queue : List (Waiting T)) (index : ℕ) (d : Waiting T) → index < length queue → same_id id (get_or queue index d).id ≡ true → is_open id queue ≡ true
  waits_at id [] index d below here = absurd (omega arith)
  waits_at id (waiting ∷ queue) zero d below here = ap (λ (b : Bool). b || has_id id (ids queue)) here
  waits_at id (waiting ∷ queue) (suc index) d below here = found_behind (same_id id waiting.id) (has_id id (ids queue)) (waits_at id queue index d (omega arith) here)

  pub waits : (id : Id) (queue : List (Waiting T)) (index : ℕ) (d : Waiting T) → position (λ w. equal id w.id) queue ≡ Some index → is_open id queue ≡ true
  waits id queue index d first =
      let found = position-Some (λ (w : Waiting T). equal id w.id) queue index d first in
      waits_at id queue index d found.0 (sym (equal_is_same id (get_or queue index d).id) ∙ found.1)

  waits_nowhere : (id : Id) (queue : List (Waiting T)) (from : ℕ) → position_from (λ w. equal id w.id) from queue ≡ None → is_open id queue ≡ false
  waits_nowhere id [] from none = refl
  waits_nowhere id (waiting ∷ queue) from none = by (equal id waiting.id) refl (waits_nowhere id queue (from + 1))
    where
      by : (b : Bool) → equal id waiting.id ≡ b → (position_from (λ w. equal id w.id) (from + 1) queue ≡ None → is_open id queue ≡ false) → is_open id (waiting ∷ queue) ≡ false
      by true here rest =
          let found : Some from ≡ None = ap (λ (b : Bool). cond b (Some from) (position_from (λ (w : Waiting T). equal id w.id) (from + 1) queue)) (sym here) ∙ none in
          absurd (cc)
      by false away rest =
          let behind = ap (λ (b : Bool). cond b (Some from) (position_from (λ (w : Waiting T). equal id w.id) (from + 1) queue)) (sym away) ∙ none in
          both_false (same_id id waiting.id) (has_id id (ids queue)) (sym (equal_is_same id waiting.id) ∙ away) (rest behind)

  pub does_not_wait : (id : Id) (queue : List (Waiting T)) → position (λ w. equal id w.id) queue ≡ None → is_open id queue ≡ false
  does_not_wait id queue none = waits_nowhere id queue 0 (sym (position_from-zero (λ w. equal id w.id) queue) ∙ none)

  -- the first so many are marked
  abbrev pub marked_upto : ℕ → List (Waiting T) → List (Waiting T)
  marked_upto zero queue = queue
  marked_upto (suc i) [] = []
  marked_upto (suc i) (waiting ∷ queue) = cancelled_now waiting ∷ marked_upto i queue

  pub length-marked_upto : (i : ℕ) (queue : List (Waiting T)) → length (marked_upto i queue) ≡ length queue
  length-marked_upto zero queue = refl
  length-marked_upto (suc i) [] = refl
  length-marked_upto (suc i) (waiting ∷ queue) = ap suc (length-marked_upto i queue)

  pub marked_upto-set : (i : ℕ) (queue : List (Waiting T)) (d : Waiting T) → set (marked_upto i queue) i (cancelled_now (get_or (marked_upto i queue) i d)) ≡ marked_upto (suc i) queue
  marked_upto-set zero [] d = refl
  marked_upto-set (suc i) [] d = refl
  marked_upto-set zero (waiting ∷ queue) d = refl
  marked_upto-set (suc i) (waiting ∷ queue) d = ap (λ (rest : List (Waiting T)). cancelled_now waiting ∷ rest) (marked_upto-set i queue d)

  pub marked_upto-all : (i : ℕ) (queue : List (Waiting T)) → length queue ≤ i → marked_upto i queue ≡ all_marked queue
  marked_upto-all zero [] long = refl
  marked_upto-all (suc i) [] long = refl
  marked_upto-all zero (waiting ∷ queue) long = absurd (omega arith)
  marked_upto-all (suc i) (waiting ∷ queue) long =
      ap (λ (b : Bool). record waiting { cancelled = b } ∷ marked_upto i queue) (sym (or_true waiting.cancelled))
      ∙ ap (λ (rest : List (Waiting T)). marked_if true waiting ∷ rest) (marked_upto-all i queue (omega arith))

  -- ---- the first that is marked

  none_before : (queue : List (Waiting T)) (index : ℕ) (d : Waiting T) → ((k : ℕ) → k < index → (get_or queue k d).cancelled ≡ false) → first_marked (take index queue) ≡ None
  none_before queue zero d unmarked = refl
  none_before [] (suc index) d unmarked = refl
  none_before (waiting ∷ queue) (suc index) d unmarked =
      ap (λ (b : Bool). cond b (Some waiting) (first_marked (take index queue))) (unmarked 0 (omega arith))
      ∙ none_before queue index d (λ k below. unmarked (suc k) (omega arith))

  none_found : (queue : List (Waiting T)) (from : ℕ) → position_from (λ w. w.cancelled) from queue ≡ None → first_marked queue ≡ None
  none_found [] from none = refl
  none_found (waiting ∷ queue) from none = by waiting.cancelled refl (none_found queue (from + 1))
    where
      by : (b : Bool) → waiting.cancelled ≡ b → (position_from (λ w. w.cancelled) (from + 1) queue ≡ None → first_marked queue ≡ None) → first_marked (waiting ∷ queue) ≡ None
      by true here rest =
          let found : Some from ≡ None = ap (λ (b : Bool). cond b (Some from) (position_from (λ (w : Waiting T). w.cancelled) (from + 1) queue)) (sym here) ∙ none in
          absurd (cc)
      by false away rest =
          let behind = ap (λ (b : Bool). cond b (Some from) (position_from (λ (w : Waiting T). w.cancelled) (from + 1) queue)) (sym away) ∙ none in
          ap (λ (b : Bool). cond b (Some waiting) (first_marked queue)) away ∙ rest behind

  pub none_at_all : (queue : List (Waiting T)) → position (λ w. w.cancelled) queue ≡ None → first_marked queue ≡ None
  none_at_all queue none = none_found queue 0 (sym (position_from-zero (λ w. w.cancelled) queue) ∙ none)

  -- it stands between others, none of which in front of it is marked
  pub takes_marked : (queue rest : List (Waiting T)) (index : ℕ) (waiting : Waiting T) → position (λ w. w.cancelled) queue ≡ Some index → waiting ≡ get_or queue index waiting → rest ≡ remove queue index
      → TakesMarked queue waiting rest
  takes_marked queue rest index waiting first at is =
      let found = position-Some (λ (w : Waiting T). w.cancelled) queue index waiting first in
      record {
        before = take index queue;
        after = drop (suc index) queue;
        was = sym (set-get_or queue index waiting) ∙ (ap (set queue index) (sym at) ∙ set_split queue index waiting found.0);
        is = is;
        marked = ap (λ (w : Waiting T). w.cancelled) at ∙ found.1;
        none_before = none_before queue index waiting found.2;
      }
