-- What callers need of lists of requests that wait: which one is taken, and what all that are taken come to.
use Rattle.std.proofs.Common.{◌≡◌, Bool, true, false, cond, List, [], ◌∷◌, ◌++◌, Option, Some, None, refl, ap, sym, ◌∙◌, subst}
use Rattle.std.specs.Prelude.{not}
use Rattle.std.specs.Option.{option_or}
use Rattle.std.proofs.lemmas.List.Elements.{filter-append}
use Rattle.std.proofs.lemmas.List.Folds.{find-append}
use Rattle.rpc_peer.specs.declared.message.Id.{Id}
use Rattle.rpc_peer.specs.OpenIds.{has_id, same_id}
use Rattle.session_queue.specs.Waiting.{AreApart, first_marked, ids, kept_of, marked_of, without}
use Rattle.session_queue.specs.declared.waiting.Waiting.{Waiting}
use Rattle.session_queue.proofs.IdLaws.{apart_back, apart_from_middle, same_id_refl}

module _ {T : Type 0} where
  -- A marked request was taken from between those before it, none of which is marked, and those behind it.
  pub record TakesMarked (old : List (Waiting T)) (taken : Waiting T) (new : List (Waiting T)) : Type 0 where
    pub before : List (Waiting T)
    pub after : List (Waiting T)
    pub was : old ≡ before ++ taken ∷ after
    pub is : new ≡ before ++ after
    pub marked : taken.cancelled ≡ true
    pub none_before : first_marked before ≡ None

  pub ids-append : (before after : List (Waiting T)) → ids (before ++ after) ≡ ids before ++ ids after
  ids-append [] after = refl
  ids-append (waiting ∷ before) after = ap (λ (rest : List Id). waiting.id ∷ rest) (ids-append before after)

  -- the one that is taken away by its id stands between these
  pub without_at : (before : List (Waiting T)) (waiting : Waiting T) (after : List (Waiting T)) → AreApart (ids (before ++ waiting ∷ after)) → without waiting.id (before ++ waiting ∷ after) ≡ before ++ after
  without_at [] waiting after apart = ap (λ (same : Bool). cond same after (waiting ∷ without waiting.id after)) (same_id_refl waiting.id)
  without_at (first ∷ before) waiting after apart =
      let away : same_id first.id waiting.id ≡ false = apart_from_middle first.id (ids before) waiting.id (ids after) (ap (has_id first.id) (sym (ids-append before (waiting ∷ after))) ∙ apart.0) in
      ap (λ (same : Bool). cond same (before ++ waiting ∷ after) (first ∷ without waiting.id (before ++ waiting ∷ after))) (apart_back first.id waiting.id away)
      ∙ ap (λ (rest : List (Waiting T)). first ∷ rest) (without_at before waiting after apart.1)

  -- where none is marked, none is taken, and all are kept
  pub none_marked : (queue : List (Waiting T)) → first_marked queue ≡ None → (marked_of queue ≡ []) × (kept_of queue ≡ queue)
  none_marked [] none = (refl, refl)
  none_marked (waiting ∷ queue) none = by waiting.cancelled refl (none_marked queue)
    where
      by : (cancelled : Bool) → waiting.cancelled ≡ cancelled → (first_marked queue ≡ None → (marked_of queue ≡ []) × (kept_of queue ≡ queue))
          → (marked_of (waiting ∷ queue) ≡ []) × (kept_of (waiting ∷ queue) ≡ waiting ∷ queue)
      by true is rest =
          let found : Some waiting ≡ None = ap (λ (b : Bool). cond b (Some waiting) (first_marked queue)) (sym is) ∙ none in
          absurd (cc)
      by false is rest =
          let others = rest (ap (λ (b : Bool). cond b (Some waiting) (first_marked queue)) (sym is) ∙ none) in (
            ap (λ (b : Bool). cond b (waiting ∷ marked_of queue) (marked_of queue)) is ∙ others.0,
            ap (λ (b : Bool). cond (not b) (waiting ∷ kept_of queue) (kept_of queue)) is ∙ ap (λ (kept : List (Waiting T)). waiting ∷ kept) others.1,
          )

  -- the first that is marked stands behind some that aren't
  SplitsAt : List (Waiting T) → Waiting T → Type 0
  SplitsAt queue taken =
      (before : List (Waiting T)) × (after : List (Waiting T)) × (queue ≡ before ++ taken ∷ after) × (taken.cancelled ≡ true) × (first_marked before ≡ None)

  split_at : (queue : List (Waiting T)) (taken : Waiting T) → first_marked queue ≡ Some taken → SplitsAt queue taken
  unfolding SplitsAt
  split_at [] taken first = absurd (cc)
  split_at (waiting ∷ queue) taken first = by waiting.cancelled refl (split_at queue taken)
    where
      by : (cancelled : Bool) → waiting.cancelled ≡ cancelled → (first_marked queue ≡ Some taken → SplitsAt queue taken) → SplitsAt (waiting ∷ queue) taken
      by true is rest =
          let found : Some waiting ≡ Some taken = ap (λ (b : Bool). cond b (Some waiting) (first_marked queue)) (sym is) ∙ first in
          let same : waiting ≡ taken = cc in
          ([], queue, ap (λ (w : Waiting T). w ∷ queue) same, ap (λ (w : Waiting T). w.cancelled) (sym same) ∙ is, refl)
      by false is rest =
          let others = rest (ap (λ (b : Bool). cond b (Some waiting) (first_marked queue)) (sym is) ∙ first) in
          (waiting ∷ others.0, others.1, ap (λ (more : List (Waiting T)). waiting ∷ more) others.2, others.3, ap (λ (b : Bool). cond b (Some waiting) (first_marked others.0)) is ∙ others.4)

  pub split_marked : (queue : List (Waiting T)) (taken : Waiting T) → AreApart (ids queue) → first_marked queue ≡ Some taken → TakesMarked queue taken (without taken.id queue)
  unfolding SplitsAt
  split_marked queue taken apart first =
      let split = split_at queue taken first in
      record {
        before = split.0;
        after = split.1;
        was = split.2;
        is = ap (without taken.id) split.2 ∙ without_at split.0 taken split.1 (subst (λ (q : List (Waiting T)). AreApart (ids q)) split.2 apart);
        marked = split.3;
        none_before = split.4;
      }

  -- the first that is marked is the first of all that are
  pub marked_falls : (queue new : List (Waiting T)) (taken : Waiting T) → TakesMarked queue taken new → marked_of queue ≡ taken ∷ marked_of new
  marked_falls queue new taken takes =
      let none = (none_marked takes.before takes.none_before).0 in
      rw (takes.was, takes.is, filter-append, filter-append, none, takes.marked) refl

  -- and the others are kept in order
  pub kept_stays : (queue new : List (Waiting T)) (taken : Waiting T) → TakesMarked queue taken new → kept_of new ≡ kept_of queue
  kept_stays queue new taken takes =
      rw (takes.was, takes.is, filter-append, filter-append, takes.marked) refl

  -- what was taken so is the first that is marked
  pub taken_is_first : (queue new : List (Waiting T)) (taken : Waiting T) → TakesMarked queue taken new → first_marked queue ≡ Some taken
  taken_is_first queue new taken takes =
      ap first_marked takes.was
      ∙ (find-append (λ (waiting : Waiting T). waiting.cancelled) takes.before (taken ∷ takes.after)
      ∙ (ap (λ (o : Option (Waiting T)). option_or o (first_marked (taken ∷ takes.after))) takes.none_before
      ∙ ap (λ (b : Bool). cond b (Some taken) (first_marked takes.after)) takes.marked))

  -- and what is left is the queue without its id
  pub taken_by_id : (queue new : List (Waiting T)) (taken : Waiting T) → AreApart (ids queue) → TakesMarked queue taken new → new ≡ without taken.id queue
  taken_by_id queue new taken apart takes =
      takes.is ∙ sym (ap (without taken.id) takes.was ∙ without_at takes.before taken takes.after (subst (λ (q : List (Waiting T)). AreApart (ids q)) takes.was apart))

  pub TakesMarked-same : (seen queue new : List (Waiting T)) (waiting taken : Waiting T) → seen ≡ queue → taken ≡ waiting → TakesMarked seen waiting new → TakesMarked queue taken new
  TakesMarked-same seen queue new waiting taken same_queue same takes = record {
    before = takes.before;
    after = takes.after;
    was = sym same_queue ∙ (takes.was ∙ ap (λ (w : Waiting T). takes.before ++ w ∷ takes.after) (sym same));
    is = takes.is;
    marked = ap (λ (w : Waiting T). w.cancelled) same ∙ takes.marked;
    none_before = takes.none_before;
  }
