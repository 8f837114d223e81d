-- Which stems the modules of a target see, one pair after another.
use Rattle.std.proofs.Common.{◌≡◌, ◌≢◌, ◌⊎◌, inl, inr, ℕ, ◌+◌, ◌<◌, ◌≤◌, Bool, true, false, List, [], ◌∷◌, length, get_or, set, replicate, Some, ap, sym, subst, ◌∙◌, refl, arith}
use Rattle.std.specs.List.{slice_get, AllPairs}
use Rattle.std.proofs.lemmas.Bool.{false≢true, cases_eq, cases_lt}
use Rattle.std.proofs.lemmas.List.{get_or-set_same, get_or-set_other, get_or-map, length-map}
use Rattle.std.proofs.lemmas.Option.{slice_get_read, slice_get_within, same_Some, get_or_from_slice_get}
use Rattle.target_graph.specs.declared.target.Pair.{Pair}
use Rattle.target_graph.specs.declared.target.Target.{Target}
use Rattle.target_graph.specs.Names.{stem}
use Rattle.target_graph.specs.Walk.{has_met, AreMarks}
use Rattle.target_graph.specs.Workspace.{pairs_of, stems_of, stem_at, IsWay, Sees}
use Rattle.target_graph.specs.Faults.{IsRepeat, IsFirstStemTwice}
use Rattle.target_graph.specs.Stems.{HasNumbers, IsSeen, IsTwice, IsFirstTwice}
use Rattle.target_graph.proofs.PairLaws.{pairs_within}
use Rattle.target_graph.proofs.WalkLaws.{no_marks, mark_leads, leads_mark}

-- the marks stand at the numbers of the seen ones of the first q pairs
pub record IsSeenTo (marks : List Bool) (pairs : List Pair) (numbers : List ℕ) (q : ℕ) (seen : List Bool) : Type 0 where
  pub shown : (n : ℕ) → has_met seen n ≡ true → (p : ℕ) × ((p < q) × IsSeen marks pairs p × (get_or numbers p 0 ≡ n))
  pub whole : (p : ℕ) → p < q → IsSeen marks pairs p → has_met seen (get_or numbers p 0) ≡ true

module _ (marks : List Bool) (pairs : List Pair) (numbers : List ℕ) where
  pub seen_none : (width : ℕ) → IsSeenTo marks pairs numbers 0 (replicate width false)
  seen_none width = record {
    shown = λ n e. absurd (false≢true (sym (no_marks width n) ∙ e));
    whole = λ p h s. absurd (omega arith);
  }

  pub seen_more : (q : ℕ) (seen : List Bool) → IsSeenTo marks pairs numbers q seen → IsSeen marks pairs q → get_or numbers q 0 < length seen
      → IsSeenTo marks pairs numbers (q + 1) (set seen (get_or numbers q 0) true)
  seen_more q seen r here wide = record {
    shown = λ m e. showed m e (cases_eq m n);
    whole = λ p h s. holds p h s (cases_eq (get_or numbers p 0) n) (cases_eq p q);
  }
    where
      n : ℕ
      n = get_or numbers q 0

      showed : (m : ℕ) → has_met (set seen n true) m ≡ true → (m ≡ n) ⊎ (m ≡ n → ⊥) → (p : ℕ) × ((p < q + 1) × IsSeen marks pairs p × (get_or numbers p 0 ≡ m))
      showed m e (inl same) = (q, (omega arith, here, sym same))
      showed m e (inr other) =
          let old = r.shown m (sym (get_or-set_other seen n m true false other) ∙ e) in
          (old.0, (omega (arith, old.1.0), old.1.1, old.1.2))

      holds : (p : ℕ) → p < q + 1 → IsSeen marks pairs p → (get_or numbers p 0 ≡ n) ⊎ (get_or numbers p 0 ≡ n → ⊥) → (p ≡ q) ⊎ (p ≡ q → ⊥)
          → has_met (set seen n true) (get_or numbers p 0) ≡ true
      holds p h s (inl same) k = ap (has_met (set seen n true)) same ∙ get_or-set_same seen n true false wide
      holds p h s (inr other) (inl same) = absurd (other (ap (λ x. get_or numbers x 0) same))
      holds p h s (inr other) (inr before) = get_or-set_other seen n (get_or numbers p 0) true false other ∙ r.whole p (omega arith) s

  pub seen_skip : (q : ℕ) (seen : List Bool) → IsSeenTo marks pairs numbers q seen → ¬ (IsSeen marks pairs q) → IsSeenTo marks pairs numbers (q + 1) seen
  seen_skip q seen r unseen = record {
    shown = λ m e. (let old = r.shown m e in (old.0, (omega (arith, old.1.0), old.1.1, old.1.2)));
    whole = λ p h s. by p h s (cases_eq p q);
  }
    where
      by : (p : ℕ) → p < q + 1 → IsSeen marks pairs p → (p ≡ q) ⊎ (p ≡ q → ⊥) → has_met seen (get_or numbers p 0) ≡ true
      by p h s (inl same) = absurd (unseen (subst (IsSeen marks pairs) same s))
      by p h s (inr other) = r.whole p (omega arith) s

  pub seen_at : (q : ℕ) (pair : Pair) → q < length pairs → pair ≡ get_or pairs q pair → has_met marks pair.target ≡ true → IsSeen marks pairs q
  seen_at q pair h e m = record { pair = pair; there = slice_get_read pairs (length pairs) q pair refl h e; is_marked = m }

  pub unseen_at : (q : ℕ) (pair : Pair) → q < length pairs → pair ≡ get_or pairs q pair → has_met marks pair.target ≡ false → ¬ (IsSeen marks pairs q)
  unseen_at q pair h e m s =
      let same : s.pair ≡ pair = same_Some s.pair pair (sym s.there ∙ slice_get_read pairs (length pairs) q pair refl h e) in
      false≢true (sym m ∙ (ap (λ (p : Pair). has_met marks p.target) (sym same) ∙ s.is_marked))

  pub twice_at : (q : ℕ) (seen : List Bool) → IsSeenTo marks pairs numbers q seen → IsSeen marks pairs q → has_met seen (get_or numbers q 0) ≡ true → IsTwice marks pairs numbers q
  twice_at q seen r here e =
      let old = r.shown (get_or numbers q 0) e in
      record { earlier = old.0; before = old.1.0; seen_earlier = old.1.1; seen = here; same = old.1.2 }

  pub once_at : (q : ℕ) (seen : List Bool) → IsSeenTo marks pairs numbers q seen → has_met seen (get_or numbers q 0) ≡ false → ¬ (IsTwice marks pairs numbers q)
  once_at q seen r free t =
      false≢true (sym free ∙ (ap (has_met seen) (sym t.same) ∙ r.whole t.earlier t.before t.seen_earlier))

  pub once_more : (q : ℕ) → ((k : ℕ) → k < q → ¬ (IsTwice marks pairs numbers k)) → ¬ (IsTwice marks pairs numbers q) → (k : ℕ) → k < q + 1 → ¬ (IsTwice marks pairs numbers k)
  once_more q before here k h = by (cases_eq k q)
    where
      by : (k ≡ q) ⊎ (k ≡ q → ⊥) → ¬ (IsTwice marks pairs numbers k)
      by (inl same) = λ t. here (subst (IsTwice marks pairs numbers) same t)
      by (inr other) = before k (omega arith)

  pub first_twice : (q : ℕ) (pair : Pair) → q < length pairs → pair ≡ get_or pairs q pair → IsTwice marks pairs numbers q → ((k : ℕ) → k < q → ¬ (IsTwice marks pairs numbers k))
      → IsFirstTwice marks pairs numbers (stem pair.path)
  first_twice q pair h e t before = record {
    index = q;
    pair = pair;
    there = slice_get_read pairs (length pairs) q pair refl h e;
    named = refl;
    twice = t;
    first = before;
  }

  pub none_twice : (q : ℕ) → length pairs ≤ q → ((k : ℕ) → k < q → ¬ (IsTwice marks pairs numbers k)) → (k : ℕ) → ¬ (IsTwice marks pairs numbers k)
  none_twice q h before k t = before k (let l = slice_get_within pairs k t.seen.pair t.seen.there in omega arith) t

  pub none_first : ((k : ℕ) → ¬ (IsTwice marks pairs numbers k)) → (name : List ℕ) → ¬ (IsFirstTwice marks pairs numbers name)
  none_first none name f = none f.index f.twice

-- ---- what a target sees

-- each pair's target is a target
pub pair_within : (targets : List Target) (q : ℕ) (pair : Pair) → slice_get (pairs_of targets) q ≡ Some pair → pair.target < length targets
pair_within targets q pair there =
    let l = slice_get_within (pairs_of targets) q pair there in
    subst (λ (p : Pair). p.target < length targets) (get_or_from_slice_get (pairs_of targets) q pair pair there) (pairs_within targets q pair l)

sees_within : (targets : List Target) (t q : ℕ) → Sees targets t q → t < length targets
sees_within targets t q s = go s.leads.way s.leads.is_way
  where
    go : (way : List ℕ) → IsWay targets t way s.pair.target → t < length targets
    go [] e = subst (λ k. k < length targets) (sym e) (pair_within targets q s.pair s.there)
    go (next ∷ way) w = slice_get_within targets t w.0.target w.0.there

module _ (targets : List Target) (t : ℕ) (marks : List Bool) (m : AreMarks targets (t ∷ []) marks) where
  pub sees_seen : (q : ℕ) → Sees targets t q → IsSeen marks (pairs_of targets) q
  sees_seen q s = record { pair = s.pair; there = s.there; is_marked = leads_mark targets t s.pair.target marks m s.leads }

  pub seen_sees : (q : ℕ) → IsSeen marks (pairs_of targets) q → Sees targets t q
  seen_sees q s = record { pair = s.pair; there = s.there; leads = mark_leads targets t s.pair.target marks m s.is_marked }

pub same_index : (keys : List (List ℕ)) (i j : ℕ) → AllPairs ◌≢◌ keys → i < length keys → j < length keys → get_or keys i [] ≡ get_or keys j [] → i ≡ j
same_index keys i j d h k e = by (cases_lt i j) (cases_lt j i)
  where
    by : (i < j) ⊎ (j ≤ i) → (j < i) ⊎ (i ≤ j) → i ≡ j
    by (inl l) o = absurd (d i j [] l k e)
    by (inr l) (inl g) = absurd (d j i [] g h (sym e))
    by (inr l) (inr g) = omega arith

module _ (targets : List Target) (numbers : List ℕ) (width : ℕ) (has : HasNumbers (stems_of (pairs_of targets)) numbers width) where
  pub stems_size : length (stems_of (pairs_of targets)) ≡ length (pairs_of targets)
  stems_size = length-map (pairs_of targets) (λ (p : Pair). stem p.path)

  pub same_number : (p q : ℕ) → p < length (pairs_of targets) → q < length (pairs_of targets) → stem_at targets p ≡ stem_at targets q → get_or numbers p 0 ≡ get_or numbers q 0
  same_number p q h k e =
      let hp : p < length (stems_of (pairs_of targets)) = omega (arith, stems_size) in
      let hq : q < length (stems_of (pairs_of targets)) = omega (arith, stems_size) in
      same_index has.keys (get_or numbers p 0) (get_or numbers q 0) has.numbered.distinct (has.numbered.within p hp) (has.numbered.within q hq)
      (has.numbered.named p hp ∙ (e ∙ sym (has.numbered.named q hq)))

  same_stem : (p q : ℕ) → p < length (pairs_of targets) → q < length (pairs_of targets) → get_or numbers p 0 ≡ get_or numbers q 0 → stem_at targets p ≡ stem_at targets q
  same_stem p q h k e =
      let hp : p < length (stems_of (pairs_of targets)) = omega (arith, stems_size) in
      let hq : q < length (stems_of (pairs_of targets)) = omega (arith, stems_size) in
      sym (has.numbered.named p hp) ∙ (ap (λ n. get_or has.keys n []) e ∙ has.numbered.named q hq)

  pub stem_there : (q : ℕ) (pair : Pair) → slice_get (pairs_of targets) q ≡ Some pair → stem_at targets q ≡ stem pair.path
  stem_there q pair there =
      get_or-map (λ (p : Pair). stem p.path) (pairs_of targets) q pair [] (slice_get_within (pairs_of targets) q pair there)
      ∙ ap (λ (p : Pair). stem p.path) (get_or_from_slice_get (pairs_of targets) q pair pair there)

  module _ (t : ℕ) (marks : List Bool) (m : AreMarks targets (t ∷ []) marks) where
    repeat_twice : (q : ℕ) → IsRepeat targets t q → IsTwice marks (pairs_of targets) numbers q
    repeat_twice q r = record {
      earlier = r.earlier;
      before = r.before;
      seen_earlier = sees_seen targets t marks m r.earlier r.sees_earlier;
      seen = sees_seen targets t marks m q r.sees;
      same = same_number r.earlier q (slice_get_within (pairs_of targets) r.earlier r.sees_earlier.pair r.sees_earlier.there)
          (slice_get_within (pairs_of targets) q r.sees.pair r.sees.there) r.same;
    }

    twice_repeat : (q : ℕ) → IsTwice marks (pairs_of targets) numbers q → IsRepeat targets t q
    twice_repeat q r = record {
      earlier = r.earlier;
      before = r.before;
      sees_earlier = seen_sees targets t marks m r.earlier r.seen_earlier;
      sees = seen_sees targets t marks m q r.seen;
      same = same_stem r.earlier q (slice_get_within (pairs_of targets) r.earlier r.seen_earlier.pair r.seen_earlier.there)
          (slice_get_within (pairs_of targets) q r.seen.pair r.seen.there) r.same;
    }

    pub first_stem : (name : List ℕ) → IsFirstTwice marks (pairs_of targets) numbers name → ((k : ℕ) → k < t → (q : ℕ) → ¬ (IsRepeat targets k q)) → IsFirstStemTwice targets name
    first_stem name f before = record {
      index = t;
      pair = f.index;
      repeats = twice_repeat f.index f.twice;
      named = stem_there f.index f.pair f.there ∙ f.named;
      first_pair = λ q h r. f.first q h (repeat_twice q r);
      first_target = before;
    }

    pub no_repeat_more : ((q : ℕ) → ¬ (IsTwice marks (pairs_of targets) numbers q)) → ((k : ℕ) → k < t → (q : ℕ) → ¬ (IsRepeat targets k q)) → (k : ℕ) → k < t + 1 → (q : ℕ)
        → ¬ (IsRepeat targets k q)
    no_repeat_more none before k h q = by (cases_eq k t)
      where
        by : (k ≡ t) ⊎ (k ≡ t → ⊥) → ¬ (IsRepeat targets k q)
        by (inl e) = λ repeats. none q (repeat_twice q (subst (λ x. IsRepeat targets x q) e repeats))
        by (inr n) = before k (omega arith) q

pub no_repeats : (targets : List Target) (at : ℕ) → length targets ≤ at → ((k : ℕ) → k < at → (q : ℕ) → ¬ (IsRepeat targets k q)) → (t q : ℕ) → ¬ (IsRepeat targets t q)
no_repeats targets at h none t q r = none t (let l = sees_within targets t q r.sees in omega arith) q r

pub no_first_stem : (targets : List Target) → ((t q : ℕ) → ¬ (IsRepeat targets t q)) → (name : List ℕ) → ¬ (IsFirstStemTwice targets name)
no_first_stem targets none name f = none f.index f.pair f.repeats
