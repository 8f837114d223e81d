-- Which places are on a cycle, decided search after search.
use Rattle.std.proofs.Common.{◌≡◌, ◌⊎◌, inl, inr, ℕ, zero, suc, ◌+◌, ◌<◌, ◌≤◌, List, [], ◌∷◌, Bool, true, false, length, get_or, set, replicate, All, Contains, ap, sym, subst, ◌∙◌, refl, arith}
use Rattle.std.proofs.lemmas.Bool.{false≢true, cases_eq, true_from_ne_false}
use Rattle.std.proofs.lemmas.List.{length-set, get_or-set_same, get_or-set_other, get_or_default, length-replicate}
use Rattle.std.proofs.lemmas.List.Elements.{All-head, All-tail, Contains-get_or}
use Rattle.build_plan.specs.Rows.{Imports, Path, OnCycle}
use Rattle.build_plan.specs.Lists.{has_mark, written}
use Rattle.build_plan.specs.Links.{AreTurned}
use Rattle.build_plan.specs.Walk.{Met, AllowedStep, HasMet}
use Rattle.build_plan.specs.Cycles.{IsKnown, AreCyclic, LeavesCycles}
use Rattle.build_plan.proofs.Counting.{is_counted}
use Rattle.build_plan.proofs.GetsThrough.{importer_within}
use Rattle.build_plan.proofs.LeadsLaws.{join, first_step, last_step, other_steps, turned, round}
use Rattle.build_plan.proofs.TurnedLaws.{turn, turn_back}
use Rattle.build_plan.proofs.WalkLaws.{within, no_marks}

-- ---- marks that are written

pub written_size : (marks : List Bool) (places : List ℕ) (m : Bool) → length (written marks places m) ≡ length marks
written_size marks [] m = refl
written_size marks (x ∷ xs) m = written_size (set marks x m) xs m ∙ length-set marks x m

pub written_keeps : (marks : List Bool) (places : List ℕ) (m : Bool) (b : ℕ) → All (λ x. x < length marks) places → has_mark marks b ≡ m → has_mark (written marks places m) b ≡ m
written_keeps marks [] m b h k = k
written_keeps marks (x ∷ xs) m b h k =
    written_keeps (set marks x m) xs m b (subst (λ n. All (λ y. y < n) xs) (sym (length-set marks x m)) (All-tail (λ y. y < length marks) x xs h)) (by (cases_eq b x))
  where
    by : (b ≡ x) ⊎ (b ≡ x → ⊥) → has_mark (set marks x m) b ≡ m
    by (inl e) = ap (has_mark (set marks x m)) e ∙ get_or-set_same marks x m false (All-head (λ y. y < length marks) x xs h)
    by (inr n) = get_or-set_other marks x b m false n ∙ k

pub written_in : (marks : List Bool) (places : List ℕ) (m : Bool) (b : ℕ) → All (λ x. x < length marks) places → Contains places b → has_mark (written marks places m) b ≡ m
written_in marks [] m b h c = let k : c.0 < 0 = c.1 in absurd (omega arith)
written_in marks (x ∷ xs) m b h (zero, k, e) =
    written_keeps (set marks x m) xs m b (subst (λ n. All (λ y. y < n) xs) (sym (length-set marks x m)) (All-tail (λ y. y < length marks) x xs h))
    (ap (has_mark (set marks x m)) (sym e) ∙ get_or-set_same marks x m false (All-head (λ y. y < length marks) x xs h))
written_in marks (x ∷ xs) m b h (suc i, k, e) =
    written_in (set marks x m) xs m b (subst (λ n. All (λ y. y < n) xs) (sym (length-set marks x m)) (All-tail (λ y. y < length marks) x xs h)) (i, omega arith, e)

pub written_out : (marks : List Bool) (places : List ℕ) (m : Bool) (b : ℕ) → (Contains places b → ⊥) → has_mark (written marks places m) b ≡ has_mark marks b
written_out marks [] m b n = refl
written_out marks (x ∷ xs) m b n =
    written_out (set marks x m) xs m b (λ c. n (suc c.0, (let k = c.1 in omega arith), c.2))
    ∙ get_or-set_other marks x b m false (λ e. n (0, omega arith, sym e))

-- ---- one search

module _ (rows : List (List ℕ)) (undecided cyclic : List Bool) (pivot : ℕ)
    (known : IsKnown rows undecided cyclic) (marked : has_mark undecided pivot ≡ true) (ahead : Met) (met : HasMet rows undecided pivot ahead) where
  not_before : (c : ℕ) → Path rows pivot c → Path rows c pivot → has_mark undecided c ≡ true
  not_before c l back = true_from_ne_false (has_mark undecided c) (λ f. false≢true (sym (known.together c pivot f back l) ∙ marked))

  is_ahead : (c : ℕ) → Path rows pivot c → Path rows c pivot → has_mark ahead.marks c ≡ true
  is_ahead c l back = met.whole c (round (Imports rows) (λ x. has_mark undecided x ≡ true) pivot c not_before l back)

  leads_ahead : (c : ℕ) → has_mark ahead.marks c ≡ true → Path rows pivot c
  leads_ahead c m = other_steps (AllowedStep rows undecided) (Imports rows) (λ a b s. s.0) pivot c (met.sound c m)

  pub pivot_inside : pivot < length undecided
  pivot_inside = within undecided pivot marked

  -- ---- the pivot is on no cycle

  module _ (none : has_mark ahead.marks pivot ≡ false) where
    off_cycle : OnCycle rows pivot → ⊥
    off_cycle o = false≢true (sym none ∙ is_ahead pivot o o)

    still : (b : ℕ) → has_mark undecided b ≡ false → (b ≡ pivot) ⊎ (b ≡ pivot → ⊥) → has_mark (set undecided pivot false) b ≡ false
    still b f (inl e) = ap (has_mark (set undecided pivot false)) e ∙ get_or-set_same undecided pivot false false pivot_inside
    still b f (inr n) = get_or-set_other undecided pivot b false false n ∙ f

    before : (b : ℕ) → (b ≡ pivot → ⊥) → has_mark (set undecided pivot false) b ≡ false → has_mark undecided b ≡ false
    before b n f = sym (get_or-set_other undecided pivot b false false n) ∙ f

    pub known_alone : IsKnown rows (set undecided pivot false) cyclic
    known_alone = record {
      undecided_size = length-set undecided pivot false ∙ known.undecided_size;
      cyclic_size = known.cyclic_size;
      sound = known.sound;
      whole = λ b f o. whole b f o (cases_eq b pivot);
      together = λ b c f l back. together b c f l back (cases_eq b pivot);
    }
      where
        whole : (b : ℕ) → has_mark (set undecided pivot false) b ≡ false → OnCycle rows b → (b ≡ pivot) ⊎ (b ≡ pivot → ⊥) → has_mark cyclic b ≡ true
        whole b f o (inl e) = absurd (off_cycle (subst (OnCycle rows) e o))
        whole b f o (inr n) = known.whole b (before b n f) o

        together : (b c : ℕ) → has_mark (set undecided pivot false) b ≡ false → Path rows b c → Path rows c b → (b ≡ pivot) ⊎ (b ≡ pivot → ⊥)
            → has_mark (set undecided pivot false) c ≡ false
        together b c f l back (inl e) = absurd (off_cycle (subst (OnCycle rows) e (join (Imports rows) b c b l back)))
        together b c f l back (inr n) = still c (known.together b c (before b n f) l back) (cases_eq c pivot)

    pub alone_decided : has_mark (set undecided pivot false) pivot ≡ false
    alone_decided = get_or-set_same undecided pivot false false pivot_inside

    pub alone_others : (b : ℕ) → has_mark undecided b ≡ false → has_mark (set undecided pivot false) b ≡ false
    alone_others b f = still b f (cases_eq b pivot)

  -- ---- the pivot is on a cycle

  module _ (importers : List (List ℕ)) (t : AreTurned rows importers) (some : has_mark ahead.marks pivot ≡ true) (circle : Met) (back_met : HasMet importers ahead.marks pivot circle) where
    turned_path : (a b : ℕ) → Path rows a b → Path importers b a
    turned_path a b l = turned (Imports rows) (Imports importers) (turn rows importers t) a b l

    path_turned : (a b : ℕ) → Path importers a b → Path rows b a
    path_turned a b l = turned (Imports importers) (Imports rows) (λ x y i. turn_back rows importers t y x i) a b l

    both_ways : (b : ℕ) → Contains circle.order b → Path rows pivot b × Path rows b pivot
    both_ways b c =
        let l = back_met.sound b (back_met.marked b c) in
        let last = last_step (AllowedStep importers ahead.marks) pivot b l in (
          leads_ahead b last.1.1,
          path_turned pivot b (other_steps (AllowedStep importers ahead.marks) (Imports importers) (λ x y s. s.0) pivot b l),
        )

    in_circle : (b : ℕ) → Path rows pivot b → Path rows b pivot → Contains circle.order b
    in_circle b l back =
        back_met.listed b
        (back_met.whole b
        (round (Imports importers) (λ x. has_mark ahead.marks x ≡ true) pivot b
        (λ c to from. is_ahead c (path_turned c pivot from) (path_turned pivot c to)) (turned_path b pivot back) (turned_path pivot b l)))

    pub circle_inside : (marks : List Bool) → length marks ≡ length rows → All (λ x. x < length marks) circle.order
    circle_inside marks size = λ k d h.
        subst (λ n. get_or circle.order k d < n) (back_met.size ∙ (t.size ∙ sym size))
        (within circle.marks (get_or circle.order k d) (back_met.marked (get_or circle.order k d) (listed_at k d h)))
      where
        listed_at : (k d : ℕ) → k < length circle.order → Contains circle.order (get_or circle.order k d)
        listed_at k d h = Contains-get_or circle.order k d h

    pub undecided_inside : All (λ x. x < length undecided) circle.order
    undecided_inside = circle_inside undecided known.undecided_size

    pub cyclic_inside : All (λ x. x < length cyclic) circle.order
    cyclic_inside = circle_inside cyclic known.cyclic_size

    pub known_circle : IsKnown rows (written undecided circle.order false) (written cyclic circle.order true)
    known_circle = record {
      undecided_size = written_size undecided circle.order false ∙ known.undecided_size;
      cyclic_size = written_size cyclic circle.order true ∙ known.cyclic_size;
      sound = λ b m. sound b m (is_counted circle.order b);
      whole = λ b f o. whole b f o (is_counted circle.order b);
      together = λ b c f l back. together b c f l back (is_counted circle.order b);
    }
      where
        sound : (b : ℕ) → has_mark (written cyclic circle.order true) b ≡ true → Contains circle.order b ⊎ (Contains circle.order b → ⊥) → OnCycle rows b
        sound b m (inl c) = let both = both_ways b c in join (Imports rows) b pivot b both.1 both.0
        sound b m (inr n) = known.sound b (sym (written_out cyclic circle.order true b n) ∙ m)

        whole : (b : ℕ) → has_mark (written undecided circle.order false) b ≡ false → OnCycle rows b → Contains circle.order b ⊎ (Contains circle.order b → ⊥)
            → has_mark (written cyclic circle.order true) b ≡ true
        whole b f o (inl c) = written_in cyclic circle.order true b cyclic_inside c
        whole b f o (inr n) = written_out cyclic circle.order true b n ∙ known.whole b (sym (written_out undecided circle.order false b n) ∙ f) o

        together : (b c : ℕ) → has_mark (written undecided circle.order false) b ≡ false → Path rows b c → Path rows c b
            → Contains circle.order b ⊎ (Contains circle.order b → ⊥) → has_mark (written undecided circle.order false) c ≡ false
        together b c f l back (inl at) =
            let both = both_ways b at in
            written_in undecided circle.order false c undecided_inside
            (in_circle c (join (Imports rows) pivot b c both.0 l) (join (Imports rows) c b pivot back both.1))
        together b c f l back (inr n) =
            written_keeps undecided circle.order false c undecided_inside
            (known.together b c (sym (written_out undecided circle.order false b n) ∙ f) l back)

    pub circle_decided : has_mark (written undecided circle.order false) pivot ≡ false
    circle_decided =
        let own = leads_ahead pivot some in
        written_in undecided circle.order false pivot undecided_inside (in_circle pivot own own)

    pub circle_others : (b : ℕ) → has_mark undecided b ≡ false → has_mark (written undecided circle.order false) b ≡ false
    circle_others b f = written_keeps undecided circle.order false b undecided_inside f

-- ---- the first search, and behind the last

pub known_first : (rows : List (List ℕ)) (undecided : List Bool) → LeavesCycles rows undecided → IsKnown rows undecided (replicate (length rows) false)
known_first rows undecided leaves = record {
  undecided_size = leaves.size;
  cyclic_size = length-replicate (length rows) false;
  sound = λ b m. absurd (false≢true (sym (no_marks (length rows) b) ∙ m));
  whole = λ b f o. absurd (false≢true (sym f ∙ leaves.whole b o));
  together = λ b c f l back. absurd (false≢true (sym f ∙ leaves.whole b (join (Imports rows) b c b l back)));
}

pub known_last : (rows : List (List ℕ)) (undecided cyclic : List Bool) (n : ℕ) → length rows ≤ n → IsKnown rows undecided cyclic
    → ((k : ℕ) → k < n → has_mark undecided k ≡ false) → AreCyclic rows cyclic
known_last rows undecided cyclic n h known decided = record {
  size = known.cyclic_size;
  sound = known.sound;
  whole = λ b o. known.whole b (decided b (let first = first_step (Imports rows) b b o in let k = importer_within rows b first.0 first.1 in omega arith)) o;
}

pub decided_more : (old new : List Bool) (n : ℕ) → ((k : ℕ) → k < n → has_mark old k ≡ false) → ((b : ℕ) → has_mark old b ≡ false → has_mark new b ≡ false)
    → has_mark new n ≡ false → (k : ℕ) → k < n + 1 → has_mark new k ≡ false
decided_more old new n before others here k h = by (cases_eq k n)
  where
    by : (k ≡ n) ⊎ (k ≡ n → ⊥) → has_mark new k ≡ false
    by (inl e) = ap (has_mark new) e ∙ here
    by (inr m) = others k (before k (omega arith))

-- a mark that was read
pub mark_there : (marks : List Bool) (i : ℕ) (m r : Bool) → i < length marks → m ≡ get_or marks i m → m ≡ r → has_mark marks i ≡ r
mark_there marks i m r h e k = get_or_default marks i false m h ∙ (sym e ∙ k)
