-- How the closures are made: each row of marks from those of its dependencies, sweep after sweep.
use Rattle.std.proofs.Common.{◌≡◌, ◌≢◌, ◌⊎◌, inl, inr, ℕ, zero, suc, ◌+◌, ◌<◌, ◌≤◌, Bool, true, false, ◌||◌, List, [], ◌∷◌, ◌++◌, length, get_or, set, replicate, All, Contains, Some, ap, sym, subst, ◌∙◌, refl, arith}
use Rattle.std.specs.List.{AllPairs, slice_get}
use Rattle.std.specs.Bool.{◌==◌}
use Rattle.std.proofs.lemmas.Bool.{false≢true, cases_eq}
use Rattle.std.proofs.lemmas.Bool.Decides.{Decides-eqb}
use Rattle.std.proofs.lemmas.List.{get_or-set_same, get_or-set_other, length-set, length-replicate}
use Rattle.std.proofs.lemmas.List.Elements.{All-nil, All-cons, All-contains, Contains-push, Contains-append_left, Contains-push_cases}
use Rattle.std.proofs.lemmas.List.Kept.{AllPairs-cons}
use Rattle.std.proofs.lemmas.Map.Made.{IsDistinct-from_AllPairs}
use Rattle.std.proofs.lemmas.Map.Steps.{length-le_from_distinct_below}
use Rattle.std.proofs.lemmas.Option.{slice_get_within, same_Some}
use Rattle.indexmap.proofs.CallerLemmas.{Contains-list_any}
use Rattle.target_graph.specs.Closures.{row_at, IsMade, AreRows, AreClosures, IsWhole, IsDeep, AreDeep, HasMark, IsJoined}
use Rattle.target_graph.specs.Walk.{has_met, AreMarks}
use Rattle.target_graph.specs.Workspace.{IsDirect, IsWay, Leads, Circles}
use Rattle.target_graph.specs.declared.target.Target.{Target}
use Rattle.target_graph.proofs.WalkLaws.{no_marks, only, itself, mark_leads, leads_mark}

-- ---- one row, made of others

module _ (rows : List (List Bool)) (index : ℕ) where
  pub joined_none : index < length rows → IsJoined rows index [] (set (replicate (length rows) false) index true)
  joined_none h = record {
    size = length-set none index true ∙ length-replicate (length rows) false;
    own = get_or-set_same none index true false (subst (λ n. index < n) (sym (length-replicate (length rows) false)) h);
    shown = λ b m. inl (by b m (cases_eq b index));
    whole = λ b m. absurd (let c = m.listed in let k : c.0 < 0 = c.1 in omega arith);
  }
    where
      none : List Bool
      none = replicate (length rows) false

      by : (b : ℕ) → has_met (set none index true) b ≡ true → (b ≡ index) ⊎ (b ≡ index → ⊥) → b ≡ index
      by b m (inl e) = e
      by b m (inr n) = absurd (false≢true (sym (no_marks (length rows) b) ∙ (sym (get_or-set_other none index b true false n) ∙ m)))

  or_cases : (a b : Bool) → (a || b) ≡ true → (a ≡ true) ⊎ (b ≡ true)
  or_cases true b e = inl refl
  or_cases false b e = inr e

  or_left : (a b : Bool) → a ≡ true → (a || b) ≡ true
  or_left true b e = refl
  or_left false b e = absurd (false≢true e)

  or_right : (a b : Bool) → b ≡ true → (a || b) ≡ true
  or_right true b e = refl
  or_right false b e = e

  pub joined_more : (indices : List ℕ) (other : ℕ) (row more : List Bool) → IsJoined rows index indices row → length more ≡ length row
      → ((b : ℕ) → has_met more b ≡ (has_met row b || has_met (row_at rows other) b)) → IsJoined rows index (indices ++ other ∷ []) more
  joined_more indices other row more j size marks = record {
    size = size ∙ j.size;
    own = marks index ∙ or_left (has_met row index) (has_met (row_at rows other) index) j.own;
    shown = λ b m. shown b (or_cases (has_met row b) (has_met (row_at rows other) b) (sym (marks b) ∙ m));
    whole = λ b m. marks b ∙ whole b m (Contains-push_cases indices other m.from m.listed);
  }
    where
      kept : (b : ℕ) → (b ≡ index) ⊎ HasMark rows indices b → (b ≡ index) ⊎ HasMark rows (indices ++ other ∷ []) b
      kept b (inl e) = inl e
      kept b (inr m) = inr (record { from = m.from; listed = Contains-append_left indices (other ∷ []) m.from m.listed; mark = m.mark })

      shown : (b : ℕ) → (has_met row b ≡ true) ⊎ (has_met (row_at rows other) b ≡ true) → (b ≡ index) ⊎ HasMark rows (indices ++ other ∷ []) b
      shown b (inl m) = kept b (j.shown b m)
      shown b (inr m) = inr (record { from = other; listed = Contains-push indices other; mark = m })

      whole : (b : ℕ) (m : HasMark rows (indices ++ other ∷ []) b) → Contains indices m.from ⊎ (other ≡ m.from) → (has_met row b || has_met (row_at rows other) b) ≡ true
      whole b m (inl c) = or_left (has_met row b) (has_met (row_at rows other) b) (j.whole b (record { from = m.from; listed = c; mark = m.mark }))
      whole b m (inr e) = or_right (has_met row b) (has_met (row_at rows other) b) (subst (λ x. has_met (row_at rows x) b ≡ true) (sym e) m.mark)

-- ---- one row more

module _ (targets : List Target) where
  leads_on : (a b d : ℕ) → IsDirect targets a b → Leads targets b d → Leads targets a d
  leads_on a b d direct l = record { way = b ∷ l.way; is_way = (direct, l.is_way) }

  module _ (rows : List (List Bool)) (t : ℕ) (target : Target) (row : List Bool) (old : AreRows targets rows) (h : t < length targets) (there : slice_get targets t ≡ Some target)
      (made : All (IsMade rows) target.dependencies) (unmade : ¬ (IsMade rows t)) (j : IsJoined rows t target.dependencies row) where
    abbrev pub more : List (List Bool)
    more = set rows t row

    here : row_at more t ≡ row
    here = get_or-set_same rows t row [] (subst (λ n. t < n) (sym old.size) h)

    aside : (x : ℕ) → (x ≡ t → ⊥) → row_at more x ≡ row_at rows x
    aside x n = get_or-set_other rows t x row [] n

    listed : (b : ℕ) → IsDirect targets t b → Contains target.dependencies b
    listed b d = subst (λ (x : Target). Contains x.dependencies b) (same_Some d.target target (sym d.there ∙ there)) d.listed

    made_at : (b : ℕ) → Contains target.dependencies b → IsMade rows b
    made_at b c = All-contains (IsMade rows) target.dependencies b made c

    sound : (b : ℕ) → (b ≡ t) ⊎ HasMark rows target.dependencies b → Leads targets t b
    sound b (inl e) = record { way = []; is_way = sym e }
    sound b (inr m) =
        leads_on t m.from b (record { target = target; there = there; listed = m.listed })
        (mark_leads targets m.from b (row_at rows m.from) (old.each m.from (made_at m.from m.listed)) m.mark)

    whole : (b : ℕ) (way : List ℕ) → IsWay targets t way b → has_met row b ≡ true
    whole b [] e = subst (λ x. has_met row x ≡ true) e j.own
    whole b (next ∷ way) w =
        let c = listed next w.0 in
        j.whole b (record {
          from = next;
          listed = c;
          mark = leads_mark targets next b (row_at rows next) (old.each next (made_at next c)) (record { way = way; is_way = w.1 });
        })

    marks : AreMarks targets (t ∷ []) row
    marks = record {
      size = j.size ∙ old.size;
      reached = λ b m. record { from = t; asked_for = itself t; leads = sound b (j.shown b m) };
      whole = λ b r. (let l = subst (λ a. Leads targets a b) (only t r.from r.asked_for) r.leads in whole b l.way l.is_way);
    }

    grown : (x : ℕ) → IsMade rows x → (x ≡ t) ⊎ (x ≡ t → ⊥) → IsMade more x
    grown x m (inl e) = absurd (unmade (subst (IsMade rows) e m))
    grown x m (inr n) = subst (λ (r : List Bool). 0 < length r) (sym (aside x n)) m

    pub row_grows : (x : ℕ) → IsMade rows x → IsMade more x
    row_grows x m = grown x m (cases_eq x t)

    pub row_here : IsMade more t
    row_here = subst (λ (r : List Bool). 0 < length r) (sym here) (omega (arith, j.size, old.size))

    before : (x : ℕ) → IsMade more x → (x ≡ t → ⊥) → IsMade rows x
    before x m n = subst (λ (r : List Bool). 0 < length r) (aside x n) m

    pub row_aside : (x : ℕ) → (x ≡ t → ⊥) → ¬ (IsMade rows x) → ¬ (IsMade more x)
    row_aside x n u m = u (before x m n)

    closed_by : (b : ℕ) → (b ≡ t) ⊎ HasMark rows target.dependencies b → IsMade more b
    closed_by b (inl e) = subst (IsMade more) (sym e) row_here
    closed_by b (inr m) = row_grows b (old.closed m.from b (made_at m.from m.listed) m.mark)

    still : ¬ (Circles targets t)
    still c =
        let k = listed c.next c.direct in
        unmade (old.closed c.next t (made_at c.next k) (leads_mark targets c.next t (row_at rows c.next) (old.each c.next (made_at c.next k)) c.back))

    pub row_more : AreRows targets more
    row_more = record {
      size = length-set rows t row ∙ old.size;
      each = λ x m. each x m (cases_eq x t);
      closed = λ x b m k. closed x b m k (cases_eq x t);
      acyclic = λ x m. acyclic x m (cases_eq x t);
    }
      where
        each : (x : ℕ) → IsMade more x → (x ≡ t) ⊎ (x ≡ t → ⊥) → AreMarks targets (x ∷ []) (row_at more x)
        each x m (inl e) = subst (λ y. AreMarks targets (y ∷ []) (row_at more y)) (sym e) (subst (AreMarks targets (t ∷ [])) (sym here) marks)
        each x m (inr n) = subst (AreMarks targets (x ∷ [])) (sym (aside x n)) (old.each x (before x m n))

        closed : (x b : ℕ) → IsMade more x → has_met (row_at more x) b ≡ true → (x ≡ t) ⊎ (x ≡ t → ⊥) → IsMade more b
        closed x b m k (inl e) = closed_by b (j.shown b (subst (λ (r : List Bool). has_met r b ≡ true) (ap (row_at more) e ∙ here) k))
        closed x b m k (inr n) = row_grows b (old.closed x b (before x m n) (subst (λ (r : List Bool). has_met r b ≡ true) (aside x n) k))

        acyclic : (x : ℕ) → IsMade more x → (x ≡ t) ⊎ (x ≡ t → ⊥) → ¬ (Circles targets x)
        acyclic x m (inl e) = subst (λ y. ¬ (Circles targets y)) (sym e) still
        acyclic x m (inr n) = old.acyclic x (before x m n)

  -- ---- before the first sweep, and behind the last

  pub rows_none : AreRows targets (replicate (length targets) [])
  rows_none = record {
    size = length-replicate (length targets) [];
    each = λ t m. absurd (unmade t m);
    closed = λ t b m k. absurd (unmade t m);
    acyclic = λ t m. absurd (unmade t m);
  }
    where
      empty : (n t : ℕ) → row_at (replicate n []) t ≡ []
      empty zero t = refl
      empty (suc n) zero = refl
      empty (suc n) (suc t) = empty n t

      unmade : (t : ℕ) → ¬ (IsMade (replicate (length targets) []) t)
      unmade t m = (let k : 0 < length {A = Bool} [] = subst (λ (r : List Bool). 0 < length r) (empty (length targets) t) m in omega arith)

  pub deep_none : (rows : List (List Bool)) → AreDeep targets 0 rows
  deep_none rows t h u = record { end = t; way = []; size = refl; is_way = refl }

  pub deep_more : (n t d : ℕ) → IsDirect targets t d → IsDeep targets n d → IsDeep targets (suc n) t
  deep_more n t d direct deep = record { end = deep.end; way = d ∷ deep.way; size = ap suc deep.size; is_way = (direct, deep.is_way) }

  pub closures_whole : (rows : List (List Bool)) → AreRows targets rows → ((t : ℕ) → t < length targets → IsMade rows t) → AreClosures targets rows
  closures_whole rows r made = record { size = r.size; each = λ t h. r.each t (made t h) }

  pub none_circle : (rows : List (List Bool)) → AreRows targets rows → ((t : ℕ) → t < length targets → IsMade rows t) → (t : ℕ) → ¬ (Circles targets t)
  none_circle rows r made t c = r.acyclic t (made t (slice_get_within targets t c.direct.target c.direct.there)) c

  -- ---- no way is longer than there are targets, where none depends on itself

  -- the targets that a way goes through, but the last
  abbrev starts : ℕ → List ℕ → List ℕ
  starts t [] = []
  starts t (next ∷ way) = t ∷ starts next way

  starts_size : (t : ℕ) (way : List ℕ) → length (starts t way) ≡ length way
  starts_size t [] = refl
  starts_size t (next ∷ way) = ap suc (starts_size next way)

  starts_within : (t : ℕ) (way : List ℕ) (end : ℕ) → IsWay targets t way end → All (λ x. x < length targets) (starts t way)
  starts_within t [] end w = All-nil (λ x. x < length targets)
  starts_within t (next ∷ way) end w =
      All-cons (λ x. x < length targets) t (starts next way) (slice_get_within targets t w.0.target w.0.there) (starts_within next way end w.1)

  starts_led : (t : ℕ) (way : List ℕ) (end : ℕ) → IsWay targets t way end → All (Leads targets t) (starts t way)
  starts_led t [] end w = All-nil (Leads targets t)
  starts_led t (next ∷ way) end w =
      All-cons (Leads targets t) t (starts next way) (record { way = []; is_way = refl })
      (λ k d h. leads_on t next (get_or (starts next way) k d) w.0 (starts_led next way end w.1 k d h))

  starts_differ : ((t : ℕ) → ¬ (Circles targets t)) → (t : ℕ) (way : List ℕ) (end : ℕ) → IsWay targets t way end → AllPairs ◌≢◌ (starts t way)
  starts_differ none t [] end w = λ i j d h k. absurd (omega arith)
  starts_differ none t (next ∷ way) end w =
      AllPairs-cons ◌≢◌ t (starts next way)
      (λ k d h same. none t (record { next = next; direct = w.0; back = subst (Leads targets next) (sym same) (starts_led next way end w.1 k d h) }))
      (starts_differ none next way end w.1)

  pub never_deep : ((t : ℕ) → ¬ (Circles targets t)) → (n t : ℕ) → length targets < n → ¬ (IsDeep targets n t)
  never_deep none n t h deep =
      let xs = starts t deep.way in
      let few = length-le_from_distinct_below xs (length targets)
      (IsDistinct-from_AllPairs Decides-eqb xs (starts_differ none t deep.way deep.end deep.is_way))
      (λ q is. All-contains (λ x. x < length targets) xs q (starts_within t deep.way deep.end deep.is_way)
      (Contains-list_any _ (λ a b. (Decides-eqb a b).0) xs q is)) in
      absurd (omega (arith, few, starts_size t deep.way, deep.size))

-- ---- whether all targets below an index have their rows

pub record IsLeftTo (rows : List (List Bool)) (at : ℕ) : Type 0 where
  pub index : ℕ
  pub within : index < at
  pub unmade : ¬ (IsMade rows index)

abbrev pub IsWholeTo : List (List Bool) → ℕ → Bool → Type 0
IsWholeTo rows at true = (t : ℕ) → t < at → IsMade rows t
IsWholeTo rows at false = IsLeftTo rows at

-- a list whose length is counted so
pub none_empty : (n : ℕ) → (n == 0) ≡ false → 0 < n
none_empty zero e = absurd (false≢true (sym e))
none_empty (suc n) e = omega arith

pub all_empty : (n : ℕ) → (n == 0) ≡ true → ¬ (0 < n)
all_empty n e h = (let z : n ≡ 0 = (Decides-eqb n 0).0 e in absurd (omega arith))

-- ---- in the middle of a sweep, which has come to an index

pub record IsSwept (targets : List Target) (old rows : List (List Bool)) (at : ℕ) (whole : Bool) : Type 0 where
  pub are_rows : AreRows targets rows
  pub deep : (n : ℕ) → AreDeep targets n old → AreDeep targets n rows
  pub deeper : (n : ℕ) → AreDeep targets n old → (t : ℕ) → t < at → ¬ (IsMade rows t) → IsDeep targets (suc n) t
  pub is_whole : IsWholeTo rows at whole

module _ (targets : List Target) (old : List (List Bool)) where
  pub swept_none : AreRows targets old → IsSwept targets old old 0 true
  swept_none r = record {
    are_rows = r;
    deep = λ n d. d;
    deeper = λ n d t h u. absurd (omega arith);
    is_whole = λ t h. absurd (omega arith);
  }

  left_still : (rows more : List (List Bool)) (at : ℕ) → IsLeftTo rows at → ((x : ℕ) → x < at → ¬ (IsMade rows x) → ¬ (IsMade more x)) → IsLeftTo more (at + 1)
  left_still rows more at l keeps = record { index = l.index; within = (let w = l.within in omega arith); unmade = keeps l.index l.within l.unmade }

  whole_more : (rows more : List (List Bool)) (at : ℕ) (whole : Bool) → IsWholeTo rows at whole → IsMade more at → ((x : ℕ) → IsMade rows x → IsMade more x)
      → ((x : ℕ) → x < at → ¬ (IsMade rows x) → ¬ (IsMade more x)) → IsWholeTo more (at + 1) whole
  whole_more rows more at true w here grows keeps = λ t h. by t h (cases_eq t at)
    where
      by : (t : ℕ) → t < at + 1 → (t ≡ at) ⊎ (t ≡ at → ⊥) → IsMade more t
      by t h (inl e) = subst (IsMade more) (sym e) here
      by t h (inr n) = grows t (w t (omega arith))
  whole_more rows more at false w here grows keeps = left_still rows more at w keeps

  deeper_more : (rows more : List (List Bool)) (at n : ℕ) → ((t : ℕ) → t < at → ¬ (IsMade rows t) → IsDeep targets (suc n) t) → (¬ (IsMade more at) → IsDeep targets (suc n) at)
      → ((x : ℕ) → IsMade rows x → IsMade more x) → (t : ℕ) → t < at + 1 → ¬ (IsMade more t) → IsDeep targets (suc n) t
  deeper_more rows more at n before here grows t h u = by (cases_eq t at)
    where
      by : (t ≡ at) ⊎ (t ≡ at → ⊥) → IsDeep targets (suc n) t
      by (inl e) = subst (IsDeep targets (suc n)) (sym e) (here (λ m. u (subst (IsMade more) (sym e) m)))
      by (inr o) = before t (omega arith) (λ m. u (grows t m))

  -- the row at the index was there
  pub swept_made : (rows : List (List Bool)) (at : ℕ) (whole : Bool) → IsSwept targets old rows at whole → IsMade rows at → IsSwept targets old rows (at + 1) whole
  swept_made rows at whole s here = record {
    are_rows = s.are_rows;
    deep = s.deep;
    deeper = λ n d. deeper_more rows rows at n (s.deeper n d) (λ u. absurd (u here)) (λ x m. m);
    is_whole = whole_more rows rows at whole s.is_whole here (λ x m. m) (λ x h u. u);
  }

  -- it couldn't be made
  pub swept_left : (rows : List (List Bool)) (at d : ℕ) (whole : Bool) → IsSwept targets old rows at whole → ¬ (IsMade rows at) → IsDirect targets at d → d < length targets → ¬ (IsMade rows d)
      → IsSwept targets old rows (at + 1) false
  swept_left rows at d whole s unmade direct h left = record {
    are_rows = s.are_rows;
    deep = s.deep;
    deeper = λ n deep. deeper_more rows rows at n (s.deeper n deep) (λ u. deep_more targets n at d direct (s.deep n deep d h left)) (λ x m. m);
    is_whole = record { index = at; within = omega arith; unmade = unmade };
  }

  -- it was made
  pub swept_more : (rows : List (List Bool)) (at : ℕ) (whole : Bool) (target : Target) (row : List Bool) → IsSwept targets old rows at whole → at < length targets
      → slice_get targets at ≡ Some target → All (IsMade rows) target.dependencies → ¬ (IsMade rows at) → IsJoined rows at target.dependencies row
      → IsSwept targets old (set rows at row) (at + 1) whole
  swept_more rows at whole target row s h there made unmade j = record {
    are_rows = row_more targets rows at target row s.are_rows h there made unmade j;
    deep = λ n d t l u. s.deep n d t l (λ m. u (grows t m));
    deeper = λ n d. deeper_more rows (set rows at row) at n (s.deeper n d) (λ u. absurd (u here)) grows;
    is_whole = whole_more rows (set rows at row) at whole s.is_whole here grows (λ x l. row_aside targets rows at target row s.are_rows h there made unmade j x (λ e. absurd (omega (arith, e))));
  }
    where
      grows : (x : ℕ) → IsMade rows x → IsMade (set rows at row) x
      grows = row_grows targets rows at target row s.are_rows h there made unmade j

      here : IsMade (set rows at row) at
      here = row_here targets rows at target row s.are_rows h there made unmade j

  -- ---- behind a sweep

  pub swept_deep : (rows : List (List Bool)) (at : ℕ) (whole : Bool) → IsSwept targets old rows at whole → length targets ≤ at → (n : ℕ) → AreDeep targets n old → AreDeep targets (suc n) rows
  swept_deep rows at whole s h n d t l u = s.deeper n d t (omega arith) u

  pub swept_whole : (rows : List (List Bool)) (at : ℕ) (whole : Bool) → IsSwept targets old rows at whole → at ≡ length targets → IsWhole targets rows whole
  swept_whole rows at whole s e = by whole s.is_whole
    where
      by : (whole : Bool) → IsWholeTo rows at whole → IsWhole targets rows whole
      by true w = λ t h. w t (omega arith)
      by false w = record { index = w.index; within = (let l = w.within in omega arith); unmade = w.unmade }
