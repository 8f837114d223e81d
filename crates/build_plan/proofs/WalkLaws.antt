-- A walk meets the places to which one leads, and no others.
use Rattle.std.proofs.Common.{◌≡◌, ◌⊎◌, inl, inr, ℕ, zero, suc, ◌+◌, ◌<◌, ◌≤◌, List, [], ◌∷◌, ◌++◌, Bool, true, false, cond, length, get_or, set, replicate, All, Contains, ap, sym, subst, ◌∙◌, refl, arith}
use Rattle.std.specs.List.{count_by, filter}
use Rattle.std.proofs.lemmas.Bool.{false≢true, cases_eq, cases_Bool, cond-true, cond-false}
use Rattle.std.proofs.lemmas.List.{set-get_or, length-set, length_push, get_or-set_same, get_or-set_other, get_or_append_left, get_or_default, append-nil, append_assoc, length-append, length-replicate}
use Rattle.std.proofs.lemmas.List.Sums.{sum_by-set, count_by-le-length}
use Rattle.std.proofs.lemmas.List.Elements.{All-nil, All-head, All-tail, All-push, All-contains, All-filter, filter_passes, Contains-push, Contains-append_left, Contains-push_cases, Contains-get_or}
use Rattle.build_plan.specs.Rows.{row_at, IsWay, Leads, AreWithin}
use Rattle.build_plan.specs.Lists.{has_mark}
use Rattle.build_plan.specs.Walk.{Met, meet, meet_all, allowed_of, AllowedStep, HasMet}
use Rattle.build_plan.proofs.GetsThrough.{import_within}
use Rattle.build_plan.proofs.LeadsLaws.{one_step, then_step}

pub within : (marks : List Bool) (b : ℕ) → has_mark marks b ≡ true → b < length marks
within [] b h = absurd (false≢true h)
within (m ∷ marks) zero h = omega arith
within (m ∷ marks) (suc b) h = let k = within marks b h in omega arith

meet_again : (met : Met) (t : ℕ) → has_mark met.marks t ≡ true → meet met t ≡ met
meet_again met t h =
    let marks : set met.marks t true ≡ met.marks = ap (λ b. set met.marks t b) (sym h) ∙ set-get_or met.marks t false in
    let order : cond (has_mark met.marks t) met.order (met.order ++ t ∷ []) ≡ met.order = ap (λ b. cond b met.order (met.order ++ t ∷ [])) h in
    (λ i. record { marks = marks i; order = order i })

-- what holds all along a walk: the marks stand at the places of the order, and the first leads to each of these
pub record IsWalk (size : ℕ) (Step : ℕ → ℕ → Type 0) (from : ℕ) (met : Met) : Type 0 where
  pub whole_size : length met.marks ≡ size
  pub listed : (b : ℕ) → has_mark met.marks b ≡ true → Contains met.order b
  pub marked : (b : ℕ) → Contains met.order b → has_mark met.marks b ≡ true
  pub sound : All (Leads Step from) met.order
  pub count : count_by (λ b. b) met.marks ≡ length met.order

module _ (size : ℕ) (Step : ℕ → ℕ → Type 0) (from : ℕ) where
  meet_new : (met : Met) (t : ℕ) → has_mark met.marks t ≡ false → IsWalk size Step from met → t < size → Leads Step from t
      → IsWalk size Step from (record { marks = set met.marks t true; order = met.order ++ t ∷ [] })
  meet_new met t new w h r =
      let inside : t < length met.marks = subst (λ n. t < n) (sym w.whole_size) h in
      record {
        whole_size = length-set met.marks t true ∙ w.whole_size;
        listed = λ b m. listed_by b m (cases_eq b t);
        marked = λ b c. marked_by b (cases_eq b t) (Contains-push_cases met.order t b c);
        sound = All-push (Leads Step from) met.order t w.sound r;
        count =
            let one : count_by (λ b. b) (set met.marks t true) + cond (has_mark met.marks t) 1 0 ≡ count_by (λ b. b) met.marks + 1 = sum_by-set (λ b. let n : ℕ = cond b 1 0 in n) met.marks t true false inside in
            let none : ◌≡◌ {A = ℕ} (cond (has_mark met.marks t) 1 0) 0 = ap (λ b. let n : ℕ = cond b 1 0 in n) new in
            omega (arith, one, none, w.count, length_push met.order t);
      }
    where
      listed_by : (b : ℕ) → has_mark (set met.marks t true) b ≡ true → (b ≡ t) ⊎ (b ≡ t → ⊥) → Contains (met.order ++ t ∷ []) b
      listed_by b m (inl e) = subst (λ x. Contains (met.order ++ t ∷ []) x) (sym e) (Contains-push met.order t)
      listed_by b m (inr n) = Contains-append_left met.order (t ∷ []) b (w.listed b (sym (get_or-set_other met.marks t b true false n) ∙ m))

      marked_by : (b : ℕ) → (b ≡ t) ⊎ (b ≡ t → ⊥) → Contains met.order b ⊎ (t ≡ b) → has_mark (set met.marks t true) b ≡ true
      marked_by b (inl e) c = ap (λ x. has_mark (set met.marks t true) x) e ∙ get_or-set_same met.marks t true false (subst (λ n. t < n) (sym w.whole_size) h)
      marked_by b (inr n) (inl c) = get_or-set_other met.marks t b true false n ∙ w.marked b c
      marked_by b (inr n) (inr e) = absurd (n (sym e))

  meet_keeps : (met : Met) (t : ℕ) → IsWalk size Step from met → t < size → Leads Step from t → IsWalk size Step from (meet met t)
  meet_keeps met t w h r = by (has_mark met.marks t) refl
    where
      by : (b : Bool) → has_mark met.marks t ≡ b → IsWalk size Step from (meet met t)
      by true e = subst (IsWalk size Step from) (sym (meet_again met t e)) w
      by false e =
          subst (λ (order : List ℕ). IsWalk size Step from (record { marks = set met.marks t true; order = order }))
          (sym (ap (λ b. cond b met.order (met.order ++ t ∷ [])) e)) (meet_new met t e w h r)

  pub meet_all_keeps : (met : Met) (ts : List ℕ) → IsWalk size Step from met → All (λ t. t < size) ts → All (Leads Step from) ts
      → IsWalk size Step from (meet_all met ts)
  meet_all_keeps met [] w h r = w
  meet_all_keeps met (t ∷ ts) w h r =
      meet_all_keeps (meet met t) ts (meet_keeps met t w (All-head (λ t. t < size) t ts h) (All-head (Leads Step from) t ts r))
      (All-tail (λ t. t < size) t ts h) (All-tail (Leads Step from) t ts r)

-- ---- a walk only grows

pub record Grows (old new : Met) : Type 0 where
  pub more : List ℕ
  pub order : new.order ≡ old.order ++ more
  pub keeps : (b : ℕ) → has_mark old.marks b ≡ true → has_mark new.marks b ≡ true

grows_not : (met : Met) → Grows met met
grows_not met = record { more = []; order = sym (append-nil met.order); keeps = λ b h. h }

grows_on : (a b c : Met) → Grows a b → Grows b c → Grows a c
grows_on a b c g h = record {
  more = g.more ++ h.more;
  order = h.order ∙ (ap (λ xs. xs ++ h.more) g.order ∙ append_assoc a.order g.more h.more);
  keeps = λ x m. h.keeps x (g.keeps x m);
}

meet_grows : (met : Met) (t : ℕ) → Grows met (meet met t)
meet_grows met t = record {
  more = cond (has_mark met.marks t) [] (t ∷ []);
  order = by (has_mark met.marks t);
  keeps = λ b m. kept b m (cases_eq b t);
}
  where
    by : (b : Bool) → cond b met.order (met.order ++ t ∷ []) ≡ met.order ++ cond b [] (t ∷ [])
    by true = sym (append-nil met.order)
    by false = refl

    kept : (b : ℕ) → has_mark met.marks b ≡ true → (b ≡ t) ⊎ (b ≡ t → ⊥) → has_mark (set met.marks t true) b ≡ true
    kept b m (inl e) = ap (λ x. has_mark (set met.marks t true) x) e ∙ get_or-set_same met.marks t true false (subst (λ x. x < length met.marks) e (within met.marks b m))
    kept b m (inr n) = get_or-set_other met.marks t b true false n ∙ m

pub meet_all_grows : (met : Met) (ts : List ℕ) → Grows met (meet_all met ts)
meet_all_grows met [] = grows_not met
meet_all_grows met (t ∷ ts) = grows_on met (meet met t) (meet_all (meet met t) ts) (meet_grows met t) (meet_all_grows (meet met t) ts)

meet_marks : (met : Met) (t : ℕ) → t < length met.marks → has_mark (meet met t).marks t ≡ true
meet_marks met t h = get_or-set_same met.marks t true false h

pub meet_all_marks : (met : Met) (ts : List ℕ) (b : ℕ) → All (λ t. t < length met.marks) ts → Contains ts b → has_mark (meet_all met ts).marks b ≡ true
meet_all_marks met [] b h c = let k : c.0 < 0 = c.1 in absurd (omega arith)
meet_all_marks met (t ∷ ts) b h (zero, k, e) =
    (meet_all_grows (meet met t) ts).keeps b (subst (λ x. has_mark (meet met t).marks x ≡ true) e (meet_marks met t (All-head (λ t. t < length met.marks) t ts h)))
meet_all_marks met (t ∷ ts) b h (suc i, k, e) =
    meet_all_marks (meet met t) ts b
    (subst (λ n. All (λ x. x < n) ts) (sym (length-set met.marks t true)) (All-tail (λ t. t < length met.marks) t ts h))
    (i, omega arith, e)

-- ---- the steps of a place: those of its imports that are allowed

kept_by : (p : ℕ → Bool) (xs : List ℕ) (b : ℕ) → Contains xs b → p b ≡ true → Contains (filter p xs) b
kept_by p [] b c k = let l : c.0 < 0 = c.1 in absurd (omega arith)
kept_by p (x ∷ xs) b (zero, l, e) k = subst (λ (ys : List ℕ). Contains ys b) (sym (cond-true (p x) (x ∷ filter p xs) (filter p xs) (ap p e ∙ k))) (0, omega arith, e)
kept_by p (x ∷ xs) b (suc i, l, e) k = by (kept_by p xs b (i, omega arith, e) k) (cases_Bool (p x))
  where
    by : Contains (filter p xs) b → (p x ≡ true) ⊎ (p x ≡ false) → Contains (filter p (x ∷ xs)) b
    by c (inl t) = subst (λ (ys : List ℕ). Contains ys b) (sym (cond-true (p x) (x ∷ filter p xs) (filter p xs) t)) (suc c.0, (let m = c.1 in omega arith), c.2)
    by c (inr f) = subst (λ (ys : List ℕ). Contains ys b) (sym (cond-false (p x) (x ∷ filter p xs) (filter p xs) f)) c

module _ (rows : List (List ℕ)) (allowed : List Bool) where
  abbrev steps_of : ℕ → List ℕ
  steps_of a = allowed_of allowed (row_at rows a)

  step_listed : (a b : ℕ) → AllowedStep rows allowed a b → Contains (steps_of a) b
  step_listed a b s = kept_by (has_mark allowed) (row_at rows a) b s.0 s.1

  each_is_step : (a : ℕ) → All (AllowedStep rows allowed a) (steps_of a)
  each_is_step a = λ k d h. (
    All-filter (has_mark allowed) (Contains (row_at rows a)) (row_at rows a) (λ i e l. Contains-get_or (row_at rows a) i e l) k d h,
    filter_passes (has_mark allowed) (row_at rows a) k d h,
  )

  steps_within : (a : ℕ) → AreWithin rows → All (λ t. t < length rows) (steps_of a)
  steps_within a inside = λ k d h. import_within rows a (get_or (steps_of a) k d) inside (each_is_step a k d h).0

-- ---- what is known in the middle of a walk, whose order was followed up to an index

pub record IsOnWay (rows : List (List ℕ)) (allowed : List Bool) (from : ℕ) (met : Met) (at : ℕ) : Type 0 where
  pub walk : IsWalk (length rows) (AllowedStep rows allowed) from met
  pub begun : (b : ℕ) → AllowedStep rows allowed from b → has_mark met.marks b ≡ true
  pub index : at ≤ length met.order
  pub followed : (k b : ℕ) → k < at → AllowedStep rows allowed (get_or met.order k 0) b → has_mark met.marks b ≡ true

abbrev pub first_met : ℕ → Met
first_met n = record { marks = replicate n false; order = [] }

pub no_marks : (n b : ℕ) → has_mark (replicate n false) b ≡ false
no_marks zero b = refl
no_marks (suc n) zero = refl
no_marks (suc n) (suc b) = no_marks n b

no_count : (n : ℕ) → count_by (λ b. b) (replicate n false) ≡ 0
no_count zero = refl
no_count (suc n) = no_count n

module _ (rows : List (List ℕ)) (allowed : List Bool) (from : ℕ) (inside : AreWithin rows) where
  no_walk : IsWalk (length rows) (AllowedStep rows allowed) from (first_met (length rows))
  no_walk = record {
    whole_size = length-replicate (length rows) false;
    listed = λ b m. absurd (false≢true (sym (no_marks (length rows) b) ∙ m));
    marked = λ b c. (let k : c.0 < 0 = c.1 in absurd (omega arith));
    sound = All-nil (Leads (AllowedStep rows allowed) from);
    count = no_count (length rows);
  }

  pub set_off : IsOnWay rows allowed from (meet_all (first_met (length rows)) (allowed_of allowed (row_at rows from))) 0
  set_off = record {
    walk = meet_all_keeps (length rows) (AllowedStep rows allowed) from (first_met (length rows)) (steps_of rows allowed from) no_walk
        (steps_within rows allowed from inside)
        (λ k d h. one_step (AllowedStep rows allowed) from (get_or (steps_of rows allowed from) k d) (each_is_step rows allowed from k d h));
    begun = λ b s. meet_all_marks (first_met (length rows)) (steps_of rows allowed from) b
        (subst (λ n. All (λ x. x < n) (steps_of rows allowed from)) (sym (length-replicate (length rows) false)) (steps_within rows allowed from inside))
        (step_listed rows allowed from b s);
    index = omega arith;
    followed = λ k b l s. absurd (omega arith);
  }

  -- the place at an index of the order
  pub met_within : (met : Met) (at t : ℕ) → IsOnWay rows allowed from met at → at < length met.order → t ≡ get_or met.order at t → t < length rows
  met_within met at t w h e =
      let c : Contains met.order t = (at, h, sym e) in
      subst (λ n. t < n) w.walk.whole_size (within met.marks t (w.walk.marked t c))

  pub go_on : (met : Met) (at t : ℕ) → IsOnWay rows allowed from met at → at < length met.order → t ≡ get_or met.order at t
      → IsOnWay rows allowed from (meet_all met (allowed_of allowed (row_at rows t))) (at + 1)
  go_on met at t w h e = record {
    walk = meet_all_keeps (length rows) (AllowedStep rows allowed) from met steps w.walk steps_inside reached;
    begun = λ b s. grows.keeps b (w.begun b s);
    index = omega (arith, ap length grows.order, length-append met.order grows.more);
    followed = λ k b l s. by k b l s (cases_eq k at);
  }
    where
      steps : List ℕ
      steps = steps_of rows allowed t

      steps_inside : All (λ x. x < length rows) steps
      steps_inside = steps_within rows allowed t inside

      reached : All (Leads (AllowedStep rows allowed) from) steps
      reached = λ k d l. then_step (AllowedStep rows allowed) from t (get_or steps k d)
          (subst (Leads (AllowedStep rows allowed) from) (sym e) (w.walk.sound at t h)) (each_is_step rows allowed t k d l)

      grows : Grows met (meet_all met steps)
      grows = meet_all_grows met steps

      same : (k : ℕ) → k < length met.order → get_or (meet_all met steps).order k 0 ≡ get_or met.order k 0
      same k l = ap (λ xs. get_or xs k 0) grows.order ∙ get_or_append_left met.order grows.more 0 k l

      by : (k b : ℕ) → k < at + 1 → AllowedStep rows allowed (get_or (meet_all met steps).order k 0) b → (k ≡ at) ⊎ (k ≡ at → ⊥) → has_mark (meet_all met steps).marks b ≡ true
      by k b l s (inr n) = grows.keeps b (w.followed k b (omega arith) (subst (λ x. AllowedStep rows allowed x b) (same k (omega arith)) s))
      by k b l s (inl i) =
          let index : get_or (meet_all met steps).order k 0 ≡ t = same k (omega arith) ∙ (ap (λ x. get_or met.order x 0) i ∙ (get_or_default met.order at 0 t h ∙ sym e)) in
          meet_all_marks met steps b (subst (λ n. All (λ x. x < n) steps) (sym w.walk.whole_size) steps_inside)
          (step_listed rows allowed t b (subst (λ x. AllowedStep rows allowed x b) index s))

  way_marked : (met : Met) (at : ℕ) → IsOnWay rows allowed from met at → length met.order ≤ at
      → (way : List ℕ) (a b : ℕ) → has_mark met.marks a ≡ true → IsWay (AllowedStep rows allowed) a way b → has_mark met.marks b ≡ true
  way_marked met at w h [] a b m is =
      let c = w.walk.listed a m in
      let same : get_or met.order c.0 0 ≡ a = get_or_default met.order c.0 0 a c.1 ∙ c.2 in
      w.followed c.0 b (omega (arith, c.1)) (subst (λ x. AllowedStep rows allowed x b) (sym same) is)
  way_marked met at w h (next ∷ way) a b m is =
      let c = w.walk.listed a m in
      let same : get_or met.order c.0 0 ≡ a = get_or_default met.order c.0 0 a c.1 ∙ c.2 in
      way_marked met at w h way next b (w.followed c.0 next (omega (arith, c.1)) (subst (λ x. AllowedStep rows allowed x next) (sym same) is.0)) is.1

  all_marked : (met : Met) (at : ℕ) → IsOnWay rows allowed from met at → length met.order ≤ at
      → (way : List ℕ) (b : ℕ) → IsWay (AllowedStep rows allowed) from way b → has_mark met.marks b ≡ true
  all_marked met at w h [] b is = w.begun b is
  all_marked met at w h (next ∷ way) b is = way_marked met at w h way next b (w.begun next is.0) is.1

  pub arrive : (met : Met) (at : ℕ) → IsOnWay rows allowed from met at → length met.order ≤ at → HasMet rows allowed from met
  arrive met at w h = record {
    size = w.walk.whole_size;
    sound = λ b m. All-contains (Leads (AllowedStep rows allowed) from) met.order b w.walk.sound (w.walk.listed b m);
    whole = λ b l. all_marked met at w h l.way b l.is_way;
    listed = w.walk.listed;
    marked = w.walk.marked;
  }

  -- no order is longer than the list of all places
  pub few_met : (met : Met) (at : ℕ) → IsOnWay rows allowed from met at → length met.order ≤ length rows
  few_met met at w = omega (arith, w.walk.count, count_by-le-length (λ b. b) met.marks, w.walk.whole_size)
