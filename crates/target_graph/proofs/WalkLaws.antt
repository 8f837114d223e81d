-- A walk meets the targets to which some lead, and no others.
use Rattle.std.proofs.Common.{◌≡◌, ◌⊎◌, inl, inr, ℕ, zero, suc, ◌+◌, ◌<◌, ◌≤◌, List, [], ◌∷◌, ◌++◌, Bool, true, false, cond, length, get_or, set, replicate, All, Contains, Some, ap, sym, subst, ◌∙◌, refl, arith}
use Rattle.std.specs.List.{count_by, slice_get}
use Rattle.std.proofs.lemmas.Bool.{false≢true, cases_eq}
use Rattle.std.proofs.lemmas.List.{set-get_or, length-set, length_push, get_or-set_same, get_or-set_other, get_or_append_left, get_or_default, append-nil, append_assoc, length-append, length-replicate}
use Rattle.std.proofs.lemmas.Option.{slice_get_read, same_Some}
use Rattle.std.proofs.lemmas.List.Sums.{sum_by-set, count_by-le-length}
use Rattle.std.proofs.lemmas.List.Elements.{All-nil, All-head, All-tail, All-push, All-contains, Contains-push, Contains-append_left, Contains-push_cases, Contains-get_or}
use Rattle.target_graph.specs.declared.target.Target.{Target}
use Rattle.target_graph.specs.Workspace.{IsDirect, IsWay, Leads, IsReached}
use Rattle.target_graph.specs.Walk.{Met, has_met, meet, meet_all, AreClosed, AreMarks}

-- what holds all along a walk: the marks stand at the targets of the order, and an asked one leads to each of these
pub record IsWalk (targets : List Target) (asked : List ℕ) (met : Met) : Type 0 where
  pub size : length met.marks ≡ length targets
  pub listed : (b : ℕ) → has_met met.marks b ≡ true → Contains met.order b
  pub marked : (b : ℕ) → Contains met.order b → has_met met.marks b ≡ true
  pub sound : All (IsReached targets asked) met.order
  pub count : count_by (λ b. b) met.marks ≡ length met.order

within : (marks : List Bool) (b : ℕ) → has_met marks b ≡ true → b < length marks
within [] b h = absurd (false≢true h)
within (m ∷ marks) zero h = omega arith
within (m ∷ marks) (suc b) h = let k = within marks b h in omega arith

meet_again : (met : Met) (t : ℕ) → has_met met.marks t ≡ true → meet met t ≡ met
meet_again met t h =
    let marks : set met.marks t true ≡ met.marks = ap (λ b. set met.marks t b) (sym h) ∙ set-get_or met.marks t false in
    let order : cond (has_met met.marks t) met.order (met.order ++ t ∷ []) ≡ met.order = ap (λ b. cond b met.order (met.order ++ t ∷ [])) h in
    (λ i. record { marks = marks i; order = order i })

-- one more target
module _ (targets : List Target) (asked : List ℕ) where
  meet_new : (met : Met) (t : ℕ) → has_met met.marks t ≡ false → IsWalk targets asked met → t < length targets → IsReached targets asked t
      → IsWalk targets asked (record { marks = set met.marks t true; order = met.order ++ t ∷ [] })
  meet_new met t new w h r =
      let size : t < length met.marks = subst (λ n. t < n) (sym w.size) h in
      record {
        size = length-set met.marks t true ∙ w.size;
        listed = λ b m. listed_by b m (cases_eq b t);
        marked = λ b c. marked_by b (cases_eq b t) (Contains-push_cases met.order t b c);
        sound = All-push (IsReached targets asked) met.order t w.sound r;
        count =
            let one : count_by (λ b. b) (set met.marks t true) + cond (has_met met.marks t) 1 0 ≡ count_by (λ b. b) met.marks + 1 = sum_by-set (λ b. let n : ℕ = cond b 1 0 in n) met.marks t true false size in
            let none : ◌≡◌ {A = ℕ} (cond (has_met met.marks t) 1 0) 0 = ap (λ b. let n : ℕ = cond b 1 0 in n) new in
            omega (arith, one, none, w.count, length_push met.order t);
      }
    where
      listed_by : (b : ℕ) → has_met (set met.marks t true) b ≡ true → (b ≡ t) ⊎ (b ≡ t → ⊥) → Contains (met.order ++ t ∷ []) b
      listed_by b m (inl e) = subst (λ x. Contains (met.order ++ t ∷ []) x) (sym e) (Contains-push met.order t)
      listed_by b m (inr n) = Contains-append_left met.order (t ∷ []) b (w.listed b (sym (get_or-set_other met.marks t b true false n) ∙ m))

      marked_by : (b : ℕ) → (b ≡ t) ⊎ (b ≡ t → ⊥) → Contains met.order b ⊎ (t ≡ b) → has_met (set met.marks t true) b ≡ true
      marked_by b (inl e) c = ap (λ x. has_met (set met.marks t true) x) e ∙ get_or-set_same met.marks t true false (subst (λ n. t < n) (sym w.size) h)
      marked_by b (inr n) (inl c) = get_or-set_other met.marks t b true false n ∙ w.marked b c
      marked_by b (inr n) (inr e) = absurd (n (sym e))

  meet_keeps : (met : Met) (t : ℕ) → IsWalk targets asked met → t < length targets → IsReached targets asked t → IsWalk targets asked (meet met t)
  meet_keeps met t w h r = by (has_met met.marks t) refl
    where
      by : (b : Bool) → has_met met.marks t ≡ b → IsWalk targets asked (meet met t)
      by true e = subst (IsWalk targets asked) (sym (meet_again met t e)) w
      by false e =
          subst (λ (order : List ℕ). IsWalk targets asked (record { marks = set met.marks t true; order = order }))
          (sym (ap (λ b. cond b met.order (met.order ++ t ∷ [])) e)) (meet_new met t e w h r)

  pub meet_all_keeps : (met : Met) (ts : List ℕ) → IsWalk targets asked met → All (λ t. t < length targets) ts → All (IsReached targets asked) ts
      → IsWalk targets asked (meet_all met ts)
  meet_all_keeps met [] w h r = w
  meet_all_keeps met (t ∷ ts) w h r =
      meet_all_keeps (meet met t) ts (meet_keeps met t w (All-head (λ t. t < length targets) t ts h) (All-head (IsReached targets asked) t ts r))
      (All-tail (λ t. t < length targets) t ts h) (All-tail (IsReached targets asked) t ts r)

-- ---- a walk only grows

pub record Grows (old new : Met) : Type 0 where
  pub more : List ℕ
  pub order : new.order ≡ old.order ++ more
  pub keeps : (b : ℕ) → has_met old.marks b ≡ true → has_met new.marks b ≡ true

grows_not : (met : Met) → Grows met met
grows_not met = record { more = []; order = sym (append-nil met.order); keeps = λ b h. h }

grows_on : (a b c : Met) → Grows a b → Grows b c → Grows a c
grows_on a b c g h = record {
  more = g.more ++ h.more;
  order = h.order ∙ (ap (λ xs. xs ++ h.more) g.order ∙ append_assoc a.order g.more h.more);
  keeps = λ x m. h.keeps x (g.keeps x m);
}

meet_grows : (met : Met) (t : ℕ) → Grows met (meet met t)
meet_grows met t = record {
  more = cond (has_met met.marks t) [] (t ∷ []);
  order = by (has_met met.marks t);
  keeps = λ b m. kept b m (cases_eq b t);
}
  where
    by : (b : Bool) → cond b met.order (met.order ++ t ∷ []) ≡ met.order ++ cond b [] (t ∷ [])
    by true = sym (append-nil met.order)
    by false = refl

    kept : (b : ℕ) → has_met met.marks b ≡ true → (b ≡ t) ⊎ (b ≡ t → ⊥) → has_met (set met.marks t true) b ≡ true
    kept b m (inl e) = ap (λ x. has_met (set met.marks t true) x) e ∙ get_or-set_same met.marks t true false (subst (λ x. x < length met.marks) e (within met.marks b m))
    kept b m (inr n) = get_or-set_other met.marks t b true false n ∙ m

pub meet_all_grows : (met : Met) (ts : List ℕ) → Grows met (meet_all met ts)
meet_all_grows met [] = grows_not met
meet_all_grows met (t ∷ ts) = grows_on met (meet met t) (meet_all (meet met t) ts) (meet_grows met t) (meet_all_grows (meet met t) ts)

meet_marks : (met : Met) (t : ℕ) → t < length met.marks → has_met (meet met t).marks t ≡ true
meet_marks met t h = get_or-set_same met.marks t true false h

pub meet_all_marks : (met : Met) (ts : List ℕ) (b : ℕ) → All (λ t. t < length met.marks) ts → Contains ts b → has_met (meet_all met ts).marks b ≡ true
meet_all_marks met [] b h c = let k : c.0 < 0 = c.1 in absurd (omega arith)
meet_all_marks met (t ∷ ts) b h (zero, k, e) =
    (meet_all_grows (meet met t) ts).keeps b (subst (λ x. has_met (meet met t).marks x ≡ true) e (meet_marks met t (All-head (λ t. t < length met.marks) t ts h)))
meet_all_marks met (t ∷ ts) b h (suc i, k, e) =
    meet_all_marks (meet met t) ts b
    (subst (λ n. All (λ x. x < n) ts) (sym (length-set met.marks t true)) (All-tail (λ t. t < length met.marks) t ts h))
    (i, omega arith, e)

-- ---- what is known in the middle of a walk, whose order was followed up to an index

pub record IsOnWay (targets : List Target) (asked : List ℕ) (met : Met) (at : ℕ) : Type 0 where
  pub walk : IsWalk targets asked met
  pub asked_for : (b : ℕ) → Contains asked b → has_met met.marks b ≡ true
  pub index : at ≤ length met.order
  pub followed : (k b : ℕ) → k < at → IsDirect targets (get_or met.order k 0) b → has_met met.marks b ≡ true

abbrev pub first_met : ℕ → Met
first_met n = record { marks = replicate n false; order = [] }

pub no_marks : (n b : ℕ) → has_met (replicate n false) b ≡ false
no_marks zero b = refl
no_marks (suc n) zero = refl
no_marks (suc n) (suc b) = no_marks n b

no_count : (n : ℕ) → count_by (λ b. b) (replicate n false) ≡ 0
no_count zero = refl
no_count (suc n) = no_count n

way_more : (targets : List Target) (way : List ℕ) (a b d : ℕ) → IsWay targets a way b → IsDirect targets b d → IsWay targets a (way ++ d ∷ []) d
way_more targets [] a b d w direct = (subst (λ x. IsDirect targets x d) (sym w) direct, refl)
way_more targets (next ∷ way) a b d w direct = (w.0, way_more targets way next b d w.1 direct)

reached_more : (targets : List Target) (asked : List ℕ) (b d : ℕ) → IsReached targets asked b → IsDirect targets b d → IsReached targets asked d
reached_more targets asked b d r direct = record {
  from = r.from;
  asked_for = r.asked_for;
  leads = record { way = r.leads.way ++ d ∷ []; is_way = way_more targets r.leads.way r.from b d r.leads.is_way direct };
}

asked_reached : (targets : List Target) (asked : List ℕ) → All (IsReached targets asked) asked
asked_reached targets asked = λ k d h. record {
  from = get_or asked k d;
  asked_for = Contains-get_or asked k d h;
  leads = record { way = []; is_way = refl };
}

no_walk : (targets : List Target) (asked : List ℕ) → IsWalk targets asked (first_met (length targets))
no_walk targets asked = record {
  size = length-replicate (length targets) false;
  listed = λ b m. absurd (false≢true (sym (no_marks (length targets) b) ∙ m));
  marked = λ b c. (let k : c.0 < 0 = c.1 in absurd (omega arith));
  sound = All-nil (IsReached targets asked);
  count = no_count (length targets);
}

pub set_off : (targets : List Target) (asked : List ℕ) → All (λ t. t < length targets) asked → IsOnWay targets asked (meet_all (first_met (length targets)) asked) 0
set_off targets asked h = record {
  walk = meet_all_keeps targets asked (first_met (length targets)) asked (no_walk targets asked) h (asked_reached targets asked);
  asked_for = λ b c. meet_all_marks (first_met (length targets)) asked b (subst (λ n. All (λ x. x < n) asked) (sym (length-replicate (length targets) false)) h) c;
  index = omega arith;
  followed = λ k b l direct. absurd (omega arith);
}

-- the target at an index of the order
pub met_within : (targets : List Target) (asked : List ℕ) (met : Met) (at : ℕ) (t : ℕ) → IsOnWay targets asked met at → at < length met.order → t ≡ get_or met.order at t → t < length targets
met_within targets asked met at t w h e =
    let c : Contains met.order t = (at, h, sym e) in
    subst (λ n. t < n) w.walk.size (within met.marks t (w.walk.marked t c))

pub go_on : (targets : List Target) (asked : List ℕ) (met : Met) (at t : ℕ) (target : Target) → AreClosed targets → IsOnWay targets asked met at
    → at < length met.order → t ≡ get_or met.order at t → target ≡ get_or targets t target
    → IsOnWay targets asked (meet_all met target.dependencies) (at + 1)
go_on targets asked met at t target closed w h e there = record {
  walk = meet_all_keeps targets asked met deps w.walk inside reached;
  asked_for = λ b c. grows.keeps b (w.asked_for b c);
  index = omega (arith, ap length grows.order, length-append met.order grows.more);
  followed = λ k b l direct. by k b l direct (cases_eq k at);
}
  where
    deps : List ℕ
    deps = target.dependencies

    size : t < length targets
    size = met_within targets asked met at t w h e

    here : slice_get targets t ≡ Some target
    here = slice_get_read targets (length targets) t target refl size there

    inside : All (λ x. x < length targets) deps
    inside = subst (λ (x : Target). All (λ y. y < length targets) x.dependencies) (sym there) (closed t target size)

    reached : All (IsReached targets asked) deps
    reached = λ k d l. reached_more targets asked t (get_or deps k d)
        (subst (IsReached targets asked) (sym e) (w.walk.sound at t h)) (record { target = target; there = here; listed = Contains-get_or deps k d l })

    grows : Grows met (meet_all met deps)
    grows = meet_all_grows met deps

    same : (k : ℕ) → k < length met.order → get_or (meet_all met deps).order k 0 ≡ get_or met.order k 0
    same k l = ap (λ xs. get_or xs k 0) grows.order ∙ get_or_append_left met.order grows.more 0 k l

    by : (k b : ℕ) → k < at + 1 → IsDirect targets (get_or (meet_all met deps).order k 0) b → (k ≡ at) ⊎ (k ≡ at → ⊥) → has_met (meet_all met deps).marks b ≡ true
    by k b l direct (inr n) = grows.keeps b (w.followed k b (omega arith) (subst (λ x. IsDirect targets x b) (same k (omega arith)) direct))
    by k b l direct (inl i) =
        let index : get_or (meet_all met deps).order k 0 ≡ t = same k (omega arith) ∙ (ap (λ x. get_or met.order x 0) i ∙ (get_or_default met.order at 0 t h ∙ sym e)) in
        let again : slice_get targets t ≡ Some direct.target = ap (slice_get targets) (sym index) ∙ direct.there in
        let one : direct.target ≡ target = same_Some direct.target target (sym again ∙ here) in
        meet_all_marks met deps b (subst (λ n. All (λ x. x < n) deps) (sym w.walk.size) inside)
        (subst (λ (x : Target). Contains x.dependencies b) one direct.listed)

way_marked : (targets : List Target) (asked : List ℕ) (met : Met) (at : ℕ) → IsOnWay targets asked met at → length met.order ≤ at
    → (way : List ℕ) (a b : ℕ) → has_met met.marks a ≡ true → IsWay targets a way b → has_met met.marks b ≡ true
way_marked targets asked met at w h [] a b m is = subst (λ x. has_met met.marks x ≡ true) is m
way_marked targets asked met at w h (next ∷ way) a b m is =
    let c = w.walk.listed a m in
    let same : get_or met.order c.0 0 ≡ a = get_or_default met.order c.0 0 a c.1 ∙ c.2 in
    way_marked targets asked met at w h way next b
    (w.followed c.0 next (omega (arith, c.1)) (subst (λ x. IsDirect targets x next) (sym same) is.0)) is.1

pub arrive : (targets : List Target) (asked : List ℕ) (met : Met) (at : ℕ) → IsOnWay targets asked met at → length met.order ≤ at → AreMarks targets asked met.marks
arrive targets asked met at w h = record {
  size = w.walk.size;
  reached = λ b m. All-contains (IsReached targets asked) met.order b w.walk.sound (w.walk.listed b m);
  whole = λ b r. way_marked targets asked met at w h r.leads.way r.from b (w.asked_for r.from r.asked_for) r.leads.is_way;
}

-- no order is longer than the list of all targets
pub few_met : (targets : List Target) (asked : List ℕ) (met : Met) (at : ℕ) → IsOnWay targets asked met at → length met.order ≤ length targets
few_met targets asked met at w = omega (arith, w.walk.count, count_by-le-length (λ b. b) met.marks, w.walk.size)

pub inside_marks : (targets : List Target) (asked : List ℕ) (met : Met) (at t : ℕ) (target : Target) → AreClosed targets → IsOnWay targets asked met at
    → t < length targets → target ≡ get_or targets t target → All (λ d. d < length met.marks) target.dependencies
inside_marks targets asked met at t target closed w h there =
    subst (λ n. All (λ d. d < n) target.dependencies) (sym w.walk.size)
    (subst (λ (x : Target). All (λ y. y < length targets) x.dependencies) (sym there) (closed t target h))

-- ---- the closure of one target

pub only : (t a : ℕ) → Contains (t ∷ []) a → a ≡ t
only t a (zero, h, e) = sym e
only t a (suc k, h, e) = absurd (omega arith)

pub itself : (t : ℕ) → Contains (t ∷ []) t
itself t = (0, omega arith, refl)

pub mark_leads : (targets : List Target) (t b : ℕ) (marks : List Bool) → AreMarks targets (t ∷ []) marks → has_met marks b ≡ true → Leads targets t b
mark_leads targets t b marks m is = (let r = m.reached b is in subst (λ a. Leads targets a b) (only t r.from r.asked_for) r.leads)

pub leads_mark : (targets : List Target) (t b : ℕ) (marks : List Bool) → AreMarks targets (t ∷ []) marks → Leads targets t b → has_met marks b ≡ true
leads_mark targets t b marks m l = m.whole b (record { from = t; asked_for = itself t; leads = l })
