-- A build has one closure. So a task of a build is of one target, and a target has one number.
use Rattle.std.proofs.Common.{◌≡◌, ◌≢◌, ◌⊎◌, inl, inr, ◌++◌, ◌<◌, ◌≤◌, ℕ, zero, suc, List, [], ◌∷◌, length, get_or, map, All, AllPairs, Contains, refl, sym, ap, subst, ◌∙◌, arith, slice_get}
use Rattle.std.specs.Prelude.{codes}
use Rattle.std.proofs.lemmas.List.{append_cancel_left, get_or-map, length-map}
use Rattle.std.proofs.lemmas.List.Elements.{All-contains}
use Rattle.std.proofs.lemmas.Option.{get_or_from_slice_get, same_Some, slice_get_within}
pub use Rattle.session_law.proofs.ListLaws.{contains_cases, contains_first, contains_later, contains_none}
use Rattle.session_law.specs.History.{IsTaskOf}
use Rattle.session_law.specs.Requests.{Active}
use Rattle.target_graph.proofs.SeenStems.{same_index}
use Rattle.target_graph.specs.Address.{target_address}
use Rattle.target_graph.specs.Workspace.{Space, IsClosure, IsReached, id_of, name_at}
use Rattle.target_graph.specs.declared.target.Target.{Target}

-- ---- lists that rise

rest_rises : (x : ℕ) (xs : List ℕ) → AllPairs ◌<◌ (x ∷ xs) → AllPairs ◌<◌ xs
rest_rises x xs rises i j d h k = rises (suc i) (suc j) d (omega arith) (omega arith)

first_least : (x : ℕ) (xs : List ℕ) → AllPairs ◌<◌ (x ∷ xs) → (n : ℕ) → Contains xs n → x < n
first_least x xs rises n there =
    let below : x < get_or xs there.0 n = rises 0 (suc there.0) n (omega arith) (omega (arith, there.1)) in
    subst (λ m. x < m) there.2 below

first_same : (x y : ℕ) (a b : List ℕ) → AllPairs ◌<◌ (x ∷ a) → AllPairs ◌<◌ (y ∷ b) → Contains (y ∷ b) x → Contains (x ∷ a) y → x ≡ y
first_same x y a b rises rises' there back = by (contains_cases y b x there) (contains_cases x a y back)
  where
    by : (y ≡ x) ⊎ Contains b x → (x ≡ y) ⊎ Contains a y → x ≡ y
    by (inl same) later = sym same
    by (inr h) (inl same) = same
    by (inr h) (inr k) = absurd (omega (arith, first_least y b rises' x h, first_least x a rises y k))

rest_within : (x y : ℕ) (a b : List ℕ) → AllPairs ◌<◌ (x ∷ a) → x ≡ y → ((n : ℕ) → Contains (x ∷ a) n → Contains (y ∷ b) n) → (n : ℕ) → Contains a n → Contains b n
rest_within x y a b rises same within n there = by (contains_cases y b n (within n (contains_later x a n there)))
  where
    by : (y ≡ n) ⊎ Contains b n → Contains b n
    by (inl it) = absurd (omega (arith, first_least x a rises n there, same, it))
    by (inr h) = h

-- two that contain the same numbers are one
pub rising_same : (a b : List ℕ) → AllPairs ◌<◌ a → AllPairs ◌<◌ b → ((n : ℕ) → Contains a n → Contains b n) → ((n : ℕ) → Contains b n → Contains a n) → a ≡ b
rising_same [] [] rises rises' within back = refl
rising_same [] (y ∷ b) rises rises' within back = absurd (contains_none y (back y (contains_first y b)))
rising_same (x ∷ a) [] rises rises' within back = absurd (contains_none x (within x (contains_first x a)))
rising_same (x ∷ a) (y ∷ b) rises rises' within back =
    let same : x ≡ y = first_same x y a b rises rises' (within x (contains_first x a)) (back y (contains_first y b)) in
    ap (λ n. n ∷ a) same
    ∙ ap (λ ns. y ∷ ns)
    (rising_same a b (rest_rises x a rises) (rest_rises y b rises')
    (rest_within x y a b rises same within) (rest_within y x b a rises' (sym same) back))

place_least : (xs : List ℕ) → AllPairs ◌<◌ xs → (k : ℕ) → k < length xs → k ≤ get_or xs k 0
place_least xs rises zero h = omega arith
place_least xs rises (suc k) h = omega (arith, place_least xs rises k (omega arith), rises k (suc k) 0 (omega arith) h)

-- of numbers below a limit it has no more than these
pub rising_few : (xs : List ℕ) (limit : ℕ) → AllPairs ◌<◌ xs → All (λ n. n < limit) xs → length xs ≤ limit
rising_few xs limit rises within = by (length xs) refl
  where
    by : (size : ℕ) → length xs ≡ size → length xs ≤ limit
    by zero is = omega (arith, is)
    by (suc k) is = omega (arith, is, place_least xs rises k (omega (arith, is)), within k 0 (omega (arith, is)))

-- ---- one closure

pub one_closure : (targets : List Target) (asked a b : List ℕ) → IsClosure targets asked a → IsClosure targets asked b → a ≡ b
one_closure targets asked a b first second =
    rising_same a b first.ordered second.ordered
    (λ n there. second.whole n (All-contains (IsReached targets asked) a n first.reached there))
    (λ n there. first.whole n (All-contains (IsReached targets asked) b n second.reached there))

-- the task with a number is of one target
pub one_target : (active : Active) (id other : List ℕ) (i : ℕ) → IsTaskOf active id i → IsTaskOf active other i → id ≡ other
one_target active id other i a b =
    let closures : a.closure ≡ b.closure = one_closure active.build.space.targets active.build.asked a.closure b.closure a.closed b.closed in
    let places : a.before ≡ b.before = omega (arith, a.number_is, b.number_is) in
    let targets : a.target ≡ b.target =
    same_Some a.target b.target (sym a.there ∙ (ap (λ ts. slice_get ts a.before) closures ∙ (ap (slice_get b.closure) places ∙ b.there))) in
    sym a.id_is ∙ (ap (id_of active.build.space) targets ∙ b.id_is)

-- ---- one number

-- the targets of the build's closure have ids of their own
abbrev pub IdsDiffer : Active → Type 0
IdsDiffer active = (closure : List ℕ) → IsClosure active.build.space.targets active.build.asked closure → AllPairs ◌≢◌ (map (id_of active.build.space) closure)

id_there : (active : Active) (id : List ℕ) (i : ℕ) → (task : IsTaskOf active id i) → get_or (map (id_of active.build.space) task.closure) task.before [] ≡ id
id_there active id i task =
    let h : task.before < length task.closure = slice_get_within task.closure task.before task.target task.there in
    get_or-map (id_of active.build.space) task.closure task.before task.target [] h
    ∙ (ap (id_of active.build.space) (get_or_from_slice_get task.closure task.before task.target task.target task.there) ∙ task.id_is)

id_within : (active : Active) (id : List ℕ) (i : ℕ) → (task : IsTaskOf active id i) → task.before < length (map (id_of active.build.space) task.closure)
id_within active id i task =
    omega (arith, length-map task.closure (id_of active.build.space), slice_get_within task.closure task.before task.target task.there)

-- where their ids differ, a target has one number
pub one_number : (active : Active) (id : List ℕ) (i j : ℕ) → IdsDiffer active → IsTaskOf active id i → IsTaskOf active id j → i ≡ j
one_number active id i j differ a b =
    let closures : b.closure ≡ a.closure = one_closure active.build.space.targets active.build.asked b.closure a.closure b.closed a.closed in
    let ids : List (List ℕ) = map (id_of active.build.space) a.closure in
    let there : get_or ids b.before [] ≡ id =
    ap (λ ts. get_or (map (id_of active.build.space) ts) b.before []) (sym closures) ∙ id_there active id j b in
    let within : b.before < length ids = subst (λ ts. b.before < length (map (id_of active.build.space) ts)) closures (id_within active id j b) in
    let places : a.before ≡ b.before =
    same_index ids a.before b.before (differ a.closure a.closed) (id_within active id i a) within (id_there active id i a ∙ sym there) in
    omega (arith, a.number_is, b.number_is, places)

-- they do where the targets have names of their own
same_name : (root a b : List ℕ) → target_address root a ≡ target_address root b → a ≡ b
unfolding target_address
same_name root a b same = append_cancel_left (root ++ codes "?id=") a b same

abbrev names_of : List Target → List (List ℕ)
names_of targets = map (λ (target : Target). target.name) targets

same_target : (space : Space) (s t : ℕ) → AllPairs ◌≢◌ (names_of space.targets) → s < length space.targets → t < length space.targets → id_of space s ≡ id_of space t → s ≡ t
same_target space s t names h k same =
    let size : length (names_of space.targets) ≡ length space.targets = length-map space.targets (λ (target : Target). target.name) in
    same_index (names_of space.targets) s t names (subst (λ n. s < n) (sym size) h) (subst (λ n. t < n) (sym size) k)
    (same_name space.root (name_at space.targets s) (name_at space.targets t) same)

ids_apart : (space : Space) (closure : List ℕ) → AllPairs ◌<◌ closure → All (λ t. t < length space.targets) closure → AllPairs ◌≢◌ (names_of space.targets)
    → AllPairs ◌≢◌ (map (id_of space) closure)
ids_apart space closure rises within names i j d h k same =
    let k' : j < length closure = omega (arith, k, length-map closure (id_of space)) in
    let h' : i < length closure = omega arith in
    let first : get_or (map (id_of space) closure) i d ≡ id_of space (get_or closure i 0) = get_or-map (id_of space) closure i 0 d h' in
    let second : get_or (map (id_of space) closure) j d ≡ id_of space (get_or closure j 0) = get_or-map (id_of space) closure j 0 d k' in
    let one : get_or closure i 0 ≡ get_or closure j 0 =
    same_target space (get_or closure i 0) (get_or closure j 0) names (within i 0 h') (within j 0 k') (sym first ∙ (same ∙ second)) in
    omega (arith, one, rises i j 0 h k')

pub ids_differ : (active : Active) (closure : List ℕ) → IsClosure active.build.space.targets active.build.asked closure → All (λ t. t < length active.build.space.targets) closure
    → AllPairs ◌≢◌ (map (λ (target : Target). target.name) active.build.space.targets) → IdsDiffer active
ids_differ active closure closed within names other other_closed =
    subst (λ ts. AllPairs ◌≢◌ (map (id_of active.build.space) ts))
    (one_closure active.build.space.targets active.build.asked closure other closed other_closed)
    (ids_apart active.build.space closure closed.ordered within names)

-- a number is no larger than the closure
pub number_within : (active : Active) (closure id : List ℕ) (i : ℕ) → IsClosure active.build.space.targets active.build.asked closure → IsTaskOf active id i → i < suc (length closure)
number_within active closure id i closed task =
    let same : length task.closure ≡ length closure = ap length (one_closure active.build.space.targets active.build.asked task.closure closure task.closed closed) in
    omega (arith, same, task.number_is, slice_get_within task.closure task.before task.target task.there)
