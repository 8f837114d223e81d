-- Lists from which one element is taken out, wherever it stands.
use Rattle.std.proofs.Common.{◌≡◌, ◌≢◌, ◌⊎◌, inl, inr, ◌++◌, zero, suc, List, [], ◌∷◌, get_or, map, sym, ap, subst, ◌∙◌, arith}
use Rattle.std.specs.List.{All, AllPairs, Contains}
use Rattle.std.proofs.lemmas.List.{get_or_default, map-append}
use Rattle.std.proofs.lemmas.List.Elements.{All-contains, Contains-append_cases, Contains-append_left, Contains-append_right, Contains-get_or}
use Rattle.session_law.proofs.ListLaws.{contains_cases, contains_first, contains_later, contains_map, contains_map_back}
use Rattle.session_build.proofs.Members.{distinct_first, distinct_rest}

-- ---- members

-- it is the first, or one of those before and behind it
pub moved : {X : Type 0} (front back : List X) (x y : X) → Contains (front ++ x ∷ back) y → Contains (x ∷ (front ++ back)) y
moved {X} front back x y there = by (Contains-append_cases front (x ∷ back) y there)
  where
    last : (x ≡ y) ⊎ Contains back y → Contains (x ∷ (front ++ back)) y
    last (inl same) = subst (Contains (x ∷ (front ++ back))) same (contains_first x (front ++ back))
    last (inr behind) = contains_later x (front ++ back) y (Contains-append_right front back y behind)

    by : Contains front y ⊎ Contains (x ∷ back) y → Contains (x ∷ (front ++ back)) y
    by (inl before) = contains_later x (front ++ back) y (Contains-append_left front back y before)
    by (inr rest) = last (contains_cases x back y rest)

pub moved_back : {X : Type 0} (front back : List X) (x y : X) → Contains (x ∷ (front ++ back)) y → Contains (front ++ x ∷ back) y
moved_back {X} front back x y there = by (contains_cases x (front ++ back) y there)
  where
    rest : Contains front y ⊎ Contains back y → Contains (front ++ x ∷ back) y
    rest (inl before) = Contains-append_left front (x ∷ back) y before
    rest (inr behind) = Contains-append_right front (x ∷ back) y (contains_later x back y behind)

    by : (x ≡ y) ⊎ Contains (front ++ back) y → Contains (front ++ x ∷ back) y
    by (inl same) = subst (Contains (front ++ x ∷ back)) same (Contains-append_right front (x ∷ back) x (contains_first x back))
    by (inr other) = rest (Contains-append_cases front back y other)

pub others_there : {X : Type 0} (front back : List X) (x y : X) → Contains (front ++ back) y → Contains (front ++ x ∷ back) y
others_there front back x y there = moved_back front back x y (contains_later x (front ++ back) y there)

-- what holds of all of a list holds of all that it contains
pub all_by : {X : Type 0} (P : X → Type 0) (xs ys : List X) → ((y : X) → Contains ys y → Contains xs y) → All P xs → All P ys
all_by P xs ys within all k d h = All-contains P xs (get_or ys k d) all (within (get_or ys k d) (Contains-get_or ys k d h))

pub moved_map : {X Y : Type 0} (f : X → Y) (front back : List X) (x : X) (y : Y) → Contains (map f (front ++ x ∷ back)) y → Contains (map f (x ∷ (front ++ back))) y
moved_map f front back x y there =
    let from = contains_map_back f (front ++ x ∷ back) y there in
    subst (Contains (map f (x ∷ (front ++ back)))) from.2 (contains_map f (x ∷ (front ++ back)) from.0 (moved front back x from.0 from.1))

-- ---- pairs

pub pairs_head : {X : Type 0} (P : X → X → Type 0) (x : X) (xs : List X) → AllPairs P (x ∷ xs) → All (P x) xs
pairs_head P x xs pairs k d h = pairs zero (suc k) d (omega arith) (omega arith)

pub pairs_tail : {X : Type 0} (P : X → X → Type 0) (x : X) (xs : List X) → AllPairs P (x ∷ xs) → AllPairs P xs
pairs_tail P x xs pairs i j d h k = pairs (suc i) (suc j) d (omega arith) (omega arith)

pub pairs_cons : {X : Type 0} (P : X → X → Type 0) (x : X) (xs : List X) → All (P x) xs → AllPairs P xs → AllPairs P (x ∷ xs)
pairs_cons P x xs first pairs zero zero d h k = absurd (omega arith)
pairs_cons P x xs first pairs zero (suc j) d h k = first j d (omega arith)
pairs_cons P x xs first pairs (suc i) zero d h k = absurd (omega arith)
pairs_cons P x xs first pairs (suc i) (suc j) d h k = pairs i j d (omega arith) (omega arith)

-- what holds of each two still does
pub pairs_less : {X : Type 0} (P : X → X → Type 0) (front back : List X) (x : X) → AllPairs P (front ++ x ∷ back) → AllPairs P (front ++ back)
pairs_less P [] back x pairs = pairs_tail P x back pairs
pairs_less P (y ∷ front) back x pairs =
    pairs_cons P y (front ++ back)
    (all_by (P y) (front ++ x ∷ back) (front ++ back) (λ z there. others_there front back x z there) (pairs_head P y (front ++ x ∷ back) pairs))
    (pairs_less P front back x (pairs_tail P y (front ++ x ∷ back) pairs))

pub distinct_absent : {X : Type 0} (front back : List X) (x : X) → AllPairs ◌≢◌ (front ++ x ∷ back) → ¬ (Contains (front ++ back) x)
distinct_absent [] back x distinct = distinct_first x back distinct
distinct_absent {X} (y ∷ front) back x distinct = λ there. by (distinct_absent front back x (distinct_rest y (front ++ x ∷ back) distinct)) (contains_cases y (front ++ back) x there)
  where
    by : ¬ (Contains (front ++ back) x) → (y ≡ x) ⊎ Contains (front ++ back) x → ⊥
    by absent (inl same) =
        distinct_first y (front ++ x ∷ back) distinct
        (subst (Contains (front ++ x ∷ back)) (sym same) (Contains-append_right front (x ∷ back) x (contains_first x back)))
    by absent (inr there) = absent there

-- so does what holds of each two in either order
pub distinct_moved : {X : Type 0} (front back : List X) (x : X) → AllPairs ◌≢◌ (front ++ x ∷ back) → AllPairs ◌≢◌ (x ∷ (front ++ back))
distinct_moved front back x distinct =
    pairs_cons ◌≢◌ x (front ++ back)
    (λ k d h same. distinct_absent front back x distinct (k, h, get_or_default (front ++ back) k x d h ∙ sym same))
    (pairs_less ◌≢◌ front back x distinct)

-- ---- the same of a map

pub map_around : {X Y : Type 0} (f : X → Y) (front back : List X) (x : X) → map f (front ++ x ∷ back) ≡ map f front ++ f x ∷ map f back
map_around f front back x = map-append f front (x ∷ back)

pub map_less : {X Y : Type 0} (f : X → Y) (P : Y → Y → Type 0) (front back : List X) (x : X) → AllPairs P (map f (front ++ x ∷ back)) → AllPairs P (map f (front ++ back))
map_less f P front back x pairs =
    subst (AllPairs P) (sym (map-append f front back)) (pairs_less P (map f front) (map f back) (f x) (subst (AllPairs P) (map_around f front back x) pairs))

pub map_absent : {X Y : Type 0} (f : X → Y) (front back : List X) (x : X) → AllPairs ◌≢◌ (map f (front ++ x ∷ back)) → ¬ (Contains (map f (front ++ back)) (f x))
map_absent f front back x distinct there =
    distinct_absent (map f front) (map f back) (f x) (subst (λ ys. AllPairs ◌≢◌ ys) (map_around f front back x) distinct)
    (subst (λ ys. Contains ys (f x)) (map-append f front back) there)

pub map_moved : {X Y : Type 0} (f : X → Y) (front back : List X) (x : X) → AllPairs ◌≢◌ (map f (front ++ x ∷ back)) → AllPairs ◌≢◌ (map f (x ∷ (front ++ back)))
map_moved f front back x distinct =
    subst (λ ys. AllPairs ◌≢◌ ys) (ap (λ ys. f x ∷ ys) (sym (map-append f front back)))
    (distinct_moved (map f front) (map f back) (f x) (subst (λ ys. AllPairs ◌≢◌ ys) (map_around f front back x) distinct))
