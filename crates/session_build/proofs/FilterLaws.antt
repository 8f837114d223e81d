-- What a filter keeps, and which pairs have a key.
use Rattle.std.proofs.Common.{◌≡◌, ◌⊎◌, inl, inr, ◌||◌, ℕ, List, [], ◌∷◌, Bool, true, false, cond, filter, map, Option, Some, refl, sym, ap, subst, ◌∙◌}
use Rattle.std.specs.List.{Contains, list_any, slice_get}
use Rattle.std.proofs.lemmas.Bool.{false≢true}
use Rattle.std.proofs.lemmas.List.Elements.{All-contains, All-filter, Contains-get_or, filter_passes}
use Rattle.check_cache.specs.Pairs.{key_of, same_pair}
use Rattle.check_cache.specs.declared.pair.PairKey.{PairKey}
use Rattle.check_cache.proofs.FilterLaws.{one_pair}
use Rattle.session_law.proofs.ListLaws.{contains_cases, contains_first, contains_later, contains_none}
use Rattle.session_build.specs.Cleaning.{has_key, is_key_at}
use Rattle.build_messages.proofs.DocumentLaws.{or_true}
use Rattle.session_build.proofs.StoringLaws.{same_key}
use Rattle.target_graph.specs.Workspace.{pairs_of}
use Rattle.target_graph.specs.declared.target.Pair.{Pair}
use Rattle.target_graph.specs.declared.target.Target.{Target}

-- ---- what a filter keeps

pub filtered : {X : Type 0} (test : X → Bool) (xs : List X) (x : X) → Contains (filter test xs) x → Contains xs x × (test x ≡ true)
filtered test xs x there = (
  All-contains (Contains xs) (filter test xs) x (All-filter test (Contains xs) xs (λ k d h. Contains-get_or xs k d h)) there,
  All-contains (λ y. test y ≡ true) (filter test xs) x (filter_passes test xs) there,
)

pub filters : {X : Type 0} (test : X → Bool) (xs : List X) (x : X) → Contains xs x → test x ≡ true → Contains (filter test xs) x
filters test [] x there is = absurd (contains_none x there)
filters {X} test (y ∷ xs) x there is = by (contains_cases y xs x there) (test y) refl (λ later. filters test xs x later is)
  where
    by : (y ≡ x) ⊎ Contains xs x → (b : Bool) → test y ≡ b → (Contains xs x → Contains (filter test xs) x) → Contains (filter test (y ∷ xs)) x
    by (inl same) true is_so rest =
        subst (λ b. Contains (cond b (y ∷ filter test xs) (filter test xs)) x) (sym is_so) (subst (λ z. Contains (y ∷ filter test xs) z) same (contains_first y (filter test xs)))
    by (inl same) false is_not rest = absurd (false≢true (sym is_not ∙ (ap test same ∙ is)))
    by (inr later) true is_so rest = subst (λ b. Contains (cond b (y ∷ filter test xs) (filter test xs)) x) (sym is_so) (contains_later y (filter test xs) x (rest later))
    by (inr later) false is_not rest = subst (λ b. Contains (cond b (y ∷ filter test xs) (filter test xs)) x) (sym is_not) (rest later)

-- ---- which pairs have a key

-- one of these pairs has the key
pub record IsKeyAmong (targets : List Target) (pairs : List Pair) (key : PairKey) : Type 0 where
  pub pair : Pair
  pub there : Contains pairs pair
  pub is : key ≡ key_of targets pair

module _ (targets : List Target) where
  any_key : (pairs : List Pair) (key : PairKey) → list_any (has_key targets key) (map Some pairs) ≡ true → IsKeyAmong targets pairs key
  any_key [] key found = absurd (false≢true found)
  any_key (pair ∷ pairs) key found = by (same_pair key (key_of targets pair)) refl (any_key pairs key)
    where
      by : (b : Bool) → same_pair key (key_of targets pair) ≡ b → (list_any (has_key targets key) (map Some pairs) ≡ true → IsKeyAmong targets pairs key)
          → IsKeyAmong targets (pair ∷ pairs) key
      by true is later = record { pair = pair; there = contains_first pair pairs; is = one_pair key (key_of targets pair) is }
      by false is later =
          let rest = later (ap (λ b. b || list_any (has_key targets key) (map Some pairs)) (sym is) ∙ found) in
          record { pair = rest.pair; there = contains_later pair pairs rest.pair rest.there; is = rest.is }

  key_any : (pairs : List Pair) (pair : Pair) → Contains pairs pair → list_any (has_key targets (key_of targets pair)) (map Some pairs) ≡ true
  key_any [] pair there = absurd (contains_none pair there)
  key_any (one ∷ pairs) pair there = by (contains_cases one pairs pair there) (key_any pairs pair)
    where
      rest : Bool
      rest = list_any (has_key targets (key_of targets pair)) (map Some pairs)

      by : (one ≡ pair) ⊎ Contains pairs pair → (Contains pairs pair → rest ≡ true) → (same_pair (key_of targets pair) (key_of targets one) || rest) ≡ true
      by (inl same) later =
          ap (λ (x : Pair). same_pair (key_of targets pair) (key_of targets x) || rest) same ∙ ap (λ b. b || rest) (same_key (key_of targets pair))
      by (inr behind) later = ap (λ b. same_pair (key_of targets pair) (key_of targets one) || b) (later behind) ∙ or_true (same_pair (key_of targets pair) (key_of targets one))

  module _ (indices : List ℕ) (pairs : List Pair) (are : map (slice_get (pairs_of targets)) indices ≡ map Some pairs) where
    -- a key at these indices is that of one of the pairs
    pub key_found : (key : PairKey) → is_key_at targets indices key ≡ true → IsKeyAmong targets pairs key
    key_found key found = any_key pairs key (ap (λ (os : List (Option Pair)). list_any (has_key targets key) os) (sym are) ∙ found)

    -- and that of each is there
    pub key_finds : (pair : Pair) → Contains pairs pair → is_key_at targets indices (key_of targets pair) ≡ true
    key_finds pair there = ap (λ (os : List (Option Pair)). list_any (has_key targets (key_of targets pair)) os) are ∙ key_any pairs pair there
