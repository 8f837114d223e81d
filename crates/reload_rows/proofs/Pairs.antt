-- A document of a workspace is one of another workspace with the same root, or that one drops it.
use Rattle.std.proofs.Common.{◌≡◌, ◌⊎◌, inl, inr, ◌+◌, ◌&&◌, ◌||◌, ℕ, suc, List, [], ◌∷◌, ◌++◌, codes, Bool, true, false, cond, filter, not, Contains, refl, sym, ap, subst, ◌∙◌, arith}
use Rattle.std.specs.List.{list_any}
use Rattle.std.specs.Str.{bytes_eq}
use Rattle.std.proofs.lemmas.Bool.{false≢true}
use Rattle.std.proofs.lemmas.Cmp.{nat_list_eq_equiv}
use Rattle.std.proofs.lemmas.List.{append_cancel_left}
use Rattle.std.proofs.lemmas.List.Elements.{All-contains, Contains-append_cases, Contains-append_left, Contains-append_right, filter_passes}
use Rattle.std.proofs.lemmas.Map.Views.{list_any-from_Contains}
use Rattle.std.proofs.lemmas.Slice.Eq.{bytes_eq-Decides}
use Rattle.ob_text.specs.declared.held.Held.{Held}
use Rattle.reload_rows.specs.Own.{HasKey}
use Rattle.reload_rules.specs.Dropped.{dropped, has_pair, stays}
use Rattle.session_law.proofs.ListLaws.{contains_cases, contains_first, contains_later, contains_map, contains_map_back, contains_none}
use Rattle.session_law.specs.Reloading.{key_of, keys_dropped, space_in}
use Rattle.target_graph.specs.Address.{document_address, target_address}
use Rattle.target_graph.specs.Faults.{file_targets}
use Rattle.target_graph.specs.Workspace.{Space, name_at, pairs_at, pairs_from, pairs_of}
use Rattle.target_graph.specs.declared.target.Pair.{Pair}
use Rattle.target_graph.specs.declared.target.Target.{Target}
use Rattle.task_stream.specs.declared.shown.TableKey.{TableKey}

-- ---- what a filter keeps

filters : (test : Pair → Bool) (pairs : List Pair) (pair : Pair) → Contains pairs pair → test pair ≡ true → Contains (filter test pairs) pair
filters test [] pair there passes = absurd (contains_none pair there)
filters test (first ∷ pairs) pair there passes = by (contains_cases first pairs pair there) (test first) refl (λ later. filters test pairs pair later passes)
  where
    by : (first ≡ pair) ⊎ Contains pairs pair → (b : Bool) → test first ≡ b → (Contains pairs pair → Contains (filter test pairs) pair)
        → Contains (filter test (first ∷ pairs)) pair
    by (inl same) true is rest =
        subst (λ b. Contains (cond b (first ∷ filter test pairs) (filter test pairs)) pair) (sym is)
        (subst (λ x. Contains (first ∷ filter test pairs) x) same (contains_first first (filter test pairs)))
    by (inl same) false is rest = absurd (false≢true (sym is ∙ (ap test same ∙ passes)))
    by (inr later) true is rest =
        subst (λ b. Contains (cond b (first ∷ filter test pairs) (filter test pairs)) pair) (sym is) (contains_later first (filter test pairs) pair (rest later))
    by (inr later) false is rest = subst (λ b. Contains (cond b (first ∷ filter test pairs) (filter test pairs)) pair) (sym is) (rest later)

-- ---- a pair that some target lists

both_left : (a b : Bool) → (a && b) ≡ true → a ≡ true
both_left true b is = refl
both_left false b is = absurd (false≢true is)

both_right : (a b : Bool) → (a && b) ≡ true → b ≡ true
both_right true b is = is
both_right false b is = absurd (false≢true is)

module_pair : (n : ℕ) (modules : List (List ℕ)) (path : List ℕ) → list_any (bytes_eq path) modules ≡ true → Contains (pairs_at n modules) (record { target = n; path = path })
module_pair n [] path found = absurd (false≢true found)
module_pair n (one ∷ modules) path found = by (bytes_eq path one) refl (module_pair n modules path)
  where
    by : (b : Bool) → bytes_eq path one ≡ b → (list_any (bytes_eq path) modules ≡ true → Contains (pairs_at n modules) (record { target = n; path = path }))
        → Contains (pairs_at n (one ∷ modules)) (record { target = n; path = path })
    by true is later =
        subst (λ x. Contains (pairs_at n (one ∷ modules)) (record { target = n; path = x })) (sym ((bytes_eq-Decides path one).0 is))
        (contains_first (record { target = n; path = one }) (pairs_at n modules))
    by false is later =
        contains_later (record { target = n; path = one }) (pairs_at n modules) (record { target = n; path = path })
        (later (ap (λ b. b || list_any (bytes_eq path) modules) (sym is) ∙ found))

-- one of these targets, the first of which has this index, has the name and lists the path
record IsListed (n : ℕ) (targets : List Target) (name path : List ℕ) : Type 0 where
  place : ℕ
  named : name_at targets place ≡ name
  index : ℕ
  index_is : index ≡ n + place
  there : Contains (pairs_from n targets) (record { target = index; path = path })

listed_in : (n : ℕ) (targets : List Target) (name path : List ℕ) → has_pair targets name path ≡ true → IsListed n targets name path
listed_in n [] name path found = absurd (false≢true found)
listed_in n (target ∷ targets) name path found = by (bytes_eq name target.name && list_any (bytes_eq path) target.modules) refl (listed_in (suc n) targets name path)
  where
    by : (b : Bool) → (bytes_eq name target.name && list_any (bytes_eq path) target.modules) ≡ b → (has_pair targets name path ≡ true → IsListed (suc n) targets name path)
        → IsListed n (target ∷ targets) name path
    by true is later =
        let named = both_left (bytes_eq name target.name) (list_any (bytes_eq path) target.modules) is in
        let lists = both_right (bytes_eq name target.name) (list_any (bytes_eq path) target.modules) is in
        record {
          place = 0;
          named = sym ((bytes_eq-Decides name target.name).0 named);
          index = n;
          index_is = omega arith;
          there = Contains-append_left (pairs_at n target.modules) (pairs_from (suc n) targets) (record { target = n; path = path }) (module_pair n target.modules path lists);
        }
    by false is later =
        let rest = later (ap (λ b. b || has_pair targets name path) (sym is) ∙ found) in
        record {
          place = suc rest.place;
          named = rest.named;
          index = rest.index;
          index_is = omega (arith, rest.index_is);
          there = Contains-append_right (pairs_at n target.modules) (pairs_from (suc n) targets) (record { target = rest.index; path = path }) rest.there;
        }

all_pairs : (targets : List Target) (pair : Pair) → Contains (pairs_from 0 targets) pair → Contains (pairs_of targets) pair
unfolding pairs_of
all_pairs targets pair there = there

-- ---- another workspace of the same root

-- the pair that stays has its key there
stays_listed : (space : Space) (file : Held) (pair : Pair) → stays space.targets (file_targets file) pair ≡ true → HasKey (space_in space.root file) (key_of space pair)
stays_listed space file pair is =
    let found = listed_in 0 (file_targets file) (name_at space.targets pair.target) pair.path is in
    let place : found.index ≡ found.place = omega (arith, found.index_is) in
    let named : name_at (file_targets file) found.index ≡ name_at space.targets pair.target = ap (name_at (file_targets file)) place ∙ found.named in
    record {
      pair = record { target = found.index; path = pair.path };
      listed = all_pairs (file_targets file) (record { target = found.index; path = pair.path }) found.there;
      is = (λ i. record { document = document_address space.root pair.path; target = target_address space.root (named i) });
    }

pub stays_or_goes : (space : Space) (file : Held) (key : TableKey) → HasKey space key → HasKey (space_in space.root file) key ⊎ Contains (keys_dropped space file) key
stays_or_goes space file key has = by (stays space.targets (file_targets file) has.pair) refl
  where
    by : (b : Bool) → stays space.targets (file_targets file) has.pair ≡ b → HasKey (space_in space.root file) key ⊎ Contains (keys_dropped space file) key
    by true is = inl (subst (HasKey (space_in space.root file)) has.is (stays_listed space file has.pair is))
    by false is =
        inr (subst (Contains (keys_dropped space file)) has.is
        (contains_map (key_of space) (dropped space.targets (file_targets file)) has.pair
        (filters (λ (pair : Pair). not (stays space.targets (file_targets file) pair)) (pairs_of space.targets) has.pair has.listed (ap not is))))

-- ---- what is dropped isn't there

same_name : (root a b : List ℕ) → target_address root a ≡ target_address root b → a ≡ b
unfolding target_address
same_name root a b same = append_cancel_left (root ++ codes "?id=") a b same

or_right : (a b : Bool) → b ≡ true → (a || b) ≡ true
or_right true b is = refl
or_right false b is = is

or_left : (a b : Bool) → a ≡ true → (a || b) ≡ true
or_left true b is = refl
or_left false b is = absurd (false≢true is)

and_both : (a b : Bool) → a ≡ true → b ≡ true → (a && b) ≡ true
and_both true b first second = second
and_both false b first second = absurd (false≢true first)

not_true : (b : Bool) → not b ≡ true → b ≡ true → ⊥
not_true true other is = false≢true other
not_true false other is = false≢true is

-- these targets, the first of which has this index, list the pair
record IsOne (n : ℕ) (targets : List Target) (pair : Pair) : Type 0 where
  place : ℕ
  index_is : pair.target ≡ n + place
  has : has_pair targets (name_at targets place) pair.path ≡ true

one_of : (n : ℕ) (targets : List Target) (pair : Pair) → Contains (pairs_from n targets) pair → IsOne n targets pair
one_of n [] pair there = absurd (contains_none pair there)
one_of n (target ∷ targets) pair there = by (Contains-append_cases (pairs_at n target.modules) (pairs_from (suc n) targets) pair there) (one_of (suc n) targets pair)
  where
    by : Contains (pairs_at n target.modules) pair ⊎ Contains (pairs_from (suc n) targets) pair → (Contains (pairs_from (suc n) targets) pair → IsOne (suc n) targets pair)
        → IsOne n (target ∷ targets) pair
    by (inl own) later =
        let from = contains_map_back (λ (path : List ℕ). let p : Pair = record { target = n; path = path } in p) target.modules pair own in
        let path : from.0 ≡ pair.path = ap (λ (p : Pair). p.path) from.2 in
        let lists : list_any (bytes_eq pair.path) target.modules ≡ true =
        list_any-from_Contains nat_list_eq_equiv pair.path target.modules (subst (Contains target.modules) path from.1) in
        record {
          place = 0;
          index_is = sym (ap (λ (p : Pair). p.target) from.2) ∙ omega arith;
          has = or_left (bytes_eq target.name target.name && list_any (bytes_eq pair.path) target.modules) (has_pair targets target.name pair.path)
              (and_both (bytes_eq target.name target.name) (list_any (bytes_eq pair.path) target.modules) ((bytes_eq-Decides target.name target.name).1 refl) lists);
        }
    by (inr rest) later =
        let found = later rest in
        let name = name_at targets found.place in
        record {
          place = suc found.place;
          index_is = omega (arith, found.index_is);
          has = or_right (bytes_eq name target.name && list_any (bytes_eq pair.path) target.modules) (has_pair targets name pair.path) found.has;
        }

from_pairs : (targets : List Target) (pair : Pair) → Contains (pairs_of targets) pair → Contains (pairs_from 0 targets) pair
unfolding pairs_of
from_pairs targets pair there = there

pub dropped_is_gone : (space : Space) (file : Held) (key : TableKey) → Contains (keys_dropped space file) key → HasKey (space_in space.root file) key → ⊥
dropped_is_gone space file key gone has =
    let targets = file_targets file in
    let from = contains_map_back (key_of space) (dropped space.targets targets) key gone in
    let lost : not (stays space.targets targets from.0) ≡ true =
    All-contains (λ (pair : Pair). not (stays space.targets targets pair) ≡ true) (dropped space.targets targets) from.0
    (filter_passes (λ (pair : Pair). not (stays space.targets targets pair)) (pairs_of space.targets)) from.1 in
    let same : key_of (space_in space.root file) has.pair ≡ key_of space from.0 = has.is ∙ sym from.2 in
    let path : has.pair.path ≡ from.0.path = append_cancel_left space.root has.pair.path from.0.path (ap (λ (k : TableKey). k.document) same) in
    let name : name_at targets has.pair.target ≡ name_at space.targets from.0.target =
    same_name space.root (name_at targets has.pair.target) (name_at space.targets from.0.target) (ap (λ (k : TableKey). k.target) same) in
    let one = one_of 0 targets has.pair (from_pairs targets has.pair has.listed) in
    let place : one.place ≡ has.pair.target = omega (arith, one.index_is) in
    not_true (stays space.targets targets from.0) lost
    (subst (λ p. has_pair targets (name_at space.targets from.0.target) p ≡ true) path
    (subst (λ n. has_pair targets n has.pair.path ≡ true) (ap (name_at targets) place ∙ name) one.has))
