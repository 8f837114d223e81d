-- Targets are cleaned, and another workspace takes the place of the one in force: which documents are gone, and which pairs stay.
use Rattle.std.proofs.Common.{◌≡◌, ◌+◌, ◌++◌, ◌&&◌, ◌||◌, ℕ, suc, List, [], ◌∷◌, Bool, true, false, filter, map, not, Some, refl, sym, ap, subst, ◌∙◌, arith}
use Rattle.std.specs.Prelude.{codes}
use Rattle.std.specs.List.{AllPairs, Contains, list_any, slice_get}
use Rattle.std.specs.Str.{bytes_eq}
use Rattle.std.proofs.lemmas.Bool.{false≢true}
use Rattle.std.proofs.lemmas.List.{append_cancel_left}
use Rattle.std.proofs.lemmas.List.Elements.{Contains-append_left, Contains-append_right}
use Rattle.std.proofs.lemmas.Option.{get_or_from_slice_get, same_Some, slice_get_within}
use Rattle.std.proofs.lemmas.Slice.Eq.{bytes_eq-Decides}
use Rattle.check_cache.specs.Pairs.{key_of, same_pair}
use Rattle.check_cache.specs.declared.pair.PairKey.{PairKey}
use Rattle.reload_rules.specs.Dropped.{dropped, has_pair, stays}
use Rattle.reload_rules.specs.Dropped as rules
use Rattle.session_law.proofs.ListLaws.{contains_at, contains_first, contains_later, contains_map, contains_map_back, place_of}
use Rattle.session_law.specs.Reloading.{keys_of_targets}
use Rattle.session_law.specs.Reloading as reloading
use Rattle.session_build.specs.Cleaning.{AreOthers, HasCleaned, HasReloaded, KeepsOnly, has_key, is_key_at, is_key_in, is_of}
use Rattle.session_build.specs.Remembering.{HasDocument, table_key}
use Rattle.session_build.specs.declared.kept.Kept.{Kept}
use Rattle.build_messages.proofs.DocumentLaws.{key_at}
use Rattle.session_build.proofs.DocumentLaws.{one_index, table_key_here}
use Rattle.session_build.proofs.FilterLaws.{IsKeyAmong, filtered, filters, key_finds, key_found}
use Rattle.session_build.proofs.ReloadLaws.{HasPair, Parts, remembers_still}
use Rattle.target_graph.specs.Address.{target_address}
use Rattle.target_graph.specs.Workspace.{Space, name_at, pairs_at, pairs_from, pairs_of}
use Rattle.target_graph.specs.declared.target.Pair.{Pair}
use Rattle.target_graph.specs.declared.target.Target.{Target}
use Rattle.target_graph.proofs.Distinct.{AreApart}
use Rattle.target_graph.proofs.Ids.{name_here}
use Rattle.task_stream.specs.declared.shown.TableKey.{TableKey}

-- ---- keys

same_name : (root a b : List ℕ) → target_address root a ≡ target_address root b → a ≡ b
unfolding target_address
same_name root a b same = append_cancel_left (root ++ codes "?id=") a b same

parts_same : (a b : PairKey) → a.target ≡ b.target → a.path ≡ b.path → a ≡ b
parts_same a b target path = (λ i. record { target = target i; path = path i })

-- one key of a client's table is that of one pair
one_key : (root : List ℕ) (a b : PairKey) → table_key root a ≡ table_key root b → a ≡ b
one_key root a b same =
    parts_same a b (same_name root a.target b.target (ap (λ (k : TableKey). k.target) same)) (append_cancel_left root a.path b.path (ap (λ (k : TableKey). k.document) same))

false_not : (b : Bool) → b ≡ false → not b ≡ true
false_not false is = refl
false_not true is = absurd (false≢true (sym is))

true_not : (b : Bool) → b ≡ true → not b ≡ true → ⊥
true_not true is other = false≢true other
true_not false is other = false≢true is

both_left : (a b : Bool) → (a && b) ≡ true → a ≡ true
both_left true b is = refl
both_left false b is = absurd (false≢true is)

both_right : (a b : Bool) → (a && b) ≡ true → b ≡ true
both_right true b is = is
both_right false b is = absurd (false≢true is)

-- ---- which checks are kept, by indices and by pairs

some_keys : (targets : List Target) (key : PairKey) (pairs : List Pair) → list_any (has_key targets key) (map Some pairs) ≡ is_key_in targets pairs key
some_keys targets key [] = refl
some_keys targets key (pair ∷ pairs) = ap (λ b. same_pair key (key_of targets pair) || b) (some_keys targets key pairs)

keys_in : (targets : List Target) (indices : List ℕ) (pairs : List Pair) → map (slice_get (pairs_of targets)) indices ≡ map Some pairs → is_key_at targets indices ≡ is_key_in targets pairs
keys_in targets indices pairs are = λ i key. (ap (list_any (has_key targets key)) are ∙ some_keys targets key pairs) i

pub keeps_in : (targets : List Target) (indices : List ℕ) (pairs : List Pair) → map (slice_get (pairs_of targets)) indices ≡ map Some pairs → (old new : Kept)
    → KeepsOnly (is_key_at targets indices) old new → KeepsOnly (is_key_in targets pairs) old new
keeps_in targets indices pairs are old new keeps = subst (λ (among : PairKey → Bool). KeepsOnly among old new) (keys_in targets indices pairs are) keeps

-- ---- targets are cleaned

module _ (space : Space) (apart : AllPairs (AreApart space) (pairs_of space.targets)) (targets indices : List ℕ) (others : AreOthers (pairs_of space.targets) targets indices) where
  abbrev pairs : List Pair
  pairs = pairs_of space.targets

  abbrev left : List Pair
  left = filter (λ (pair : Pair). not (is_of targets pair)) (pairs_of space.targets)

  clean_stays : (key : PairKey) → is_key_at space.targets indices key ≡ true → ¬ (Contains (keys_of_targets space targets) (table_key space.root key))
  clean_stays key is there =
      let found : IsKeyAmong space.targets left key = key_found space.targets indices left others key is in
      let own = filtered (λ (pair : Pair). not (is_of targets pair)) pairs found.pair found.there in
      let from = contains_map_back (reloading.key_of space) (filter (is_of targets) pairs) (table_key space.root key) there in
      let gone = filtered (is_of targets) pairs from.0 from.1 in
      let own_at : slice_get pairs own.0.0 ≡ Some found.pair = place_of pairs found.pair own.0 in
      let gone_at : slice_get pairs gone.0.0 ≡ Some from.0 = place_of pairs from.0 gone.0 in
      let same : key_at space gone.0.0 ≡ key_at space own.0.0 =
      table_key_here space gone.0.0 from.0 gone_at ∙ (from.2 ∙ (ap (table_key space.root) found.is ∙ sym (table_key_here space own.0.0 found.pair own_at))) in
      let index : gone.0.0 ≡ own.0.0 = one_index space apart gone.0.0 own.0.0 from.0 found.pair gone_at own_at same in
      let pair : from.0 ≡ found.pair = same_Some from.0 found.pair (sym gone_at ∙ (ap (slice_get pairs) index ∙ own_at)) in
      true_not (is_of targets found.pair) (ap (is_of targets) (sym pair) ∙ gone.1) own.1

  clean_lost : (p : ℕ) (pair : Pair) → slice_get (pairs_of space.targets) p ≡ Some pair → is_key_at space.targets indices (key_of space.targets pair) ≡ false
      → Contains (keys_of_targets space targets) (key_at space p)
  clean_lost p pair there absent = by (is_of targets pair) refl
    where
      listed : Contains (pairs_of space.targets) pair
      listed = contains_at pairs p pair there

      by : (b : Bool) → is_of targets pair ≡ b → Contains (keys_of_targets space targets) (key_at space p)
      by true is =
          subst (Contains (keys_of_targets space targets)) (sym (table_key_here space p pair there))
          (contains_map (reloading.key_of space) (filter (is_of targets) pairs) pair (filters (is_of targets) pairs pair listed is))
      by false is =
          absurd (false≢true (sym absent
          ∙ key_finds space.targets indices left others pair (filters (λ (x : Pair). not (is_of targets x)) pairs pair listed (false_not (is_of targets pair) is))))

  clean_parts : Parts space space (keys_of_targets space targets) (is_key_at space.targets indices)
  clean_parts = record {
    root = refl;
    stays = clean_stays;
    within = λ key has absent. has;
    same = λ p pair there is. record { index = p; pair = pair; there = there; is = refl };
    lost = λ p pair there absent has. clean_lost p pair there absent;
  }

  pub cleaned : (old new : Kept) → KeepsOnly (is_key_at space.targets indices) old new → HasCleaned space targets old new
  cleaned old new only builds remembers = remembers_still space space (keys_of_targets space targets) (is_key_at space.targets indices) clean_parts old new only builds remembers

-- ---- a pair that some target lists

module_pair : (n : ℕ) (modules : List (List ℕ)) (path : List ℕ) → list_any (bytes_eq path) modules ≡ true → Contains (pairs_at n modules) (record { target = n; path = path })
module_pair n [] path found = absurd (false≢true found)
module_pair n (one ∷ modules) path found = by (bytes_eq path one) refl (module_pair n modules path)
  where
    by : (b : Bool) → bytes_eq path one ≡ b → (list_any (bytes_eq path) modules ≡ true → Contains (pairs_at n modules) (record { target = n; path = path }))
        → Contains (pairs_at n (one ∷ modules)) (record { target = n; path = path })
    by true is later =
        subst (λ x. Contains (pairs_at n (one ∷ modules)) (record { target = n; path = x })) (sym ((bytes_eq-Decides path one).0 is))
        (contains_first (record { target = n; path = one }) (pairs_at n modules))
    by false is later =
        contains_later (record { target = n; path = one }) (pairs_at n modules) (record { target = n; path = path })
        (later (ap (λ b. b || list_any (bytes_eq path) modules) (sym is) ∙ found))

-- some target, behind so many others, has the name and lists the path, where the first target has this index
record IsListed (n : ℕ) (targets : List Target) (name path : List ℕ) : Type 0 where
  before : ℕ
  target : Target
  at : slice_get targets before ≡ Some target
  named : target.name ≡ name
  index : ℕ
  index_is : index ≡ n + before
  there : Contains (pairs_from n targets) (record { target = index; path = path })

listed_in : (n : ℕ) (targets : List Target) (name path : List ℕ) → has_pair targets name path ≡ true → IsListed n targets name path
listed_in n [] name path found = absurd (false≢true found)
listed_in n (target ∷ targets) name path found = by (bytes_eq name target.name && list_any (bytes_eq path) target.modules) refl (listed_in (suc n) targets name path)
  where
    by : (b : Bool) → (bytes_eq name target.name && list_any (bytes_eq path) target.modules) ≡ b → (has_pair targets name path ≡ true → IsListed (suc n) targets name path)
        → IsListed n (target ∷ targets) name path
    by true is later =
        let named = both_left (bytes_eq name target.name) (list_any (bytes_eq path) target.modules) is in
        let lists = both_right (bytes_eq name target.name) (list_any (bytes_eq path) target.modules) is in
        record {
          before = 0;
          target = target;
          at = refl;
          named = sym ((bytes_eq-Decides name target.name).0 named);
          index = n;
          index_is = omega arith;
          there = Contains-append_left (pairs_at n target.modules) (pairs_from (suc n) targets) (record { target = n; path = path }) (module_pair n target.modules path lists);
        }
    by false is later =
        let rest = later (ap (λ b. b || has_pair targets name path) (sym is) ∙ found) in
        record {
          before = suc rest.before;
          target = rest.target;
          at = rest.at;
          named = rest.named;
          index = rest.index;
          index_is = omega (arith, rest.index_is);
          there = Contains-append_right (pairs_at n target.modules) (pairs_from (suc n) targets) (record { target = rest.index; path = path }) rest.there;
        }

all_pairs : (targets : List Target) (pair : Pair) → Contains (pairs_from 0 targets) pair → Contains (pairs_of targets) pair
unfolding pairs_of
all_pairs targets pair there = there

-- a workspace that lists the path in a target of the name has a pair with that key
has_listed : (space : Space) (key : PairKey) → has_pair space.targets key.target key.path ≡ true → HasPair space key
has_listed space key found =
    let is = listed_in 0 space.targets key.target key.path found in
    let pair : Pair = record { target = is.index; path = key.path } in
    let there : Contains (pairs_of space.targets) pair = all_pairs space.targets pair is.there in
    let same : is.index ≡ is.before = omega (arith, is.index_is) in
    let within = slice_get_within space.targets is.before is.target is.at in
    let named : is.target.name ≡ name_at space.targets is.before =
    name_here space.targets is.before is.target within (sym (get_or_from_slice_get space.targets is.before is.target is.target is.at)) in
    record {
      index = there.0;
      pair = pair;
      there = place_of (pairs_of space.targets) pair there;
      is = parts_same (key_of space.targets pair) key (ap (name_at space.targets) same ∙ (sym named ∙ is.named)) refl;
    }

-- ---- another workspace

module _ (before now : Space) (root : before.root ≡ now.root) (indices : List ℕ)
    (kept : map (slice_get (pairs_of before.targets)) indices ≡ map Some (rules.kept before.targets now.targets)) where
  abbrev all : List Pair
  all = pairs_of before.targets

  abbrev old_kept : List Pair
  old_kept = rules.kept before.targets now.targets

  abbrev old_dropped : List Pair
  old_dropped = dropped before.targets now.targets

  abbrev gone : List TableKey
  gone = map (reloading.key_of before) (dropped before.targets now.targets)

  -- a pair stays by its key alone
  abbrev stays_by : PairKey → Bool
  stays_by key = has_pair now.targets key.target key.path

  reload_stays : (key : PairKey) → is_key_at before.targets indices key ≡ true → ¬ (Contains (map (reloading.key_of before) (dropped before.targets now.targets)) (table_key before.root key))
  reload_stays key is there =
      let found : IsKeyAmong before.targets old_kept key = key_found before.targets indices old_kept kept key is in
      let own = filtered (stays before.targets now.targets) all found.pair found.there in
      let from = contains_map_back (reloading.key_of before) old_dropped (table_key before.root key) there in
      let lost = filtered (λ (pair : Pair). not (stays before.targets now.targets pair)) all from.0 from.1 in
      let same : key_of before.targets from.0 ≡ key_of before.targets found.pair = one_key before.root (key_of before.targets from.0) key from.2 ∙ found.is in
      true_not (stays before.targets now.targets from.0) (ap stays_by same ∙ own.1) lost.1

  -- a document that isn't gone is in the new workspace
  reload_within : (key : TableKey) → HasDocument before key → ¬ (Contains (map (reloading.key_of before) (dropped before.targets now.targets)) key) → HasDocument now key
  reload_within key has absent = by (stays before.targets now.targets has.pair) refl
    where
      own : table_key before.root (key_of before.targets has.pair) ≡ key
      own = sym (table_key_here before has.index has.pair has.there) ∙ has.is

      by : (b : Bool) → stays before.targets now.targets has.pair ≡ b → HasDocument now key
      by true is =
          let new : HasPair now (key_of before.targets has.pair) = has_listed now (key_of before.targets has.pair) is in
          record {
            index = new.index;
            pair = new.pair;
            there = new.there;
            is = table_key_here now new.index new.pair new.there ∙ (ap (table_key now.root) new.is ∙ (ap (λ r. table_key r (key_of before.targets has.pair)) (sym root) ∙ own));
          }
      by false is =
          let listed = filters (λ (pair : Pair). not (stays before.targets now.targets pair)) all has.pair (contains_at all has.index has.pair has.there)
          (false_not (stays before.targets now.targets has.pair) is) in
          absurd (absent (subst (Contains gone) own (contains_map (reloading.key_of before) old_dropped has.pair listed)))

  reload_same : (p : ℕ) (pair : Pair) → slice_get (pairs_of now.targets) p ≡ Some pair → is_key_at before.targets indices (key_of now.targets pair) ≡ true
      → HasPair before (key_of now.targets pair)
  reload_same p pair there is =
      let found : IsKeyAmong before.targets old_kept (key_of now.targets pair) = key_found before.targets indices old_kept kept (key_of now.targets pair) is in
      let own = filtered (stays before.targets now.targets) all found.pair found.there in
      record { index = own.0.0; pair = found.pair; there = place_of all found.pair own.0; is = sym found.is }

  reload_lost : (p : ℕ) (pair : Pair) → slice_get (pairs_of now.targets) p ≡ Some pair → is_key_at before.targets indices (key_of now.targets pair) ≡ false
      → HasDocument before (key_at now p) → Contains (map (reloading.key_of before) (dropped before.targets now.targets)) (key_at now p)
  reload_lost p pair there absent has = by (stays before.targets now.targets has.pair) refl
    where
      own : table_key before.root (key_of before.targets has.pair) ≡ key_at now p
      own = sym (table_key_here before has.index has.pair has.there) ∙ has.is

      listed : Contains (pairs_of before.targets) has.pair
      listed = contains_at all has.index has.pair has.there

      by : (b : Bool) → stays before.targets now.targets has.pair ≡ b → Contains (map (reloading.key_of before) (dropped before.targets now.targets)) (key_at now p)
      by true is =
          let keys_same : key_of before.targets has.pair ≡ key_of now.targets pair =
          one_key before.root (key_of before.targets has.pair) (key_of now.targets pair)
          (own ∙ (table_key_here now p pair there ∙ ap (λ r. table_key r (key_of now.targets pair)) (sym root))) in
          let finds : is_key_at before.targets indices (key_of before.targets has.pair) ≡ true =
          key_finds before.targets indices old_kept kept has.pair (filters (stays before.targets now.targets) all has.pair listed is) in
          absurd (false≢true (sym absent ∙ (ap (is_key_at before.targets indices) (sym keys_same) ∙ finds)))
      by false is =
          subst (Contains gone) own
          (contains_map (reloading.key_of before) old_dropped has.pair
          (filters (λ (x : Pair). not (stays before.targets now.targets x)) all has.pair listed (false_not (stays before.targets now.targets has.pair) is)))

  reload_parts : Parts before now (map (reloading.key_of before) (dropped before.targets now.targets)) (is_key_at before.targets indices)
  reload_parts = record {
    root = root;
    stays = reload_stays;
    within = reload_within;
    same = reload_same;
    lost = reload_lost;
  }

  pub reloaded : (old new : Kept) → KeepsOnly (is_key_at before.targets indices) old new → HasReloaded before now old new
  reloaded old new only builds remembers = remembers_still before now gone (is_key_at before.targets indices) reload_parts old new only builds remembers
