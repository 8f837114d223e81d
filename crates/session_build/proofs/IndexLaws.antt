-- Indices of elements that pass a test, and the keys of pairs by their indices, one after another.
use Rattle.std.proofs.Common.{◌≡◌, ◌<◌, ◌+◌, ◌||◌, ℕ, Bool, true, false, cond, List, [], ◌∷◌, ◌++◌, length, get_or, take, map, filter, Option, Some, refl, ap, sym, ◌∙◌}
use Rattle.std.specs.List.{list_any, slice_get}
use Rattle.std.proofs.lemmas.List.{append-nil, map_push, take_more}
use Rattle.std.proofs.lemmas.List.Elements.{filter_more}
use Rattle.std.proofs.lemmas.List.Folds.{list_any-append}
use Rattle.std.proofs.lemmas.Option.{slice_get-get_or}
use Rattle.check_cache.specs.Pairs.{is_among, same_pair}
use Rattle.check_cache.specs.declared.pair.PairKey.{PairKey}
use Rattle.check_cache.proofs.FilterLaws.{one_pair}
use Rattle.indexmap.specs.IndexSet.{insert_key}
use Rattle.session_law.specs.Reloading as reloading
use Rattle.session_build.specs.Cleaning.{AddsKey, has_key, is_key_at}
use Rattle.build_messages.proofs.DocumentLaws.{key_at, or_true}
use Rattle.session_build.proofs.DocumentLaws.{table_key_here}
use Rattle.target_graph.specs.Workspace.{Space, pairs_of}
use Rattle.target_graph.specs.declared.target.Pair.{Pair}
use Rattle.target_graph.specs.declared.target.Target.{Target}
use Rattle.task_stream.specs.declared.shown.TableKey.{TableKey}

or_false : (b : Bool) → (b || false) ≡ b
or_false true = refl
or_false false = refl

-- ---- indices of elements that pass a test

module _ {X : Type 0} (test : X → Bool) (xs : List X) (i : ℕ) (x : X) (h : i < length xs) (is : x ≡ get_or xs i x) (indices : List ℕ) where
  one_more : (b : Bool) → test x ≡ b → filter test (take (i + 1) xs) ≡ filter test (take i xs) ++ cond b (get_or xs i x ∷ []) []
  one_more b e = filter_more test xs i x h ∙ ap (λ t. filter test (take i xs) ++ cond t (get_or xs i x ∷ []) []) (ap test (sym is) ∙ e)

  pub passes : test x ≡ true → map (slice_get xs) indices ≡ map Some (filter test (take i xs)) → (more : List ℕ) → more ≡ indices ++ i ∷ []
      → map (slice_get xs) more ≡ map Some (filter test (take (i + 1) xs))
  passes e was more grown =
      ap (map (slice_get xs)) grown
      ∙ (map_push (slice_get xs) indices i
      ∙ (ap (λ os. os ++ slice_get xs i ∷ []) was
      ∙ (ap (λ o. map Some (filter test (take i xs)) ++ o ∷ []) (slice_get-get_or xs i x h)
      ∙ (sym (map_push Some (filter test (take i xs)) (get_or xs i x)) ∙ ap (map Some) (sym (one_more true e))))))

  pub fails : test x ≡ false → map (slice_get xs) indices ≡ map Some (filter test (take i xs)) → map (slice_get xs) indices ≡ map Some (filter test (take (i + 1) xs))
  fails e was = was ∙ ap (map Some) (sym (one_more false e ∙ append-nil (filter test (take i xs))))

-- ---- keys, one after another

there_by : (keys : List PairKey) (key q : PairKey) (b : Bool) → same_pair q key ≡ b → is_among keys key ≡ true → is_among keys q ≡ (is_among keys q || b)
there_by keys key q true e there = (ap (is_among keys) (one_pair q key e) ∙ there) ∙ sym (or_true (is_among keys q))
there_by keys key q false e there = sym (or_false (is_among keys q))

key_by : (keys new : List PairKey) (key q : PairKey) (b : Bool) → list_any (same_pair key) keys ≡ b → new ≡ cond b keys (keys ++ key ∷ [])
    → is_among new q ≡ (is_among keys q || same_pair q key)
key_by keys new key q true e grown = ap (λ ks. is_among ks q) grown ∙ there_by keys key q (same_pair q key) refl e
key_by keys new key q false e grown =
    ap (λ ks. is_among ks q) grown ∙ (list_any-append (same_pair q) keys (key ∷ []) ∙ ap (λ b. is_among keys q || b) (or_false (same_pair q key)))

-- a key was inserted
pub key_added : (keys new : List PairKey) (key : PairKey) → new ≡ insert_key same_pair keys key → (q : PairKey) → is_among new q ≡ (is_among keys q || same_pair q key)
key_added keys new key grown q = key_by keys new key q (list_any (same_pair key) keys) refl grown

-- none was
pub none_added : (targets : List Target) (pair : Option Pair) (keys : List PairKey) → ((q : PairKey) → has_key targets q pair ≡ false) → AddsKey targets pair keys keys
none_added targets pair keys none q = sym (ap (λ b. is_among keys q || b) (none q) ∙ or_false (is_among keys q))

-- at one index more
pub keys_more : (targets : List Target) (indices : List ℕ) (i : ℕ) (old new : List PairKey) → i < length indices
    → ((q : PairKey) → is_among old q ≡ is_key_at targets (take i indices) q) → AddsKey targets (slice_get (pairs_of targets) (get_or indices i 0)) old new
    → (q : PairKey) → is_among new q ≡ is_key_at targets (take (i + 1) indices) q
keys_more targets indices i old new h was adds q =
    let at : ℕ → Option Pair = slice_get (pairs_of targets) in
    let index : ℕ = get_or indices i 0 in
    let more : map at (take (i + 1) indices) ≡ map at (take i indices) ++ at index ∷ [] =
    ap (map at) (take_more indices i 0 h) ∙ map_push at (take i indices) index in
    adds q
    ∙ (ap (λ b. b || has_key targets q (at index)) (was q)
    ∙ sym (ap (list_any (has_key targets q)) more
    ∙ (list_any-append (has_key targets q) (map at (take i indices)) (at index ∷ []) ∙ ap (λ b. is_key_at targets (take i indices) q || b) (or_false (has_key targets q (at index))))))
