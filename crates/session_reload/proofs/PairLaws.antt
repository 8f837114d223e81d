-- Pairs as keys: a key more, the keys of a target more, and lists of indices that stand for pairs.
use Rattle.std.proofs.Common.{◌≡◌, ◌<◌, ◌+◌, ◌&&◌, ◌||◌, ℕ, Bool, true, false, cond, List, [], ◌∷◌, ◌++◌, length, get_or, take, map, filter, Some, refl, ap, sym, ◌∙◌}
use Rattle.std.specs.List.{list_any, slice_get}
use Rattle.std.specs.Str.{bytes_eq}
use Rattle.std.proofs.lemmas.Bool.{and_parts}
use Rattle.std.proofs.lemmas.List.{append-nil, map_push, take_more}
use Rattle.std.proofs.lemmas.List.Elements.{filter_more}
use Rattle.std.proofs.lemmas.List.Folds.{list_any-append}
use Rattle.std.proofs.lemmas.Option.{slice_get-get_or}
use Rattle.std.proofs.lemmas.Slice.Eq.{bytes_eq-Decides}
use Rattle.indexmap.specs.IndexSet.{insert_key}
use Rattle.session_reload.specs.Keys.{has_key}
use Rattle.session_reload.specs.declared.parting.Key.{Key}

or_false : (b : Bool) → (b || false) ≡ b
or_false true = refl
or_false false = refl

or_true : (b : Bool) → (b || true) ≡ true
or_true true = refl
or_true false = refl

pub or_and : (a b c d : Bool) → ((a || (b && c)) || (b && d)) ≡ (a || (b && (c || d)))
or_and true b c d = refl
or_and false true c d = refl
or_and false false c d = refl

pub and_false : (a b : Bool) → (a || (b && false)) ≡ a
and_false true b = refl
and_false false true = refl
and_false false false = refl

-- ---- a test of one element more

pub any_more : {X : Type 0} (test : X → Bool) (xs : List X) (i : ℕ) (x : X) → i < length xs → x ≡ get_or xs i x → list_any test (take (i + 1) xs) ≡ (list_any test (take i xs) || test x)
any_more test xs i x h is =
    ap (list_any test) (take_more xs i x h)
    ∙ (list_any-append test (take i xs) (get_or xs i x ∷ [])
    ∙ (ap (λ b. list_any test (take i xs) || b) (or_false (test (get_or xs i x))) ∙ ap (λ y. list_any test (take i xs) || test y) (sym is)))

-- ---- a key more

abbrev pub same_key : Key → Key → Bool
same_key a b = bytes_eq a.target.now b.target.now && bytes_eq a.path.now b.path.now

abbrev pub is_key : List ℕ → List ℕ → Key → Bool
is_key name path key = bytes_eq name key.target.now && bytes_eq path key.path.now

there_by : (keys : List Key) (key : Key) (name path : List ℕ) (b : Bool) → is_key name path key ≡ b → has_key keys key.target.now key.path.now ≡ true → has_key keys name path ≡ (has_key keys name path || b)
there_by keys key name path true e there =
    let parts = and_parts (bytes_eq name key.target.now) (bytes_eq path key.path.now) e in
    let is : has_key keys name path ≡ true =
    ap (λ n. has_key keys n path) ((bytes_eq-Decides name key.target.now).0 parts.0)
    ∙ (ap (λ p. has_key keys key.target.now p) ((bytes_eq-Decides path key.path.now).0 parts.1) ∙ there) in
    is ∙ sym (or_true (has_key keys name path))
there_by keys key name path false e there = sym (or_false (has_key keys name path))

more_by : (keys new : List Key) (key : Key) (name path : List ℕ) (b : Bool) → list_any (same_key key) keys ≡ b → new ≡ cond b keys (keys ++ key ∷ [])
    → has_key new name path ≡ (has_key keys name path || is_key name path key)
more_by keys new key name path true e grown = ap (λ ks. has_key ks name path) grown ∙ there_by keys key name path (is_key name path key) refl e
more_by keys new key name path false e grown =
    ap (λ ks. has_key ks name path) grown
    ∙ (list_any-append (is_key name path) keys (key ∷ []) ∙ ap (λ b. has_key keys name path || b) (or_false (is_key name path key)))

pub key_more : (keys new : List Key) (key : Key) → new ≡ insert_key same_key keys key → (name path : List ℕ)
    → has_key new name path ≡ (has_key keys name path || (bytes_eq name key.target.now && bytes_eq path key.path.now))
key_more keys new key grown name path = more_by keys new key name path (list_any (same_key key) keys) refl grown

-- ---- indices of elements that pass a test

module _ {X : Type 0} (test : X → Bool) (xs : List X) (i : ℕ) (x : X) (h : i < length xs) (is : x ≡ get_or xs i x) (indices : List ℕ) where
  filtered : (b : Bool) → test x ≡ b → filter test (take (i + 1) xs) ≡ filter test (take i xs) ++ cond b (get_or xs i x ∷ []) []
  filtered b e = filter_more test xs i x h ∙ ap (λ t. filter test (take i xs) ++ cond t (get_or xs i x ∷ []) []) (ap test (sym is) ∙ e)

  pub passes : test x ≡ true → map (slice_get xs) indices ≡ map Some (filter test (take i xs)) → (more : List ℕ) → more ≡ indices ++ i ∷ []
      → map (slice_get xs) more ≡ map Some (filter test (take (i + 1) xs))
  passes e was more grown =
      ap (map (slice_get xs)) grown
      ∙ (map_push (slice_get xs) indices i
      ∙ (ap (λ os. os ++ slice_get xs i ∷ []) was
      ∙ (ap (λ o. map Some (filter test (take i xs)) ++ o ∷ []) (slice_get-get_or xs i x h)
      ∙ (sym (map_push Some (filter test (take i xs)) (get_or xs i x)) ∙ ap (map Some) (sym (filtered true e))))))

  pub fails : test x ≡ false → map (slice_get xs) indices ≡ map Some (filter test (take i xs)) → map (slice_get xs) indices ≡ map Some (filter test (take (i + 1) xs))
  fails e was = was ∙ ap (map Some) (sym (filtered false e ∙ append-nil (filter test (take i xs))))
