-- Names in a list: whether one is there, whether they differ, and the first that is out of place.
use Rattle.std.proofs.Common.{◌≡◌, ◌≢◌, ℕ, zero, suc, ◌+◌, ◌<◌, List, [], ◌∷◌, ◌++◌, Bool, true, false, ◌||◌, length, get_or, take, drop, map, All, Contains, ap, sym, subst, ◌∙◌, refl, arith}
use Rattle.std.specs.List.{list_any, AllPairs, flat_map}
use Rattle.std.specs.Str.{bytes_eq}
use Rattle.std.proofs.lemmas.Bool.{false≢true}
use Rattle.std.proofs.lemmas.List.{take-append-drop, drop_more, map-append, get_or_append_left, get_or_at, get_or_default, length-append, append_assoc}
use Rattle.std.proofs.lemmas.List.Concat.{flat_map-append}
use Rattle.std.proofs.lemmas.List.Elements.{All-contains, Contains-append_right, All-append, Contains-get_or}
use Rattle.std.proofs.lemmas.List.Quantifiers.{all_pairs_push}
use Rattle.std.proofs.lemmas.Slice.Eq.{bytes_eq-Decides}
use Rattle.indexmap.proofs.CallerLemmas.{Contains-list_any}
use Rattle.target_graph.specs.Faults.{IsFirstRepeat, IsFirstUnknown}

pub any_listed : (xs : List (List ℕ)) (x : List ℕ) → list_any (bytes_eq x) xs ≡ true → Contains xs x
any_listed xs x h = Contains-list_any bytes_eq (λ a b. (bytes_eq-Decides a b).0) xs x h

or_true : (b : Bool) → (b || true) ≡ true
or_true true = refl
or_true false = refl

listed_any_at : (xs : List (List ℕ)) (x : List ℕ) (k : ℕ) → k < length xs → get_or xs k x ≡ x → list_any (bytes_eq x) xs ≡ true
listed_any_at [] x k h e = absurd (omega arith)
listed_any_at (y ∷ ys) x zero h e = ap (λ b. b || list_any (bytes_eq x) ys) ((bytes_eq-Decides x y).1 (sym e))
listed_any_at (y ∷ ys) x (suc k) h e = ap (λ b. bytes_eq x y || b) (listed_any_at ys x k (omega arith) e) ∙ or_true (bytes_eq x y)

pub listed_any : (xs : List (List ℕ)) (x : List ℕ) → Contains xs x → list_any (bytes_eq x) xs ≡ true
listed_any xs x c = listed_any_at xs x c.0 c.1 c.2

pub none_listed : (xs : List (List ℕ)) (x : List ℕ) → list_any (bytes_eq x) xs ≡ false → ¬ (Contains xs x)
none_listed xs x n c = false≢true (sym n ∙ listed_any xs x c)

-- ---- a list, cut at one of its elements

pub cut_at : {X : Type 0} (xs : List X) (i : ℕ) (x : X) → i < length xs → x ≡ get_or xs i x → xs ≡ take i xs ++ x ∷ drop (i + 1) xs
cut_at xs i x h e =
    sym (take-append-drop i xs) ∙ ap (λ ys. take i xs ++ ys) (drop_more xs i x h ∙ ap (λ y. y ∷ drop (i + 1) xs) (sym e))

-- ---- the first name that an earlier one equals

pub distinct_more : (xs : List (List ℕ)) (x : List ℕ) → AllPairs ◌≢◌ xs → ¬ (Contains xs x) → AllPairs ◌≢◌ (xs ++ x ∷ [])
distinct_more xs x d n = all_pairs_push ◌≢◌ xs x d (λ k e h same. n (k, h, get_or_default xs k x e h ∙ same))

pub no_repeat : (xs : List (List ℕ)) (x : List ℕ) → AllPairs ◌≢◌ xs → ¬ (IsFirstRepeat xs x)
no_repeat xs x d f =
    let k = f.seen.0 in
    let h : k < length f.before = f.seen.1 in
    let one : get_or xs k x ≡ x = ap (λ ys. get_or ys k x) f.whole ∙ (get_or_append_left f.before (x ∷ f.after) x k h ∙ f.seen.2) in
    let two : get_or xs (length f.before) x ≡ x = ap (λ ys. get_or ys (length f.before) x) f.whole ∙ get_or_at f.before x f.after x (length f.before) refl in
    let size : length xs ≡ length f.before + length (x ∷ f.after) = ap length f.whole ∙ length-append f.before (x ∷ f.after) in
    d k (length f.before) x h (omega (arith, size)) (one ∙ sym two)

pub repeat_at : {X : Type 0} (name : X → List ℕ) (xs : List X) (i : ℕ) (x : X) → i < length xs → x ≡ get_or xs i x
    → AllPairs ◌≢◌ (map name (take i xs)) → Contains (map name (take i xs)) (name x) → IsFirstRepeat (map name xs) (name x)
repeat_at name xs i x h e d seen = record {
  before = map name (take i xs);
  after = map name (drop (i + 1) xs);
  whole = ap (map name) (cut_at xs i x h e) ∙ map-append name (take i xs) (x ∷ drop (i + 1) xs);
  seen = seen;
  fresh = d;
}

-- ---- the first name that isn't known

pub no_unknown : (names xs : List (List ℕ)) (x : List ℕ) → All (Contains names) xs → ¬ (IsFirstUnknown names xs x)
no_unknown names xs x known f =
    f.unknown (All-contains (Contains names) xs x known (subst (λ ys. Contains ys x) (sym f.whole) (Contains-append_right f.before (x ∷ f.after) x (Contains-get_or (x ∷ f.after) 0 x (omega arith)))))

pub unknown_at : (names xs : List (List ℕ)) (i : ℕ) (x : List ℕ) → i < length xs → x ≡ get_or xs i x
    → All (Contains names) (take i xs) → ¬ (Contains names x) → IsFirstUnknown names xs x
unknown_at names xs i x h e known n = record {
  before = take i xs;
  after = drop (i + 1) xs;
  whole = cut_at xs i x h e;
  unknown = n;
  known = known;
}

pub unknown_within : {X : Type 0} (list : X → List (List ℕ)) (names : List (List ℕ)) (xs : List X) (i : ℕ) (x : X) (name : List ℕ) → i < length xs → x ≡ get_or xs i x
    → All (Contains names) (flat_map list (take i xs)) → IsFirstUnknown names (list x) name → IsFirstUnknown names (flat_map list xs) name
unknown_within list names xs i x name h e known f = record {
  before = flat_map list (take i xs) ++ f.before;
  after = f.after ++ flat_map list (drop (i + 1) xs);
  whole =
      ap (flat_map list) (cut_at xs i x h e)
      ∙ (flat_map-append list (take i xs) (x ∷ drop (i + 1) xs)
      ∙ (ap (λ ys. flat_map list (take i xs) ++ (ys ++ flat_map list (drop (i + 1) xs))) f.whole
      ∙ simp append_assoc));
  unknown = f.unknown;
  known = All-append (Contains names) (flat_map list (take i xs)) f.before known f.known;
}
