-- Ids of targets, and addresses of documents.
use Rattle.std.proofs.Common.{◌≡◌, ◌≢◌, ◌⊎◌, inl, inr, ℕ, zero, suc, ◌+◌, ◌<◌, Bool, true, false, not, cond, ◌||◌, List, [], ◌∷◌, ◌++◌, length, get_or, map, codes, Option, Some, None, IfSome, IfNone, Bor, Contains, ap, sym, subst, ◌∙◌, refl, arith}
use Rattle.std.specs.Option.{option_copied}
use Rattle.std.specs.List.{list_any, prefix_len, AllPairs}
use Rattle.std.specs.Str.{bytes_eq}
use Rattle.std.proofs.lemmas.Bool.{false≢true}
use Rattle.std.proofs.lemmas.List.{append_assoc, append_cancel_left, get_or-map, length-map, get_or_default}
use Rattle.std.proofs.lemmas.List.Elements.{Contains-get_or, Contains-append_right}
use Rattle.std.proofs.lemmas.Slice.Eq.{bytes_eq-Decides}
use Rattle.target_graph.specs.declared.target.Pair.{Pair}
use Rattle.target_graph.specs.declared.target.Target.{Target}
use Rattle.target_graph.specs.Address.{target_address, printed, IsSpelling}
use Rattle.target_graph.specs.Faults.{index_of}
use Rattle.target_graph.specs.Listers.{is_this, is_one, IsLister, AreListers}
use Rattle.target_graph.specs.Workspace.{Space, pairs_of, name_at, path_at, id_of, Lists, IsInverse}
use Rattle.target_graph.proofs.Listed.{listed_any}
use Rattle.target_graph.proofs.SeenStems.{same_index}
use Rattle.target_graph.proofs.Sound.{index_within}

pub id_joined : (space : Space) (t : ℕ) (root name : List ℕ) → root ≡ space.root → name ≡ name_at space.targets t → (root ++ codes "?id=") ++ name ≡ id_of space t
unfolding target_address
id_joined space t root name a b = ap (λ r. (r ++ codes "?id=") ++ name) a ∙ ap (λ n. (space.root ++ codes "?id=") ++ n) b

pub name_here : (targets : List Target) (t : ℕ) (target : Target) → t < length targets → target ≡ get_or targets t target → target.name ≡ name_at targets t
name_here targets t target h e = ap (λ (x : Target). x.name) e ∙ sym (get_or-map (λ (x : Target). x.name) targets t target [] h)

pub path_here : (targets : List Target) (q : ℕ) (pair : Pair) → q < length (pairs_of targets) → pair ≡ get_or (pairs_of targets) q pair → pair.path ≡ path_at targets q
path_here targets q pair h e = ap (λ (x : Pair). x.path) e ∙ sym (get_or-map (λ (x : Pair). x.path) (pairs_of targets) q pair [] h)

-- the id, cut behind the root
id_cut : (space : Space) (t : ℕ) → id_of space t ≡ space.root ++ (codes "?id=" ++ name_at space.targets t)
unfolding target_address
id_cut space t = append_assoc space.root (codes "?id=") (name_at space.targets t)

one_more : (n : ℕ) → 1 + n ≡ suc n
one_more n = omega arith

index_named : (names : List (List ℕ)) (x : List ℕ) → list_any (bytes_eq x) names ≡ true → get_or names (index_of names x) [] ≡ x
index_named [] x e = absurd (false≢true e)
index_named (y ∷ ys) x e = go (bytes_eq x y) refl e (index_named ys x)
  where
    go : (b : Bool) → bytes_eq x y ≡ b → (b || list_any (bytes_eq x) ys) ≡ true → (list_any (bytes_eq x) ys ≡ true → get_or ys (index_of ys x) [] ≡ x)
        → get_or (y ∷ ys) (cond (not b) (1 + prefix_len (λ z. not (bytes_eq x z)) ys) 0) [] ≡ x
    go true is h rest = sym ((bytes_eq-Decides x y).0 is)
    go false is h rest = ap (λ n. get_or (y ∷ ys) n []) (one_more (prefix_len (λ z. not (bytes_eq x z)) ys)) ∙ rest h

module _ (space : Space) (keys : List (List ℕ)) (same : keys ≡ map (λ (t : Target). t.name) space.targets) where
  size : length keys ≡ length space.targets
  size = ap (λ (xs : List (List ℕ)). length xs) same ∙ length-map space.targets (λ (t : Target). t.name)

  at_key : (t : ℕ) → get_or keys t [] ≡ name_at space.targets t
  at_key t = ap (λ (xs : List (List ℕ)). get_or xs t []) same

  pub found_target : (text root rest name : List ℕ) → root ≡ space.root → text ≡ root ++ rest → rest ≡ codes "?id=" ++ name → (o : Option ℕ)
      → IfSome o (λ index. (index ≡ index_of keys name) × Contains keys name) → IfNone o (¬ (Contains keys name))
      → IfSome o (λ t. (t < length space.targets) × (id_of space t ≡ text)) × IfNone o ((t : ℕ) → t < length space.targets → id_of space t ≢ text)
  found_target text root rest name r a b (Some t) s n =
      let any = listed_any keys name s.1 in
      let named : get_or keys t [] ≡ name = ap (λ k. get_or keys k []) s.0 ∙ index_named keys name any in
      let h : t < length keys = subst (λ k. k < length keys) (sym s.0) (index_within keys name any) in (
        (
          subst (λ k. t < k) size h,
          id_cut space t ∙ (ap (λ (x : List ℕ). space.root ++ (codes "?id=" ++ x)) (sym (at_key t) ∙ named)
              ∙ sym (a ∙ (ap (λ (x : List ℕ). x ++ rest) r ∙ ap (λ (x : List ℕ). space.root ++ x) b))),
        ),
        tt,
      )
  found_target text root rest name r a b None s n = (
    tt,
    λ t h e.
        let cut : space.root ++ (codes "?id=" ++ name_at space.targets t) ≡ space.root ++ (codes "?id=" ++ name) =
        sym (id_cut space t) ∙ (e ∙ (a ∙ (ap (λ (x : List ℕ). x ++ rest) r ∙ ap (λ (x : List ℕ). space.root ++ x) b))) in
        let one = append_cancel_left (codes "?id=") (name_at space.targets t) name (append_cancel_left space.root _ _ cut) in
        let k : t < length keys = subst (λ n. t < n) (sym size) h in
        n (t, k, get_or_default keys t name [] k ∙ (at_key t ∙ one)),
  )

  pub no_root : (text root : List ℕ) → root ≡ space.root → ((rest : List ℕ) → text ≢ root ++ rest) → (t : ℕ) → t < length space.targets → id_of space t ≢ text
  no_root text root r none t h e =
      none (codes "?id=" ++ name_at space.targets t) (sym e ∙ (id_cut space t ∙ ap (λ (x : List ℕ). x ++ (codes "?id=" ++ name_at space.targets t)) (sym r)))

  pub no_mark : (text root rest : List ℕ) → root ≡ space.root → text ≡ root ++ rest → ((name : List ℕ) → rest ≢ codes "?id=" ++ name) → (t : ℕ) → t < length space.targets → id_of space t ≢ text
  no_mark text root rest r a none t h e =
      none (name_at space.targets t)
      (append_cancel_left space.root rest (codes "?id=" ++ name_at space.targets t) (sym (ap (λ (x : List ℕ). x ++ rest) r) ∙ (sym a ∙ (sym e ∙ id_cut space t))))

  pub same_target : AllPairs ◌≢◌ keys → (s t : ℕ) → s < length space.targets → t < length space.targets → id_of space s ≡ id_of space t → s ≡ t
  same_target d s t h k e =
      let cut = sym (id_cut space s) ∙ (e ∙ id_cut space t) in
      let one = append_cancel_left (codes "?id=") (name_at space.targets s) (name_at space.targets t) (append_cancel_left space.root _ _ cut) in
      same_index keys s t d (subst (λ n. s < n) (sym size) h) (subst (λ n. t < n) (sym size) k) (at_key s ∙ (one ∙ sym (at_key t)))

  -- the answer is the one target with this id
  pub only_one : AllPairs ◌≢◌ keys → (text : List ℕ) (o : Option ℕ) → IfSome o (λ t. (t < length space.targets) × (id_of space t ≡ text))
      → IfNone o ((t : ℕ) → t < length space.targets → id_of space t ≢ text) → (t : ℕ) → t < length space.targets → id_of space t ≡ text → o ≡ Some t
  only_one d text None s n t h e = absurd (n t h e)
  only_one d text (Some u) s n t h e = ap Some (same_target d u t s.0 h (s.1 ∙ sym e))

-- ---- documents

this_path : (o : Option (Bor (List ℕ))) (text root : List ℕ) → IfSome o (λ rest. text ≡ root ++ rest.now) → (path : List ℕ) → is_this (option_copied o) path ≡ true → root ++ path ≡ text
this_path None text root s path e = absurd (false≢true e)
this_path (Some rest) text root s path e = ap (λ (x : List ℕ). root ++ x) ((bytes_eq-Decides path rest.now).0 e) ∙ sym s

path_this : (o : Option (Bor (List ℕ))) (text root : List ℕ) → IfSome o (λ rest. text ≡ root ++ rest.now) → IfNone o ((rest : List ℕ) → text ≢ root ++ rest) → (path : List ℕ)
    → root ++ path ≡ text → is_this (option_copied o) path ≡ true
path_this None text root s n path e = absurd (n path (sym e))
path_this (Some rest) text root s n path e = (bytes_eq-Decides path rest.now).1 (append_cancel_left root path rest.now (e ∙ s))

or_cases : (a b : Bool) → (a || b) ≡ true → (a ≡ true) ⊎ (b ≡ true)
or_cases true b e = inl refl
or_cases false b e = inr e

or_right : (a : Bool) → (a || true) ≡ true
or_right true = refl
or_right false = refl

any_item : {X : Type 0} (test : X → Bool) (xs : List X) → list_any test xs ≡ true → (x : X) × Contains xs x × (test x ≡ true)
any_item test [] e = absurd (false≢true e)
any_item test (x ∷ xs) e = go (or_cases (test x) (list_any test xs) e) (any_item test xs)
  where
    go : (test x ≡ true) ⊎ (list_any test xs ≡ true) → (list_any test xs ≡ true → (y : _) × Contains xs y × (test y ≡ true)) → (y : _) × Contains (x ∷ xs) y × (test y ≡ true)
    go (inl h) rest = (x, Contains-get_or (x ∷ xs) 0 x (omega arith), h)
    go (inr h) rest = (let r = rest h in (r.0, Contains-append_right (x ∷ []) xs r.0 r.1, r.2))

item_any : {X : Type 0} (test : X → Bool) (xs : List X) (x : X) (k : ℕ) → k < length xs → get_or xs k x ≡ x → test x ≡ true → list_any test xs ≡ true
item_any test [] x k h e t = absurd (omega arith)
item_any test (y ∷ ys) x zero h e t = ap (λ b. b || list_any test ys) (ap test e ∙ t)
item_any test (y ∷ ys) x (suc k) h e t = ap (λ b. test y || b) (item_any test ys x k (omega arith) e t) ∙ or_right (test y)

-- what was printed of the address, cut behind the root
pub record IsCut (uri root : List ℕ) (other : Option (List ℕ)) : Type 0 where
  pub spelled : (path : List ℕ) → is_this other path ≡ true → printed uri ≡ Some (root ++ path)
  pub whole : (path : List ℕ) → printed uri ≡ Some (root ++ path) → is_this other path ≡ true

pub cut_printed : (uri root text : List ℕ) (o : Option (Bor (List ℕ))) → printed uri ≡ Some text → IfSome o (λ rest. text ≡ root ++ rest.now) → IfNone o ((rest : List ℕ) → text ≢ root ++ rest)
    → IsCut uri root (option_copied o)
cut_printed uri root text o p s n = record {
  spelled = λ path e. p ∙ ap Some (sym (this_path o text root s path e));
  whole = λ path e. (let q = sym e ∙ p in path_this o text root s n path (cc));
}

pub cut_none : (uri root : List ℕ) → printed uri ≡ None → IsCut uri root None
cut_none uri root p = record {
  spelled = λ path e. absurd (false≢true e);
  whole = λ path e. (let q = sym e ∙ p in absurd (cc));
}

pub inverse_of : (space : Space) (uri root : List ℕ) (own : Option (Bor (List ℕ))) (other : Option (List ℕ)) (indices : List ℕ) → root ≡ space.root
    → IfSome own (λ rest. uri ≡ root ++ rest.now) → IfNone own ((rest : List ℕ) → uri ≢ root ++ rest) → IsCut uri root other
    → AreListers space.targets (option_copied own) other indices → IsInverse space uri indices
inverse_of space uri root own other indices r s n cut l = record {
  ordered = l.ordered;
  each = λ k d h. lists (get_or indices k d) (l.each k d h);
  whole = λ t x. l.whole t (listed t x);
}
  where
    lists : (t : ℕ) → IsLister space.targets (option_copied own) other t → Lists space uri t
    lists t x =
        let item = any_item (is_one (option_copied own) other) x.target.modules x.lists in
        record {
          target = x.target;
          there = x.there;
          path = item.0;
          listed = item.1;
          spelled = subst (λ (k : List ℕ). IsSpelling uri (k ++ item.0)) r (by item.0 (or_cases (is_this (option_copied own) item.0) (is_this other item.0) item.2));
        }
      where
        by : (path : List ℕ) → (is_this (option_copied own) path ≡ true) ⊎ (is_this other path ≡ true) → IsSpelling uri (root ++ path)
        by path (inl e) = inl (this_path own uri root s path e)
        by path (inr e) = inr (cut.spelled path e)

    one : (path : List ℕ) → IsSpelling uri (root ++ path) → is_one (option_copied own) other path ≡ true
    one path (inl e) = ap (λ b. b || is_this other path) (path_this own uri root s n path e)
    one path (inr e) = ap (λ b. is_this (option_copied own) path || b) (cut.whole path e) ∙ or_right (is_this (option_copied own) path)

    listed : (t : ℕ) → Lists space uri t → IsLister space.targets (option_copied own) other t
    listed t x = record {
      target = x.target;
      there = x.there;
      lists = item_any (is_one (option_copied own) other) x.target.modules x.path x.listed.0 x.listed.1 x.listed.2
          (one x.path (subst (λ (k : List ℕ). IsSpelling uri (k ++ x.path)) (sym r) x.spelled));
    }
