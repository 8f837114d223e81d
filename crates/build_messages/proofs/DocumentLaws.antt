-- What stands at a pair: its path, its target, its document, and the key of that; and the keys of documents are apart.
use Rattle.std.proofs.Common.{◌≡◌, ◌≢◌, ◌<◌, ◌==◌, ◌||◌, ◌∷◌, ℕ, zero, suc, List, [], length, get_or, map, Bool, true, false, All, Contains, Some, ap, sym, subst, ◌∙◌, refl, arith}
use Rattle.std.specs.List.{AllPairs, list_any, slice_get}
use Rattle.std.proofs.lemmas.Bool.{false≢true}
use Rattle.std.proofs.lemmas.Bool.Decides.{Decides-eqb}
use Rattle.indexmap.proofs.CallerLemmas.{Contains-list_any}
use Rattle.std.proofs.lemmas.List.{get_or-map, length-map}
use Rattle.std.proofs.lemmas.Option.{get_or_from_slice_get, slice_get_within}
use Rattle.session_law.specs.Builds.{IsPairOf, build_document, target_at}
use Rattle.session_law.specs.Reloading.{key_of}
use Rattle.session_law.specs.declared.BuildDocument.{BuildDocument}
use Rattle.target_graph.specs.Address.{document_address}
use Rattle.target_graph.specs.Workspace.{Space, id_of, pairs_of, path_at}
use Rattle.target_graph.specs.declared.target.Pair.{Pair}
use Rattle.target_graph.specs.declared.target.Target.{Target}
use Rattle.target_graph.proofs.Distinct.{AreApart}
use Rattle.task_stream.specs.declared.shown.TableKey.{TableKey}

pub path_here : (targets : List Target) (q : ℕ) (pair : Pair) → slice_get (pairs_of targets) q ≡ Some pair → path_at targets q ≡ pair.path
path_here targets q pair there =
    get_or-map (λ (p : Pair). p.path) (pairs_of targets) q pair [] (slice_get_within (pairs_of targets) q pair there)
    ∙ ap (λ (p : Pair). p.path) (get_or_from_slice_get (pairs_of targets) q pair pair there)

pub target_here : (targets : List Target) (q : ℕ) (pair : Pair) → slice_get (pairs_of targets) q ≡ Some pair → target_at targets q ≡ pair.target
target_here targets q pair there =
    get_or-map (λ (p : Pair). p.target) (pairs_of targets) q pair 0 (slice_get_within (pairs_of targets) q pair there)
    ∙ ap (λ (p : Pair). p.target) (get_or_from_slice_get (pairs_of targets) q pair pair there)

pub document_here : (space : Space) (q : ℕ) (pair : Pair) (path document target : List ℕ) → slice_get (pairs_of space.targets) q ≡ Some pair → path ≡ pair.path
    → document ≡ document_address space.root (path_at space.targets q) → target ≡ id_of space pair.target
    → record { pair = q; path = path; key = record { document = document; target = target } } ≡ build_document space q
document_here space q pair path document target there path_is document_is target_is =
    let own_path : path ≡ path_at space.targets q = path_is ∙ sym (path_here space.targets q pair there) in
    let own_target : target ≡ id_of space (target_at space.targets q) = target_is ∙ ap (id_of space) (sym (target_here space.targets q pair there)) in
    (λ i. record { pair = q; path = own_path i; key = record { document = document_is i; target = own_target i } })

-- ---- the keys

abbrev pub key_at : Space → ℕ → TableKey
key_at space q = (build_document space q).key

-- the key of a pair is that of its document
pub key_here : (space : Space) (p : ℕ) (pair : Pair) → slice_get (pairs_of space.targets) p ≡ Some pair → key_at space p ≡ key_of space pair
key_here space p pair there =
    (λ i. record { document = document_address space.root (path_here space.targets p pair there i); target = id_of space (target_here space.targets p pair there i) })

-- the documents at these indices have the keys of these pairs
pub keys_are : (space : Space) (indices : List ℕ) (pairs : List Pair) → map (slice_get (pairs_of space.targets)) indices ≡ map Some pairs
    → map (key_at space) indices ≡ map (key_of space) pairs
keys_are space [] [] are = refl
keys_are space [] (pair ∷ pairs) are = absurd cc
keys_are space (i ∷ indices) [] are = absurd cc
keys_are space (i ∷ indices) (pair ∷ pairs) are =
    let here : slice_get (pairs_of space.targets) i ≡ Some pair = cc in
    let rest : map (slice_get (pairs_of space.targets)) indices ≡ map Some pairs = cc in
    both (key_at space i) (key_of space pair) (key_here space i pair here) (keys_are space indices pairs rest)
  where
    both : (a b : TableKey) → a ≡ b → {xs ys : List TableKey} → xs ≡ ys → a ∷ xs ≡ b ∷ ys
    both a b first {xs} {ys} later = ap (λ k. k ∷ xs) first ∙ ap (λ ks. b ∷ ks) later

-- ---- what a test finds

pub among_by : (closure : List ℕ) (target : ℕ) → list_any (λ n. n == target) closure ≡ true → Contains closure target
among_by closure target is = Contains-list_any (λ a b. b == a) (λ a b same. sym ((Decides-eqb b a).0 same)) closure target is

pub or_true : (b : Bool) → (b || true) ≡ true
or_true true = refl
or_true false = refl

pub any_at : (closure : List ℕ) (target k : ℕ) → k < length closure → get_or closure k target ≡ target → list_any (λ n. n == target) closure ≡ true
any_at [] target k h e = absurd (omega arith)
any_at (n ∷ closure) target zero h e = ap (λ b. b || list_any (λ m. m == target) closure) ((Decides-eqb n target).1 e)
any_at (n ∷ closure) target (suc k) h e = ap (λ b. (n == target) || b) (any_at closure target k (omega arith) e) ∙ or_true (n == target)

pub apart_by : (closure : List ℕ) (target : ℕ) → list_any (λ n. n == target) closure ≡ false → ¬ (Contains closure target)
apart_by closure target is among = false≢true (sym is ∙ any_at closure target among.0 among.1 among.2)

-- ---- keys are apart

map_distinct : {X Y : Type 0} (f : X → Y) (xs : List X) → AllPairs (λ x y. f x ≢ f y) xs → AllPairs ◌≢◌ (map f xs)
map_distinct f [] apart i j d h k = absurd (omega arith)
map_distinct f (x ∷ xs) apart i j d h k =
    let size : length (map f (x ∷ xs)) ≡ length (x ∷ xs) = length-map (x ∷ xs) f in
    let k' : j < length (x ∷ xs) = omega (arith, size) in
    let h' : i < length (x ∷ xs) = omega arith in
    λ same. apart i j x h k' (sym (get_or-map f (x ∷ xs) i x d h') ∙ (same ∙ get_or-map f (x ∷ xs) j x d k'))

module _ (space : Space) (closure : List ℕ) (apart : AllPairs (AreApart space) (pairs_of space.targets)) where
  pub keys_apart : (p q : ℕ) → p < q → IsPairOf space.targets closure p → IsPairOf space.targets closure q → key_at space p ≢ key_at space q
  keys_apart p q less a b same =
      let pairs : List Pair = pairs_of space.targets in
      let first : get_or pairs p a.pair ≡ a.pair = get_or_from_slice_get pairs p a.pair a.pair a.there in
      let second : get_or pairs q a.pair ≡ b.pair = get_or_from_slice_get pairs q b.pair a.pair b.there in
      let are_apart : AreApart space a.pair b.pair =
      subst (λ (x : Pair). AreApart space x b.pair) first
      (subst (λ (x : Pair). AreApart space (get_or pairs p a.pair) x) second
      (apart p q a.pair less (slice_get_within pairs q b.pair b.there))) in
      are_apart
      (ap (document_address space.root) (sym (path_here space.targets p a.pair a.there))
      ∙ (ap (λ (k : TableKey). k.document) same ∙ ap (document_address space.root) (path_here space.targets q b.pair b.there)))
      (ap (id_of space) (sym (target_here space.targets p a.pair a.there))
      ∙ (ap (λ (k : TableKey). k.target) same ∙ ap (id_of space) (target_here space.targets q b.pair b.there)))

  pub distinct_documents : (pairs : List ℕ) → AllPairs ◌<◌ pairs → All (IsPairOf space.targets closure) pairs
      → AllPairs ◌≢◌ (map (λ (it : BuildDocument). it.key) (map (build_document space) pairs))
  distinct_documents pairs ordered each =
      subst (λ (xs : List TableKey). AllPairs ◌≢◌ xs) (fused pairs)
      (map_distinct (key_at space) pairs
      (λ i j d h k. keys_apart (get_or pairs i d) (get_or pairs j d) (ordered i j d h k) (each i d (omega arith)) (each j d k)))
    where
      fused : (qs : List ℕ) → map (key_at space) qs ≡ map (λ (it : BuildDocument). it.key) (map (build_document space) qs)
      fused [] = refl
      fused (q ∷ qs) = ap (λ xs. key_at space q ∷ xs) (fused qs)
