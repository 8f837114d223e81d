-- The checks that were made are stored: each pair has places of its own.
use Rattle.std.proofs.Common.{◌≡◌, ◌≢◌, ◌⊎◌, inl, inr, ◌<◌, ◌≤◌, ◌++◌, ◌&&◌, ℕ, List, [], ◌∷◌, length, get_or, map, take, Bool, true, false, Option, Some, refl, sym, ap, subst, ◌∙◌, arith}
use Rattle.std.specs.Prelude.{if◌then◌else◌}
use Rattle.std.specs.List.{AllPairs, Contains, slice_get}
use Rattle.std.specs.Str.{bytes_eq}
use Rattle.std.proofs.lemmas.Bool.{cases_lt}
use Rattle.std.proofs.lemmas.List.{get_or-map, get_or-take, length-map, map-append, map-id}
use Rattle.std.proofs.lemmas.List.Elements.{Contains-append_left, Contains-push, Contains-push_cases}
use Rattle.std.proofs.lemmas.Option.{get_or_from_slice_get, same_Some, slice_get_within}
use Rattle.std.proofs.lemmas.Slice.Eq.{bytes_eq-Decides}
use Rattle.check_cache.specs.Facts.{FactTree}
use Rattle.check_cache.specs.Pairs.{key_of, same_pair}
use Rattle.check_cache.specs.Places.{first_at, moved, other_at}
use Rattle.check_cache.specs.declared.cache.Cache.{Cache}
use Rattle.check_cache.specs.declared.pair.PairKey.{PairKey}
use Rattle.session_build.specs.Going.{pairs_made}
use Rattle.session_build.specs.Storing.{IsStored, StoresAll, StoresOne}
use Rattle.session_build.specs.declared.going.Made.{Made}
use Rattle.session_build.proofs.Members.{contains_map, image_of}
use Rattle.target_graph.specs.Address.{document_address, target_address}
use Rattle.target_graph.specs.Workspace.{Space, name_at, pairs_of}
use Rattle.target_graph.specs.declared.target.Pair.{Pair}
use Rattle.target_graph.proofs.Distinct.{AreApart}

-- ---- the keys of pairs

pub same_key : (a : PairKey) → same_pair a a ≡ true
same_key a =
    ap (λ b. b && bytes_eq a.path a.path) ((bytes_eq-Decides a.target a.target).1 refl) ∙ (bytes_eq-Decides a.path a.path).1 refl

pub apart_key : (space : Space) (p q : Pair) → AreApart space p q → same_pair (key_of space.targets p) (key_of space.targets q) ≡ false
apart_key space p q apart = by (bytes_eq (name_at space.targets p.target) (name_at space.targets q.target)) refl (bytes_eq p.path q.path) refl
  where
    by : (a : Bool) → bytes_eq (name_at space.targets p.target) (name_at space.targets q.target) ≡ a → (b : Bool) → bytes_eq p.path q.path ≡ b → (a && b) ≡ false
    by true target true path =
        absurd (apart (ap (document_address space.root) ((bytes_eq-Decides p.path q.path).0 path))
        (ap (target_address space.root) ((bytes_eq-Decides (name_at space.targets p.target) (name_at space.targets q.target)).0 target)))
    by true target false path = refl
    by false target b path = refl

module _ (space : Space) (apart : AllPairs (AreApart space) (pairs_of space.targets)) where
  apart_before : (p q : ℕ) (a b : Pair) → slice_get (pairs_of space.targets) p ≡ Some a → slice_get (pairs_of space.targets) q ≡ Some b → p < q → AreApart space a b
  apart_before p q a b here there h =
      let pairs : List Pair = pairs_of space.targets in
      subst (λ (x : Pair). AreApart space x b) (get_or_from_slice_get pairs p a a here)
      (subst (λ (x : Pair). AreApart space (get_or pairs p a) x) (get_or_from_slice_get pairs q b a there) (apart p q a h (slice_get_within pairs q b there)))

  pub apart_at : (p q : ℕ) (a b : Pair) → slice_get (pairs_of space.targets) p ≡ Some a → slice_get (pairs_of space.targets) q ≡ Some b → ¬ (p ≡ q) → AreApart space a b
  apart_at p q a b here there other = by (cases_lt p q) (cases_lt q p)
    where
      by : (p < q) ⊎ (q ≤ p) → (q < p) ⊎ (p ≤ q) → AreApart space a b
      by (inl h) k = apart_before p q a b here there h
      by (inr h) (inl k) = λ address id. apart_before q p b a there here k (sym address) (sym id)
      by (inr h) (inr k) = absurd (other (omega arith))

  -- ---- one check is stored

  pub one_stored : (it : Made) (key : PairKey) (own : Pair) (old new : Cache) → slice_get (pairs_of space.targets) it.pair ≡ Some own → key ≡ key_of space.targets own
      → ((q : PairKey) → first_at new q ≡ (if same_pair key q then Some it.fact else first_at old q))
      → ((q : PairKey) → other_at new q ≡ (if same_pair key q then moved (first_at old q) (other_at old q) else other_at old q))
      → StoresOne space it old new
  one_stored it key own old new there key_is first other = record {
    own = λ pair here. (let test : same_pair key (key_of space.targets pair) ≡ true = same pair here in
        record {
          first = first (key_of space.targets pair) ∙ ap (λ b. if b then Some it.fact else first_at old (key_of space.targets pair)) test;
          other = other (key_of space.targets pair) ∙ ap (λ b. if b then moved (first_at old (key_of space.targets pair)) (other_at old (key_of space.targets pair)) else other_at old (key_of space.targets pair)) test;
        });
    others = λ p pair here differ. (let test : same_pair key (key_of space.targets pair) ≡ false = differs p pair here differ in
        record {
          first = first (key_of space.targets pair) ∙ ap (λ b. if b then Some it.fact else first_at old (key_of space.targets pair)) test;
          other = other (key_of space.targets pair) ∙ ap (λ b. if b then moved (first_at old (key_of space.targets pair)) (other_at old (key_of space.targets pair)) else other_at old (key_of space.targets pair)) test;
        });
  }
    where
      same : (pair : Pair) → slice_get (pairs_of space.targets) it.pair ≡ Some pair → same_pair key (key_of space.targets pair) ≡ true
      same pair here =
          let key_here : key ≡ key_of space.targets pair = key_is ∙ ap (key_of space.targets) (same_Some own pair (sym there ∙ here)) in
          ap (λ (k : PairKey). same_pair k (key_of space.targets pair)) key_here ∙ same_key (key_of space.targets pair)

      differs : (p : ℕ) (pair : Pair) → slice_get (pairs_of space.targets) p ≡ Some pair → ¬ (it.pair ≡ p) → same_pair key (key_of space.targets pair) ≡ false
      differs p pair here differ =
          ap (λ (k : PairKey). same_pair k (key_of space.targets pair)) key_is ∙ apart_key space own pair (apart_at it.pair p own pair there here differ)

-- ---- one after another

pub stored_none : (space : Space) (cache : Cache) → StoresAll space [] cache cache
stored_none space cache = record {
  own = λ it pair there here. absurd (omega (arith, there.1));
  others = λ p pair there absent. record { first = refl; other = refl };
}

made_push : (made : List Made) (it : Made) → pairs_made (made ++ it ∷ []) ≡ pairs_made made ++ it.pair ∷ []
made_push made it = map-append (λ (m : Made). m.pair) made (it ∷ [])

pub one_more_stored : (space : Space) (made : List Made) (it : Made) (old mid new : Cache) → StoresAll space made old mid → StoresOne space it mid new
    → ¬ (Contains (pairs_made made) it.pair) → StoresAll space (made ++ it ∷ []) old new
one_more_stored space made it old mid new all one absent = record {
  own = λ x pair among there. by x pair there (Contains-push_cases made it x among);
  others = λ p pair there without.
      (let before = all.others p pair there (λ among. without (subst (λ ps. Contains ps p) (sym (made_push made it)) (Contains-append_left (pairs_made made) (it.pair ∷ []) p among))) in
      let behind = one.others p pair there
      (λ same. without (subst (λ q. Contains (pairs_made (made ++ it ∷ [])) q) same (subst (λ ps. Contains ps it.pair) (sym (made_push made it)) (Contains-push (pairs_made made) it.pair)))) in
      record { first = behind.first ∙ before.first; other = behind.other ∙ before.other });
}
  where
    by : (x : Made) (pair : Pair) → slice_get (pairs_of space.targets) x.pair ≡ Some pair → Contains made x ⊎ (it ≡ x) → IsStored old new x (key_of space.targets pair)
    by x pair there (inl among) =
        let before = all.own x pair among there in
        let behind = one.others x.pair pair there (λ same. absent (subst (Contains (pairs_made made)) (sym same) (contains_map (λ (m : Made). m.pair) made x among))) in
        record { first = behind.first ∙ before.first; other = behind.other ∙ before.other }
    by x pair there (inr same) =
        let here : slice_get (pairs_of space.targets) it.pair ≡ Some pair = ap (λ (m : Made). slice_get (pairs_of space.targets) m.pair) same ∙ there in
        let before = all.others it.pair pair here absent in
        let behind = one.own pair here in
        record {
          first = behind.first ∙ ap (λ (m : Made). Some m.fact) same;
          other = behind.other ∙ (ap (λ (o : Option FactTree). moved o (other_at mid (key_of space.targets pair))) before.first ∙ ap (moved (first_at old (key_of space.targets pair))) before.other);
        }

-- the next one is of a pair of its own
pub next_new : (made yielded : List Made) (it : Made) → length yielded < length made → it ≡ get_or made (length yielded) it → map (λ y. y) yielded ≡ take (length yielded) made
    → AllPairs ◌≢◌ (pairs_made made) → ¬ (Contains (pairs_made yielded) it.pair)
next_new made yielded it h e so_far distinct among =
    let pair_of : Made → ℕ = (λ (m : Made). m.pair) in
    let n : ℕ = length yielded in
    let found = image_of pair_of yielded it.pair among in
    let k : ℕ = found.there.0 in
    let are : yielded ≡ take n made = sym (map-id yielded) ∙ so_far in
    let size : length (pairs_made made) ≡ length made = length-map made pair_of in
    let here : get_or made k found.it ≡ found.it =
    sym (get_or-take n made k found.it found.there.1) ∙ (ap (λ (ms : List Made). get_or ms k found.it) (sym are) ∙ found.there.2) in
    let first : get_or (pairs_made made) k it.pair ≡ it.pair =
    get_or-map pair_of made k found.it it.pair (omega (arith, found.there.1)) ∙ (ap pair_of here ∙ found.is) in
    let second : get_or (pairs_made made) n it.pair ≡ it.pair = get_or-map pair_of made n it it.pair h ∙ ap pair_of (sym e) in
    distinct k n it.pair found.there.1 (omega (arith, size)) (first ∙ sym second)
