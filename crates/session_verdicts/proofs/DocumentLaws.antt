-- The documents of a build: those of the pairs of its closure, one pair after another.
use Rattle.std.proofs.Common.{◌≡◌, ◌⊎◌, inl, inr, ◌+◌, ◌<◌, ◌≤◌, ◌++◌, ◌∷◌, ℕ, List, [], length, map, All, Contains, Some, ap, sym, subst, ◌∙◌, refl, arith}
use Rattle.std.specs.List.{AllPairs, slice_get}
use Rattle.std.proofs.lemmas.Bool.{cases_eq}
use Rattle.std.proofs.lemmas.List.{map-append}
use Rattle.std.proofs.lemmas.List.Elements.{All-nil, All-push, Contains-push, Contains-append_left}
use Rattle.std.proofs.lemmas.List.Quantifiers.{all_pairs_push}
use Rattle.std.proofs.lemmas.Option.{same_Some, slice_get_within}
use Rattle.session_law.specs.Builds.{AreDocuments, IsPairOf, build_document}
use Rattle.session_law.specs.Methods.{Build}
use Rattle.session_law.specs.declared.BuildDocument.{BuildDocument}
use Rattle.target_graph.specs.Workspace.{Space, IsClosure, pairs_of}
use Rattle.target_graph.specs.declared.target.Pair.{Pair}

-- these are the documents of the first so many pairs
pub record AreFirst (space : Space) (closure : List ℕ) (at : ℕ) (documents : List BuildDocument) : Type 0 where
  pub pairs : List ℕ
  pub ordered : AllPairs ◌<◌ pairs
  pub below : All (λ q. q < at) pairs
  pub each : All (IsPairOf space.targets closure) pairs
  pub whole : (q : ℕ) → q < at → IsPairOf space.targets closure q → Contains pairs q
  pub are : documents ≡ map (build_document space) pairs

module _ (space : Space) (closure : List ℕ) where
  pub first_none : AreFirst space closure 0 []
  first_none = record {
    pairs = [];
    ordered = λ i j d h k. absurd (omega arith);
    below = All-nil (λ q. q < 0);
    each = All-nil (IsPairOf space.targets closure);
    whole = λ q h p. absurd (omega arith);
    are = refl;
  }

  pub one_kept : (at : ℕ) (pair : Pair) (documents : List BuildDocument) → slice_get (pairs_of space.targets) at ≡ Some pair → Contains closure pair.target
      → AreFirst space closure at documents → AreFirst space closure (at + 1) (documents ++ build_document space at ∷ [])
  one_kept at pair documents there among first = record {
    pairs = first.pairs ++ at ∷ [];
    ordered = all_pairs_push ◌<◌ first.pairs at first.ordered (λ k d h. first.below k d h);
    below = All-push (λ q. q < at + 1) first.pairs at (λ k d h. (let l = first.below k d h in omega arith)) (omega arith);
    each = All-push (IsPairOf space.targets closure) first.pairs at first.each (record { pair = pair; there = there; among = among });
    whole = λ q h p. by q h p (cases_eq q at);
    are = ap (λ (ds : List BuildDocument). ds ++ build_document space at ∷ []) first.are ∙ sym (map-append (build_document space) first.pairs (at ∷ []));
  }
    where
      by : (q : ℕ) → q < at + 1 → IsPairOf space.targets closure q → (q ≡ at) ⊎ (q ≡ at → ⊥) → Contains (first.pairs ++ at ∷ []) q
      by q h p (inl e) = subst (λ x. Contains (first.pairs ++ at ∷ []) x) (sym e) (Contains-push first.pairs at)
      by q h p (inr n) = Contains-append_left first.pairs (at ∷ []) q (first.whole q (omega arith) p)

  pub one_left : (at : ℕ) (pair : Pair) (documents : List BuildDocument) → slice_get (pairs_of space.targets) at ≡ Some pair → ¬ (Contains closure pair.target)
      → AreFirst space closure at documents → AreFirst space closure (at + 1) documents
  one_left at pair documents there apart first = record {
    pairs = first.pairs;
    ordered = first.ordered;
    below = λ k d h. (let l = first.below k d h in omega arith);
    each = first.each;
    whole = λ q h p. by q h p (cases_eq q at);
    are = first.are;
  }
    where
      by : (q : ℕ) → q < at + 1 → IsPairOf space.targets closure q → (q ≡ at) ⊎ (q ≡ at → ⊥) → Contains first.pairs q
      by q h p (inl e) =
          let at_it : slice_get (pairs_of space.targets) at ≡ Some p.pair = subst (λ n. slice_get (pairs_of space.targets) n ≡ Some p.pair) e p.there in
          let same : p.pair ≡ pair = same_Some p.pair pair (sym at_it ∙ there) in
          absurd (apart (subst (λ (x : Pair). Contains closure x.target) same p.among))
      by q h p (inr n) = first.whole q (omega arith) p

-- once they are all looked at, they are the documents of the build
pub all_first : (build : Build) (closure : List ℕ) (at : ℕ) (documents : List BuildDocument) → IsClosure build.space.targets build.asked closure
    → length (pairs_of build.space.targets) ≤ at → AreFirst build.space closure at documents → AreDocuments build documents
all_first build closure at documents closed all first = record {
  closure = closure;
  closed = closed;
  pairs = first.pairs;
  ordered = first.ordered;
  each = first.each;
  whole = λ q p. first.whole q (let l = slice_get_within (pairs_of build.space.targets) q p.pair p.there in omega arith) p;
  are = first.are;
}
