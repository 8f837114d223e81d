-- A list that is read item by item: what has been read stands in front of the rest that is left.
use Rattle.std.specs.Prelude.{ℕ, ◌≡◌, ◌++◌, List, [], ◌∷◌, Option, Some, None, map, refl}
use Rattle.std.proofs.Common.{ap, sym, ◌∙◌, subst}
use Rattle.std.specs.Prelude.{Result, Err, MatchResult, IsErrAnd}
use Rattle.std.proofs.lemmas.Result.{err_from_is_err_and}
use Rattle.iface_key.specs.declared.fault.Fault.{Fault}
use Rattle.iface_key.specs.Read.{BeginsWithNone}
use Rattle.iface_key.proofs.OneWay.{OneWay}

-- items in front of a rest, with no end
abbrev pub so_far : {A : Type 0} → (Option A → List ℕ → List ℕ) → List A → List ℕ → List ℕ
so_far next_then [] rest = rest
so_far next_then (x ∷ xs) rest = next_then (Some x) (so_far next_then xs rest)

-- a list is its items, each as it is read, and then the end
pub record Listing {A : Type 0} (next_then : Option A → List ℕ → List ℕ) (all_then : List A → List ℕ → List ℕ) : Type 0 where
  pub ended : (r : List ℕ) → all_then [] r ≡ next_then None r
  pub more : (x : A) (xs : List A) (r : List ℕ) → all_then (x ∷ xs) r ≡ next_then (Some x) (all_then xs r)
  pub one : OneWay next_then

pub so_far_more : {A : Type 0} (next_then : Option A → List ℕ → List ℕ) (xs : List A) (x : A) (r : List ℕ) → so_far next_then (xs ++ x ∷ []) r ≡ so_far next_then xs (next_then (Some x) r)
so_far_more next_then [] x r = refl
so_far_more next_then (y ∷ ys) x r = ap (next_then (Some y)) (so_far_more next_then ys x r)

module _ {A : Type 0} (next_then : Option A → List ℕ → List ℕ) (all_then : List A → List ℕ → List ℕ) (listing : Listing next_then all_then) where
  pub so_far_end : (xs : List A) (r : List ℕ) → so_far next_then xs (next_then None r) ≡ all_then xs r
  so_far_end [] r = sym (listing.ended r)
  so_far_end (x ∷ xs) r = ap (next_then (Some x)) (so_far_end xs r) ∙ sym (listing.more x xs r)

  -- whatever list the text begins with goes on with the rest
  pub rest_of : (xs ys : List A) (r s : List ℕ) → so_far next_then xs r ≡ all_then ys s → (zs : List A) × (ys ≡ xs ++ zs) × (r ≡ all_then zs s)
  rest_of [] ys r s e = (ys, refl, e)
  rest_of (x ∷ xs) [] r s e =
      let h = listing.one (Some x) None _ _ (e ∙ listing.ended s) in
      let no = h.0 in absurd cc
  rest_of (x ∷ xs) (y ∷ ys) r s e =
      let h = listing.one (Some x) (Some y) _ _ (e ∙ listing.more y ys s) in
      let k = rest_of xs ys r s h.1 in
      let first = h.0 in
      let others = k.1 in
      let all : y ∷ ys ≡ x ∷ (xs ++ k.0) = cc in
      (k.0, all, k.2)

  module _ (IsNext : Option A → Type 0) (IsList : List A → Type 0) (at_end : IsNext None) (at_item : (xs zs : List A) (z : A) → IsList (xs ++ z ∷ zs) → IsNext (Some z)) where
    no_rest : (xs zs : List A) (rest s : List ℕ) → BeginsWithNone next_then IsNext rest → IsList (xs ++ zs) → rest ≡ all_then zs s → ⊥
    no_rest xs [] rest s none ok e = none None s at_end (e ∙ listing.ended s)
    no_rest xs (z ∷ zs) rest s none ok e = none (Some z) (all_then zs s) (at_item xs zs z ok) (e ∙ listing.more z zs s)

    -- where the rest begins with no item and no end, the text begins with no list
    pub none_next : (xs : List A) (text rest : List ℕ) → text ≡ so_far next_then xs rest → BeginsWithNone next_then IsNext rest → BeginsWithNone all_then IsList text
    none_next xs text rest read none ys s ok e =
        let h = rest_of xs ys rest s (sym read ∙ e) in
        no_rest xs h.0 rest s none (subst IsList h.1 ok) h.2

-- what a call ends with is what the part of it ended with
pub exits : {T : Type 0} (P : T → Type 0) (Q : Fault → Type 0) (r : Result T Fault) (e : Fault) → IsErrAnd r (λ x. x ≡ e) → Q e → MatchResult r P Q
exits {T} P Q r e h k = let p = err_from_is_err_and r h in subst (λ (x : Result T Fault). MatchResult x P Q) (sym (p.1 ∙ ap Err p.2)) k

module _ {A : Type 0} (next_then : Option A → List ℕ → List ℕ) (all_then : List A → List ℕ → List ℕ) (listing : Listing next_then all_then) where
  pub so_far_step : (xs news : List A) (x : A) (o : Option A) (text left behind : List ℕ) → text ≡ so_far next_then xs left → left ≡ next_then o behind → o ≡ Some x → news ≡ xs ++ x ∷ [] → text ≡ so_far next_then news behind
  so_far_step xs news x o text left behind read next is made =
      read ∙ ap (so_far next_then xs) (next ∙ ap (λ p. next_then p behind) is) ∙ sym (so_far_more next_then xs x behind) ∙ ap (λ ys. so_far next_then ys behind) (sym made)

  pub so_far_last : (xs : List A) (o : Option A) (text left behind : List ℕ) → text ≡ so_far next_then xs left → left ≡ next_then o behind → o ≡ None → text ≡ all_then xs behind
  so_far_last xs o text left behind read next is =
      read ∙ ap (so_far next_then xs) (next ∙ ap (λ p. next_then p behind) is) ∙ so_far_end next_then all_then listing xs behind

pub map_more : {A B : Type 0} (f : A → B) (xs : List A) (x : A) → map f (xs ++ x ∷ []) ≡ map f xs ++ f x ∷ []
map_more f [] x = refl
map_more f (y ∷ ys) x = ap (λ zs. f y ∷ zs) (map_more f ys x)
