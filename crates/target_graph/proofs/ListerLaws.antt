-- The targets that list a path, up to an index.
use Rattle.std.proofs.Common.{◌≡◌, ◌⊎◌, inl, inr, ℕ, ◌+◌, ◌<◌, ◌≤◌, true, false, List, [], ◌∷◌, ◌++◌, length, get_or, All, Contains, Option, Some, ap, sym, subst, ◌∙◌, refl, arith}
use Rattle.std.specs.List.{slice_get, list_any, AllPairs}
use Rattle.std.proofs.lemmas.Bool.{false≢true, cases_eq}
use Rattle.std.proofs.lemmas.List.Elements.{All-nil, All-push, Contains-push, Contains-append_left}
use Rattle.std.proofs.lemmas.List.Quantifiers.{all_pairs_push}
use Rattle.std.proofs.lemmas.Option.{slice_get_read, slice_get_within, same_Some}
use Rattle.target_graph.specs.declared.target.Target.{Target}
use Rattle.target_graph.specs.Listers.{is_one, IsLister, AreListers}

pub record AreListersTo (targets : List Target) (own other : Option (List ℕ)) (at : ℕ) (indices : List ℕ) : Type 0 where
  pub ordered : AllPairs ◌<◌ indices
  pub below : All (λ index. index < at) indices
  pub each : All (IsLister targets own other) indices
  pub whole : (t : ℕ) → t < at → IsLister targets own other t → Contains indices t

module _ (targets : List Target) (own other : Option (List ℕ)) where
  pub listers_none : AreListersTo targets own other 0 []
  listers_none = record {
    ordered = λ i j d h k. absurd (omega arith);
    below = All-nil (λ index. index < 0);
    each = All-nil (IsLister targets own other);
    whole = λ t h l. absurd (omega arith);
  }

  pub lister_at : (t : ℕ) (target : Target) → t < length targets → target ≡ get_or targets t target → list_any (is_one own other) target.modules ≡ true → IsLister targets own other t
  lister_at t target h e l = record { target = target; there = slice_get_read targets (length targets) t target refl h e; lists = l }

  pub listers_more : (at : ℕ) (indices : List ℕ) → AreListersTo targets own other at indices → IsLister targets own other at → AreListersTo targets own other (at + 1) (indices ++ at ∷ [])
  listers_more at indices m here = record {
    ordered = all_pairs_push ◌<◌ indices at m.ordered (λ k d h. m.below k d h);
    below = All-push (λ index. index < at + 1) indices at (λ k d h. (let l = m.below k d h in omega arith)) (omega arith);
    each = All-push (IsLister targets own other) indices at m.each here;
    whole = λ t h l. by t h l (cases_eq t at);
  }
    where
      by : (t : ℕ) → t < at + 1 → IsLister targets own other t → (t ≡ at) ⊎ (t ≡ at → ⊥) → Contains (indices ++ at ∷ []) t
      by t h l (inl e) = subst (λ x. Contains (indices ++ at ∷ []) x) (sym e) (Contains-push indices at)
      by t h l (inr n) = Contains-append_left indices (at ∷ []) t (m.whole t (omega arith) l)

  pub listers_less : (at : ℕ) (indices : List ℕ) (target : Target) → at < length targets → target ≡ get_or targets at target → AreListersTo targets own other at indices
      → list_any (is_one own other) target.modules ≡ false → AreListersTo targets own other (at + 1) indices
  listers_less at indices target h e m unlisted = record {
    ordered = m.ordered;
    below = λ k d l. (let b = m.below k d l in omega arith);
    each = m.each;
    whole = λ t k l. by t k l (cases_eq t at);
  }
    where
      by : (t : ℕ) → t < at + 1 → IsLister targets own other t → (t ≡ at) ⊎ (t ≡ at → ⊥) → Contains indices t
      by t k l (inr n) = m.whole t (omega arith) l
      by t k l (inl same) =
          let here : slice_get targets t ≡ Some target = ap (slice_get targets) same ∙ slice_get_read targets (length targets) at target refl h e in
          let one : l.target ≡ target = same_Some l.target target (sym l.there ∙ here) in
          absurd (false≢true (sym unlisted ∙ (ap (λ (x : Target). list_any (is_one own other) x.modules) (sym one) ∙ l.lists)))

  pub listers_all : (at : ℕ) (indices : List ℕ) → length targets ≤ at → AreListersTo targets own other at indices → AreListers targets own other indices
  listers_all at indices h m = record {
    ordered = m.ordered;
    each = m.each;
    whole = λ t l. (let k = slice_get_within targets t l.target l.there in m.whole t (omega arith) l);
  }
