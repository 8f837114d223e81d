-- The marked indices up to one.
use Rattle.std.proofs.Common.{◌≡◌, ◌⊎◌, inl, inr, ℕ, zero, suc, ◌+◌, ◌<◌, ◌≤◌, List, [], ◌∷◌, ◌++◌, Bool, true, false, length, get_or, All, Contains, ap, sym, subst, ◌∙◌, arith}
use Rattle.std.specs.List.{AllPairs}
use Rattle.std.proofs.lemmas.Bool.{false≢true, cases_eq}
use Rattle.std.proofs.lemmas.List.Elements.{All-nil, All-push, Contains-push, Contains-append_left}
use Rattle.std.proofs.lemmas.List.Quantifiers.{all_pairs_push}
use Rattle.target_graph.specs.declared.target.Target.{Target}
use Rattle.target_graph.specs.Workspace.{IsClosure}
use Rattle.target_graph.specs.Walk.{has_met, AreMarks, AreMarked}

pub record IsMarkedTo (marks : List Bool) (at : ℕ) (indices : List ℕ) : Type 0 where
  pub ordered : AllPairs ◌<◌ indices
  pub below : All (λ index. index < at) indices
  pub each : All (λ index. has_met marks index ≡ true) indices
  pub whole : (index : ℕ) → index < at → has_met marks index ≡ true → Contains indices index

pub marked_none : (marks : List Bool) → IsMarkedTo marks 0 []
marked_none marks = record {
  ordered = λ i j d h k. absurd (omega arith);
  below = All-nil (λ index. index < 0);
  each = All-nil (λ index. has_met marks index ≡ true);
  whole = λ index h m. absurd (omega arith);
}

pub marked_more : (marks : List Bool) (at : ℕ) (indices : List ℕ) → IsMarkedTo marks at indices → has_met marks at ≡ true → IsMarkedTo marks (at + 1) (indices ++ at ∷ [])
marked_more marks at indices m here = record {
  ordered = all_pairs_push ◌<◌ indices at m.ordered (λ k d h. m.below k d h);
  below = All-push (λ index. index < at + 1) indices at (λ k d h. (let l = m.below k d h in omega arith)) (omega arith);
  each = All-push (λ index. has_met marks index ≡ true) indices at m.each here;
  whole = λ index h is. by index h is (cases_eq index at);
}
  where
    by : (index : ℕ) → index < at + 1 → has_met marks index ≡ true → (index ≡ at) ⊎ (index ≡ at → ⊥) → Contains (indices ++ at ∷ []) index
    by index h is (inl e) = subst (λ x. Contains (indices ++ at ∷ []) x) (sym e) (Contains-push indices at)
    by index h is (inr n) = Contains-append_left indices (at ∷ []) index (m.whole index (omega arith) is)

pub marked_less : (marks : List Bool) (at : ℕ) (indices : List ℕ) → IsMarkedTo marks at indices → has_met marks at ≡ false → IsMarkedTo marks (at + 1) indices
marked_less marks at indices m here = record {
  ordered = m.ordered;
  below = λ k d h. (let l = m.below k d h in omega arith);
  each = m.each;
  whole = λ index h is. by index h is (cases_eq index at);
}
  where
    by : (index : ℕ) → index < at + 1 → has_met marks index ≡ true → (index ≡ at) ⊎ (index ≡ at → ⊥) → Contains indices index
    by index h is (inl e) = absurd (false≢true (sym here ∙ (ap (has_met marks) (sym e) ∙ is)))
    by index h is (inr n) = m.whole index (omega arith) is

pub within : (marks : List Bool) (b : ℕ) → has_met marks b ≡ true → b < length marks
within [] b h = absurd (false≢true h)
within (m ∷ marks) zero h = omega arith
within (m ∷ marks) (suc b) h = let k = within marks b h in omega arith

pub marked_all : (marks : List Bool) (at : ℕ) (indices : List ℕ) → length marks ≤ at → IsMarkedTo marks at indices → AreMarked marks indices
marked_all marks at indices h m = record {
  ordered = m.ordered;
  each = m.each;
  whole = λ index is. (let k = within marks index is in m.whole index (omega arith) is);
}

-- the marked indices are the closure
pub closure_of : (targets : List Target) (asked : List ℕ) (marks : List Bool) (indices : List ℕ) → AreMarks targets asked marks → AreMarked marks indices → IsClosure targets asked indices
closure_of targets asked marks indices m p = record {
  ordered = p.ordered;
  reached = λ k d h. m.reached (get_or indices k d) (p.each k d h);
  whole = λ b r. p.whole b (m.whole b r);
}

-- and each is one of the targets
pub indices_within : (targets : List Target) (asked : List ℕ) (marks : List Bool) (indices : List ℕ) → AreMarks targets asked marks → AreMarked marks indices → All (λ index. index < length targets) indices
indices_within targets asked marks indices m p = λ k d h. subst (λ n. get_or indices k d < n) m.size (within marks (get_or indices k d) (p.each k d h))
