-- Targets that depend on themselves.
use Rattle.std.proofs.Common.{◌≡◌, ◌⊎◌, inl, inr, ℕ, ◌+◌, ◌<◌, ◌≤◌, List, Bool, true, false, length, get_or, Contains, Some, sym, subst, ◌∙◌, refl, arith}
use Rattle.std.specs.List.{slice_get}
use Rattle.std.proofs.lemmas.Bool.{false≢true, cases_eq}
use Rattle.std.proofs.lemmas.Option.{slice_get_read, slice_get_within, same_Some}
use Rattle.target_graph.specs.declared.target.Target.{Target}
use Rattle.target_graph.specs.Workspace.{Circles, IsReached}
use Rattle.target_graph.specs.Walk.{has_met, AreMarks}
use Rattle.target_graph.specs.Faults.{IsFirstCycle}

pub circles_reached : (targets : List Target) (n : ℕ) (target : Target) → n < length targets → target ≡ get_or targets n target → Circles targets n → IsReached targets target.dependencies n
circles_reached targets n target h e c =
    let here : slice_get targets n ≡ Some target = slice_get_read targets (length targets) n target refl h e in
    let same : c.direct.target ≡ target = same_Some c.direct.target target (sym c.direct.there ∙ here) in
    record { from = c.next; asked_for = subst (λ (t : Target). Contains t.dependencies c.next) same c.direct.listed; leads = c.back }

pub reached_circles : (targets : List Target) (n : ℕ) (target : Target) → n < length targets → target ≡ get_or targets n target → IsReached targets target.dependencies n → Circles targets n
reached_circles targets n target h e r =
    record {
      next = r.from;
      direct = record { target = target; there = slice_get_read targets (length targets) n target refl h e; listed = r.asked_for };
      back = r.leads;
    }

pub no_cycle_more : (targets : List Target) (n : ℕ) (target : Target) (marks : List Bool) → n < length targets → target ≡ get_or targets n target
    → AreMarks targets target.dependencies marks → has_met marks n ≡ false → ((k : ℕ) → k < n → ¬ (Circles targets k)) → (k : ℕ) → k < n + 1 → ¬ (Circles targets k)
no_cycle_more targets n target marks h e m unmarked before k l c = by (cases_eq k n)
  where
    by : (k ≡ n) ⊎ (k ≡ n → ⊥) → ⊥
    by (inr q) = before k (omega arith) c
    by (inl q) = false≢true (sym unmarked ∙ m.whole n (circles_reached targets n target h e (subst (Circles targets) q c)))

pub no_cycles : (targets : List Target) (n : ℕ) → length targets ≤ n → ((k : ℕ) → k < n → ¬ (Circles targets k)) → (k : ℕ) → ¬ (Circles targets k)
no_cycles targets n h before k c = before k (let l = slice_get_within targets k c.direct.target c.direct.there in omega arith) c

pub no_first_cycle : (targets : List Target) → ((k : ℕ) → ¬ (Circles targets k)) → (name : List ℕ) → ¬ (IsFirstCycle targets name)
no_first_cycle targets none name f = none f.index f.circles

pub first_cycle : (targets : List Target) (n : ℕ) (target : Target) (marks : List Bool) → n < length targets → target ≡ get_or targets n target
    → AreMarks targets target.dependencies marks → has_met marks n ≡ true → ((k : ℕ) → k < n → ¬ (Circles targets k)) → IsFirstCycle targets target.name
first_cycle targets n target marks h e m is before = record {
  index = n;
  target = target;
  there = slice_get_read targets (length targets) n target refl h e;
  named = refl;
  circles = reached_circles targets n target h e (m.reached n is);
  first = before;
}
