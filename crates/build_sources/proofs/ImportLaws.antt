-- The modules that a module imports are those that the names which it imports mean to its target; and cycles of them.
use Rattle.std.proofs.Common.{◌≡◌, ℕ, List, sym, subst, ◌∙◌}
use Rattle.std.specs.Prelude.{Contains, ◌↔◌, Some}
use Rattle.std.specs.List.{slice_get}
use Rattle.build_plan.specs.Rows.{OnCycle}
use Rattle.build_plan.specs.Rows as plan
use Rattle.build_rules.proofs.Ways.{leads_by}
use Rattle.build_rules.specs.World.{World, held_in, Imports, IsCyclic, Means}
use Rattle.target_graph.specs.Workspace.{pairs_of, IsVisible}
use Rattle.target_graph.specs.declared.target.Pair.{Pair}
use Rattle.build_sources.specs.Documents.{AreImportsOf}
use Rattle.build_sources.specs.Rows.{AreRows, IsRow}

same_pair : (a b : Pair) → Some a ≡ Some b → a ≡ b
same_pair a b is = cc

module _ (w : World) (p : ℕ) (pair : Pair) (there : slice_get (pairs_of w.targets) p ≡ Some pair) where
  -- what a name means to the module is what its target sees by it
  pub seen_by : (name : List ℕ) (q : ℕ) → Means w p name q → IsVisible w.targets pair.target name q
  seen_by name q means = subst (λ (x : Pair). IsVisible w.targets x.target name q) (same_pair means.pair pair (sym means.there ∙ there)) means.visible

  module _ (names : List (List ℕ)) (are : AreImportsOf (held_in w p) names) where
    pub named_import : (name : List ℕ) → Contains names name → (q : ℕ) → IsVisible w.targets pair.target name q → Imports w p q
    named_import name listed q visible = record {
      names = names;
      has = are.named name listed;
      name = name;
      listed = listed;
      means = record { pair = pair; there = there; visible = visible };
    }

    pub row_imports : (row : List ℕ) → IsRow w.targets pair.target names row → (q : ℕ) → Contains row q ↔ Imports w p q
    row_imports row is q = (
      (λ c. let named = is.each q c in named_import named.name named.listed q named.visible),
      (λ i. is.whole q (record {
        name = i.name;
        listed = subst (λ (ns : List (List ℕ)). Contains ns i.name) (are.whole i.names i.has) i.listed;
        visible = seen_by i.name q i.means;
      })),
    )

pub cyclic_rows : (w : World) (rows : List (List ℕ)) → AreRows w rows → (p : ℕ) → OnCycle rows p ↔ IsCyclic w p
cyclic_rows w rows are p = (
  leads_by (plan.Imports rows) (Imports w) (λ a b. (are.each a b).0) p p,
  leads_by (Imports w) (plan.Imports rows) (λ a b. (are.each a b).1) p p,
)
