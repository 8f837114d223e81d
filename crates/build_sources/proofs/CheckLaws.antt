-- The check of a module by the views of its imports gives the list and the view of the clean build.
use Rattle.std.proofs.Common.{◌≡◌, ℕ, List, sym, subst}
use Rattle.std.specs.Prelude.{Some, Result, Ok, Err, IfOk, Contains}
use Rattle.std.specs.List.{slice_get}
use Rattle.ob_text.specs.declared.diagnostic.Diagnostic.{Diagnostic}
use Rattle.oberon_types.specs.declared.entity.View.{View}
use Rattle.oberon_types.specs.Entities.{ViewTree}
use Rattle.build_rules.proofs.LocalViews as local
use Rattle.build_rules.proofs.Suffice.{whole_list}
use Rattle.build_rules.specs.Locality.{IsApart}
use Rattle.build_rules.specs.Views.{as_view, HasList, HasView, IsCheck, IsShown}
use Rattle.build_rules.specs.World.{World, held_in, Imports, IsCyclic}
use Rattle.target_graph.specs.Workspace.{pairs_of}
use Rattle.target_graph.specs.declared.target.Pair.{Pair}
use Rattle.build_sources.proofs.DocumentLaws.{same_names}
use Rattle.build_sources.proofs.ImportLaws.{named_import, seen_by}
use Rattle.build_sources.specs.Documents.{AreImportsOf}
use Rattle.build_sources.specs.Known.{AreViewsOf, IsViewOf, of_module, of_none, view_at}

-- what two facts of an outcome come to
pub ok_both : {T E : Type 0} {P Q R : T → Type 0} (r : Result T E) → IfOk r P → IfOk r Q → ((x : T) → P x → Q x → R x) → IfOk r R
ok_both (Ok x) p q both = both x p q
ok_both (Err e) p q both = tt

module _ (w : World) (p : ℕ) (pair : Pair) (there : slice_get (pairs_of w.targets) p ≡ Some pair)
    (names : List (List ℕ)) (are : AreImportsOf (held_in w p) names)
    (kept : List View) (seen : (q : ℕ) → Imports w p q → HasView w q (view_at kept q))
    (views : List ℕ → ViewTree) (given : AreViewsOf w.targets pair.target kept names views) where
  shown_here : (name : List ℕ) → Contains names name → IsShown w as_view p name (views name)
  shown_here name listed = by (given name listed)
    where
      by : IsViewOf w.targets pair.target kept name (views name) → IsShown w as_view p name (views name)
      by (of_module q visible is) =
          IsShown.of_module q (record { pair = pair; there = there; visible = visible })
          (subst (HasView w q) (sym is) (seen q (named_import w p pair there names are name listed q visible)))
      by (of_none none is) = IsShown.of_none (λ q means. none q (seen_by w p pair there name q means)) is

  -- whichever list of its imports is meant
  pub shown : (others : List (List ℕ)) → AreImportsOf (held_in w p) others → (name : List ℕ) → Contains others name → IsShown w as_view p name (views name)
  shown others are_too name listed = shown_here name (subst (λ (ns : List (List ℕ)). Contains ns name) (same_names (held_in w p) others names are_too are) listed)

module _ (w : World) (p : ℕ) (views : List ℕ → ViewTree) (list : List Diagnostic) (imports : List (List ℕ)) (view : ViewTree) (check : IsCheck w p views list imports view)
    (all_shown : (name : List ℕ) → Contains imports name → IsShown w as_view p name (views name)) where
  -- the views suffice, so the list is that of the whole declarations
  pub checked_list : IsApart w → HasList w p list
  checked_list apart = whole_list w apart p list (record { imported = views; imports = imports; view = view; check = check; shown = all_shown })

  pub checked_view : ¬ (IsCyclic w p) → HasView w p view
  checked_view acyclic = local.checked_view w p views list imports view acyclic all_shown check
