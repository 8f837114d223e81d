-- A module has one state and one list, where no list of tokens is printed of two trees.
use Rattle.std.proofs.Common.{◌≡◌, ℕ, List, [], sym, ap, subst, ◌∙◌, refl}
use Rattle.std.specs.Prelude.{Contains}
use Rattle.ob_text.specs.declared.diagnostic.Diagnostic.{Diagnostic}
use Rattle.ob_text.specs.declared.held.Held.{Held}
use Rattle.document_rules.specs.Imports.{imports_in}
use Rattle.oberon_scan.proofs.OneCut.{one_cut}
use Rattle.oberon_scan.specs.Lexis.{Lex}
use Rattle.oberon_tree.specs.Print.{tokens_of}
use Rattle.oberon_tree.specs.Trees.{ModuleTree}
use Rattle.oberon_types.specs.Entities.{ViewTree}
use Rattle.oberon_rules.proofs.OneList as rules
use Rattle.oberon_rules.specs.Judged.{declared_view}
use Rattle.build_plan.proofs.LeadsLaws.{first_step}
use Rattle.target_graph.specs.Workspace.{stem_at, IsVisible}
use Rattle.target_graph.specs.declared.target.Pair.{Pair}
use Rattle.document_laws.proofs.ImportNames.{each_import}
use Rattle.build_rules.proofs.OneImports.{text_in}
use Rattle.build_rules.proofs.Reached.{one_stem, same_pair}
use Rattle.document_laws.proofs.Imported.{AgreeOn, same_declared}
use Rattle.document_laws.proofs.OneDocument.{one_document}
use Rattle.build_rules.specs.Determined.{IsDetermined}
use Rattle.build_rules.specs.Locality.{IsApart}
use Rattle.build_rules.specs.Views.{whole, HasNoTree, Shows, cyclic, treeless, declared, IsShown, of_module, of_none, HasList}
use Rattle.build_rules.specs.World.{World, held_in, Parses, Means, Imports, IsCyclic}

abbrev pub AreTreesOne : Type 0
AreTreesOne = (a b : ModuleTree) → tokens_of a ≡ tokens_of b → a ≡ b

module _ (trees : AreTreesOne) where
  one_tree : (held : Held) (a b : ModuleTree) → Parses held a → Parses held b → a ≡ b
  one_tree held a b pa pb =
      let same : pb.text ≡ pa.text = ap text_in (sym pb.is ∙ pa.is) in
      let cut = one_cut pa.lexis (subst (λ (text : List ℕ). Lex text pb.tokens []) same pb.lexis) in
      trees a b (pa.printed ∙ cut.0 ∙ sym pb.printed)

  -- ---- states

  module _ (w : World) (apart : IsApart w) where
    one_meant : (p : ℕ) (name : List ℕ) (q r : ℕ) → Means w p name q → Means w p name r → q ≡ r
    one_meant p name q r a b =
        let other : IsVisible w.targets a.pair.target name r = subst (λ (x : Pair). IsVisible w.targets x.target name r) (same_pair b.pair a.pair (sym b.there ∙ a.there)) b.visible in
        one_stem w apart a.pair.target q r a.visible.sees other.sees (a.visible.named ∙ sym other.named)

    -- what has no tree imports nothing, so it is on no cycle
    cyclic_tree : (p : ℕ) → HasNoTree w p → IsCyclic w p → ⊥
    cyclic_tree p none cycle =
        let first = first_step (Imports w) p p cycle in
        none first.1.has.tree first.1.has.parsed

    declared_agree : (p : ℕ) (a b : ModuleTree) → a ≡ b → (views others : List ℕ → ViewTree)
        → ((name : List ℕ) → Contains (imports_in a) name → Contains (imports_in b) name → views name ≡ others name)
        → declared_view (stem_at w.targets p) views a ≡ declared_view (stem_at w.targets p) others b
    declared_agree p a b e views others agree =
        same_declared views others (stem_at w.targets p) a
        (each_import (λ name. views name ≡ others name) a (λ name listed. agree name listed (subst (λ (t : ModuleTree). Contains (imports_in t) name) e listed)))
        ∙ ap (λ t. declared_view (stem_at w.targets p) others t) e

    mutual
      pub one_state : (p : ℕ) (s t : ViewTree) → Shows w whole p s → Shows w whole p t → s ≡ t
      one_state p s t (cyclic c) (cyclic d) = refl
      one_state p s t (cyclic c) (treeless none) = absurd (cyclic_tree p none c)
      one_state p s t (cyclic c) (declared tree others acyclic parsed shown is) = absurd (acyclic c)
      one_state p s t (treeless none) (cyclic d) = absurd (cyclic_tree p none d)
      one_state p s t (treeless none) (treeless other) = refl
      one_state p s t (treeless none) (declared tree others acyclic parsed shown is) = absurd (none tree parsed)
      one_state p s t (declared a views acyclic parsed shown is) (cyclic d) = absurd (acyclic d)
      one_state p s t (declared a views acyclic parsed shown is) (treeless none) = absurd (none a parsed)
      one_state p s t (declared a views acyclic parsed shown is) (declared b others acyclic_too parsed_too shown_too is_too) =
          is ∙ declared_agree p a b (one_tree (held_in w p) a b parsed parsed_too) views others
          (λ name listed listed_too. one_shown p name (views name) (others name) (shown name listed) (shown_too name listed_too))
          ∙ sym is_too

      pub one_shown : (p : ℕ) (name : List ℕ) (s t : ViewTree) → IsShown w whole p name s → IsShown w whole p name t → s ≡ t
      one_shown p name s t (of_module q means has) (of_module r means_too has_too) = one_state q s t has (subst (λ x. Shows w whole x t) (sym (one_meant p name q r means means_too)) has_too)
      one_shown p name s t (of_module q means has) (of_none none is) = absurd (none q means)
      one_shown p name s t (of_none none is) (of_module r means has) = absurd (none r means)
      one_shown p name s t (of_none none is) (of_none other is_too) = is ∙ sym is_too

  -- ---- lists

  pub one_list : (w : World) → IsApart w → (p : ℕ) (xs ys : List Diagnostic) → HasList w p xs → HasList w p ys → xs ≡ ys
  one_list w apart p xs ys a b =
      let alike : a.imports ≡ b.imports → AgreeOn a.imports a.imported b.imported =
      λ same name listed. one_shown w apart p name (a.imported name) (b.imported name) (a.shown name listed)
      (b.shown name (subst (λ (names : List (List ℕ)). Contains names name) same listed)) in
      (one_document rules.one_list (held_in w p) (stem_at w.targets p) a.imported b.imported xs ys a.imports b.imports a.view b.view alike a.check b.check).0

pub determined : (w : World) → AreTreesOne → IsApart w → IsDetermined w
determined w trees apart = record {
  one_state = λ p s t a b. one_state trees w apart p s t a b;
  one_list = λ p xs ys a b. one_list trees w apart p xs ys a b;
}
