-- A check of a module by what its imports show as views finds the view of the module.
use Rattle.std.proofs.Common.{◌≡◌, inl, inr, ℕ, List, [], ◌∷◌, sym, ap, subst, ◌∙◌, refl}
use Rattle.std.specs.Prelude.{Contains}
use Rattle.ob_text.specs.declared.diagnostic.Diagnostic.{Diagnostic}
use Rattle.ob_text.specs.declared.held.Held.{Held}
use Rattle.ob_text.specs.declared.held.Held.TheVariants.{Text, Absent, TooLarge, NotText}
use Rattle.document_rules.proofs.OneDiagnosis.{none_bad}
use Rattle.document_rules.specs.Sentence.{most_levels}
use Rattle.oberon_scan.proofs.OneCut.{one_cut}
use Rattle.oberon_scan.specs.Lexis.{Lex}
use Rattle.oberon_scan.specs.declared.token.Token.{Token}
use Rattle.oberon_tree.specs.Trees.{ModuleTree}
use Rattle.oberon_types.specs.Entities.{ViewTree}
use Rattle.oberon_rules.specs.Local.{Local, FaultsLocal, TokensLocal, IsTreeless}
use Rattle.target_graph.specs.Workspace.{stem_at}
use Rattle.build_rules.proofs.OneImports.{text_in}
use Rattle.build_rules.specs.Views.{as_view, Shows, IsShown, IsCheck, HasView}
use Rattle.build_rules.specs.World.{World, held_in, Parses, IsCyclic}

-- the cut of a text that is a module is that of its tokens, and has no faults
parsed_cut : (held : Held) (text : List ℕ) (tokens : List Token) (faults : List Diagnostic) (tree : ModuleTree) (parsed : Parses held tree) → held ≡ Text text → Lex text tokens faults → (parsed.tokens ≡ tokens) × ([] ≡ faults)
parsed_cut held text tokens faults tree parsed is lexis =
    let same : parsed.text ≡ text = ap text_in (sym parsed.is ∙ is) in
    one_cut (subst (λ (t : List ℕ). Lex t parsed.tokens []) same parsed.lexis) lexis

not_text : (held given : Held) (tree : ModuleTree) → held ≡ given → ((text : List ℕ) → ¬ (given ≡ Text text)) → ¬ (Parses held tree)
not_text held given tree is none parsed = none parsed.text (sym is ∙ parsed.is)

module _ (w : World) (p : ℕ) (views : List ℕ → ViewTree) (list : List Diagnostic) (imports : List (List ℕ)) (view : ViewTree) (acyclic : ¬ (IsCyclic w p))
    (shown : (name : List ℕ) → Contains imports name → IsShown w as_view p name (views name)) where
  without_tree : IsTreeless imports view → ((tree : ModuleTree) → ¬ (Parses (held_in w p) tree)) → HasView w p view
  without_tree treeless none = subst (λ v. Shows w as_view p v) (sym treeless.shown) (Shows.treeless none)

  by_tokens : (text : List ℕ) (tokens : List Token) → held_in w p ≡ Text text → Lex text tokens [] → TokensLocal text tokens (stem_at w.targets p) views list imports view → HasView w p view
  by_tokens text tokens is lexis (inl t) =
      Shows.declared t.tree views acyclic (record { text = text; is = is; tokens = tokens; lexis = lexis; printed = t.printed; levels = t.levels })
      (λ name listed. shown name (subst (λ (names : List (List ℕ)). Contains names name) (sym t.imported) listed)) t.shown
  by_tokens text tokens is lexis (inr bad) =
      without_tree bad.1 (λ tree parsed.
      none_bad most_levels tokens bad.0.index (tree, parsed.printed ∙ (parsed_cut (held_in w p) text tokens [] tree parsed is lexis).0, parsed.levels) bad.0.first)

  by_faults : (text : List ℕ) (tokens : List Token) (faults : List Diagnostic) → held_in w p ≡ Text text → Lex text tokens faults → FaultsLocal text tokens faults (stem_at w.targets p) views list imports view → HasView w p view
  by_faults text tokens [] is lexis told = by_tokens text tokens is lexis told
  by_faults text tokens (fault ∷ faults) is lexis told =
      without_tree told.1 (λ tree parsed. some_fault fault faults (parsed_cut (held_in w p) text tokens (fault ∷ faults) tree parsed is lexis).1)
    where
      some_fault : (fault : Diagnostic) (faults : List Diagnostic) → [] ≡ fault ∷ faults → ⊥
      some_fault fault faults is = cc

  by_held : (held : Held) → held_in w p ≡ held → Local held (stem_at w.targets p) views list imports view → HasView w p view
  by_held (Text text) is local = by_faults text local.tokens local.faults is local.lexis local.told
  by_held Absent is local = without_tree local.1 (λ tree. not_text (held_in w p) Absent tree is (λ text e. cc))
  by_held TooLarge is local = without_tree local.1 (λ tree. not_text (held_in w p) TooLarge tree is (λ text e. cc))
  by_held NotText is local = without_tree local.1 (λ tree. not_text (held_in w p) NotText tree is (λ text e. cc))

  pub checked_view : IsCheck w p views list imports view → HasView w p view
  checked_view check = by_held (held_in w p) refl check
