-- Views suffice: by what views show, a module's list and what it shows are what they are by whole declarations.
use Rattle.std.proofs.Common.{◌≡◌, inl, inr, ℕ, Bool, true, false, List, [], ◌∷◌, sym, ap, subst, ◌∙◌, refl}
use Rattle.std.specs.Prelude.{Contains}
use Rattle.std.specs.List.{list_any}
use Rattle.std.proofs.lemmas.Bool.{false≢true}
use Rattle.std.proofs.lemmas.Cmp.{nat_list_eq_equiv}
use Rattle.std.proofs.lemmas.Map.Views.{Contains-from_any, list_any-from_Contains}
use Rattle.std.proofs.lemmas.Slice.Eq.{bytes_eq-Decides}
use Rattle.ob_text.specs.declared.diagnostic.Diagnostic.{Diagnostic}
use Rattle.ob_text.specs.declared.held.Held.{Held}
use Rattle.ob_text.specs.declared.held.Held.TheVariants.{Text, Absent, TooLarge, NotText}
use Rattle.document_rules.specs.Imports.{imports_in}
use Rattle.oberon_scan.specs.Lexis.{Lex}
use Rattle.oberon_scan.specs.declared.token.Token.{Token}
use Rattle.oberon_tree.specs.Trees.{ModuleTree}
use Rattle.oberon_types.specs.Entities.{ViewTree, missing_view, broken_view, cyclic_view}
use Rattle.oberon_types.specs.Types.{same_name}
use Rattle.oberon_rules.proofs.AgreeModule.{map_views}
use Rattle.oberon_rules.proofs.Seen.{seen}
use Rattle.oberon_rules.specs.Judged.{found, all_said, declared_view}
use Rattle.oberon_rules.specs.Local.{Local, FaultsLocal, TokensLocal}
use Rattle.oberon_rules.specs.Order.{IsListed}
use Rattle.oberon_rules.specs.Views.{written, map_view}
use Rattle.target_graph.specs.Workspace.{stem_at}
use Rattle.document_laws.proofs.ImportNames.{each_import}
use Rattle.document_laws.proofs.Imported.{same_all_said, same_declared}
use Rattle.build_rules.proofs.SeenExports.{all_said_seen, declared_seen}
use Rattle.build_rules.proofs.StateHomes.{elsewhere_view, import_seen, imports_name}
use Rattle.build_rules.specs.Locality.{IsApart, IsViewOfState, DoViewsSuffice}
use Rattle.build_rules.specs.Views.{as_view, whole, Shows, cyclic, treeless, declared, IsShown, of_module, of_none, HasList, HasLocalList}
use Rattle.build_rules.specs.World.{World, held_in, Parses, Means, IsCyclic}

-- ---- one module

module _ (w : World) (apart : IsApart w) (p : ℕ) (tree : ModuleTree) (parsed : Parses (held_in w p) tree) (states views : List ℕ → ViewTree)
    (shown : (name : List ℕ) → Contains (imports_in tree) name → IsShown w whole p name (states name))
    (agree : (name : List ℕ) → Contains (imports_in tree) name → views name ≡ as_view (states name)) where
  abbrev me : List ℕ
  me = stem_at w.targets p

  own : same_name me me ≡ true
  own = (bytes_eq-Decides me me).1 refl

  seen_agree : (name : List ℕ) → Contains (imports_in tree) name → views name ≡ map_views (seen me) states name
  seen_agree name listed = agree name listed ∙ import_seen w apart p name (states name) (imports_name w p tree parsed name listed) (shown name listed)

  pub said_agree : all_said me views tree ≡ all_said me states tree
  said_agree =
      same_all_said views (map_views (seen me) states) me tree (each_import (λ name. views name ≡ map_views (seen me) states name) tree seen_agree)
      ∙ all_said_seen me own states tree

  pub view_agrees : as_view (declared_view me views tree) ≡ as_view (declared_view me states tree)
  view_agrees =
      ap (λ v. map_view written v) (same_declared views (map_views (seen me) states) me tree (each_import (λ name. views name ≡ map_views (seen me) states name) tree seen_agree))
      ∙ declared_seen me own states tree

-- ---- from states to views

module _ (w : World) (apart : IsApart w) where
  mutual
    pub view_of : (p : ℕ) (state : ViewTree) → Shows w whole p state → Shows w as_view p (as_view state)
    view_of p state (cyclic c) = Shows.cyclic c
    view_of p state (treeless none) = Shows.treeless none
    view_of p state (declared tree states acyclic parsed shown is) =
        Shows.declared tree (λ name. as_view (states name)) acyclic parsed (λ name listed. shown_view p name (states name) (shown name listed))
        (ap as_view is ∙ sym (view_agrees w apart p tree parsed states (λ name. as_view (states name)) shown (λ name listed. refl)))

    shown_view : (p : ℕ) (name : List ℕ) (state : ViewTree) → IsShown w whole p name state → IsShown w as_view p name (as_view state)
    shown_view p name state (of_module q means has) = IsShown.of_module q means (view_of q state has)
    shown_view p name state (of_none none is) = IsShown.of_none none (ap as_view is ∙ elsewhere_view name)

-- ---- a state for each of some names

pub record IsViewOfShown (w : World) (p : ℕ) (name : List ℕ) (view : ViewTree) : Type 0 where
  pub state : ViewTree
  pub shown : IsShown w whole p name state
  pub is : view ≡ as_view state

module _ (w : World) (p : ℕ) (names : List (List ℕ)) (views : List ℕ → ViewTree) (all : (name : List ℕ) → Contains names name → IsViewOfShown w p name (views name)) where
  chosen_by : (name : List ℕ) (b : Bool) → list_any (same_name name) names ≡ b → ViewTree
  chosen_by name true is = (all name (Contains-from_any (λ x y e. (bytes_eq-Decides x y).0 e) name names is)).state
  chosen_by name false is = missing_view

  pub chosen : List ℕ → ViewTree
  chosen name = chosen_by name (list_any (same_name name) names) refl

  abbrev IsChosen : List ℕ → ViewTree → Type 0
  IsChosen name state = IsShown w whole p name state × (views name ≡ as_view state)

  is_chosen_by : (name : List ℕ) (b : Bool) (is : list_any (same_name name) names ≡ b) → Contains names name → IsChosen name (chosen_by name b is)
  unfolding chosen_by
  is_chosen_by name true is listed = let it = all name (Contains-from_any (λ x y e. (bytes_eq-Decides x y).0 e) name names is) in (it.shown, it.is)
  is_chosen_by name false is listed = absurd (false≢true (sym is ∙ list_any-from_Contains nat_list_eq_equiv name names listed))

  pub is_chosen : (name : List ℕ) → Contains names name → IsChosen name (chosen name)
  unfolding chosen
  is_chosen name listed = is_chosen_by name (list_any (same_name name) names) refl listed

-- ---- from views to states

by_module : (w : World) (p : ℕ) (name : List ℕ) (view : ViewTree) (q : ℕ) → Means w p name q → IsViewOfState w q view → IsViewOfShown w p name view
by_module w p name view q means of = record { state = of.state; shown = IsShown.of_module q means of.has; is = of.is }

by_states : (w : World) → IsApart w → (p : ℕ) (view : ViewTree) (tree : ModuleTree) (views : List ℕ → ViewTree) → ¬ (IsCyclic w p) → Parses (held_in w p) tree
    → view ≡ as_view (declared_view (stem_at w.targets p) views tree)
    → ((name : List ℕ) → Contains (imports_in tree) name → IsViewOfShown w p name (views name)) → IsViewOfState w p view
by_states w apart p view tree views acyclic parsed is all =
    let states : List ℕ → ViewTree = chosen w p (imports_in tree) views all in
    let are : (name : List ℕ) → Contains (imports_in tree) name → IsShown w whole p name (states name) × (views name ≡ as_view (states name)) = is_chosen w p (imports_in tree) views all in
    record {
      state = declared_view (stem_at w.targets p) states tree;
      has = Shows.declared tree states acyclic parsed (λ name listed. (are name listed).0) refl;
      is = is ∙ view_agrees w apart p tree parsed states views (λ name listed. (are name listed).0) (λ name listed. (are name listed).1);
    }

module _ (w : World) (apart : IsApart w) where
  mutual
    pub state_of : (p : ℕ) (view : ViewTree) → Shows w as_view p view → IsViewOfState w p view
    state_of p view (cyclic c) = record { state = cyclic_view; has = Shows.cyclic c; is = refl }
    state_of p view (treeless none) = record { state = broken_view; has = Shows.treeless none; is = refl }
    state_of p view (declared tree views acyclic parsed shown is) =
        by_states w apart p view tree views acyclic parsed is (λ name listed. shown_state p name (views name) (shown name listed))

    pub shown_state : (p : ℕ) (name : List ℕ) (view : ViewTree) → IsShown w as_view p name view → IsViewOfShown w p name view
    shown_state p name view (of_module q means has) = by_module w p name view q means (state_of q view has)
    shown_state p name view (of_none none is) = record { state = view; shown = IsShown.of_none none is; is = is ∙ sym (elsewhere_view name) ∙ ap as_view (sym is) }

-- ---- lists

-- a check by other views of the same names, where they say the same of the module's tree
module _ (held : Held) (me : List ℕ) (views others : List ℕ → ViewTree) (list : List Diagnostic) (imports : List (List ℕ))
    (same : (tree : ModuleTree) → Parses held tree → imports ≡ imports_in tree → all_said me views tree ≡ all_said me others tree) where
  pub record IsLocal : Type 0 where
    pub view : ViewTree
    pub local : Local held me others list imports view

  pub record IsTold (text : List ℕ) (tokens : List Token) (faults : List Diagnostic) : Type 0 where
    pub view : ViewTree
    pub told : FaultsLocal text tokens faults me others list imports view

  by_tokens : (text : List ℕ) (tokens : List Token) (view : ViewTree) → held ≡ Text text → Lex text tokens [] → TokensLocal text tokens me views list imports view → IsTold text tokens []
  by_tokens text tokens view is lexis (inl t) = record {
    view = as_view (declared_view me others t.tree);
    told = inl (record {
      tree = t.tree;
      printed = t.printed;
      levels = t.levels;
      listed = subst (λ said. IsListed (found text said) list) (same t.tree (record { text = text; is = is; tokens = tokens; lexis = lexis; printed = t.printed; levels = t.levels }) t.imported) t.listed;
      imported = t.imported;
      shown = refl;
    });
  }
  by_tokens text tokens view is lexis (inr bad) = record { view = view; told = inr bad }

  by_faults : (text : List ℕ) (tokens : List Token) (faults : List Diagnostic) (view : ViewTree) → held ≡ Text text → Lex text tokens faults → FaultsLocal text tokens faults me views list imports view → IsTold text tokens faults
  by_faults text tokens [] view is lexis told = by_tokens text tokens view is lexis told
  by_faults text tokens (fault ∷ faults) view is lexis told = record { view = view; told = told }

  by_held : (given : Held) (view : ViewTree) → held ≡ given → Local given me views list imports view → (v : ViewTree) × Local given me others list imports v
  by_held (Text text) view is local =
      let it = by_faults text local.tokens local.faults view is local.lexis local.told in
      (it.view, record { tokens = local.tokens; faults = local.faults; lexis = local.lexis; told = it.told })
  by_held Absent view is local = (view, local)
  by_held TooLarge view is local = (view, local)
  by_held NotText view is local = (view, local)

  pub other_views : (view : ViewTree) → Local held me views list imports view → IsLocal
  other_views view local = let it = by_held held view refl local in record { view = it.0; local = it.1 }

module _ (w : World) (apart : IsApart w) (p : ℕ) (list : List Diagnostic) where
  whole_names : (tree : ModuleTree) (imports : List (List ℕ)) (Q : List ℕ → Type 0) → imports ≡ imports_in tree → ((name : List ℕ) → Contains imports name → Q name) → (name : List ℕ) → Contains (imports_in tree) name → Q name
  whole_names tree imports Q is all name listed = all name (subst (λ (names : List (List ℕ)). Contains names name) (sym is) listed)

  pub local_list : HasList w p list → HasLocalList w p list
  local_list f =
      let views : List ℕ → ViewTree = λ name. as_view (f.imported name) in
      let other = other_views (held_in w p) (stem_at w.targets p) f.imported views list f.imports
      (λ tree parsed is. sym (said_agree w apart p tree parsed f.imported views (whole_names tree f.imports (λ name. IsShown w whole p name (f.imported name)) is f.shown) (λ name listed. refl)))
      f.view f.check in
      record { imported = views; imports = f.imports; view = other.view; check = other.local; shown = λ name listed. shown_view w apart p name (f.imported name) (f.shown name listed) }

  pub whole_list : HasLocalList w p list → HasList w p list
  whole_list f =
      let all : (name : List ℕ) → Contains f.imports name → IsViewOfShown w p name (f.imported name) = λ name listed. shown_state w apart p name (f.imported name) (f.shown name listed) in
      let states : List ℕ → ViewTree = chosen w p f.imports f.imported all in
      let are : (name : List ℕ) → Contains f.imports name → IsShown w whole p name (states name) × (f.imported name ≡ as_view (states name)) = is_chosen w p f.imports f.imported all in
      let other = other_views (held_in w p) (stem_at w.targets p) f.imported states list f.imports
      (λ tree parsed is. said_agree w apart p tree parsed states f.imported
      (whole_names tree f.imports (λ name. IsShown w whole p name (states name)) is (λ name listed. (are name listed).0))
      (whole_names tree f.imports (λ name. f.imported name ≡ as_view (states name)) is (λ name listed. (are name listed).1)))
      f.view f.check in
      record { imported = states; imports = f.imports; view = other.view; check = other.local; shown = λ name listed. (are name listed).0 }

pub suffice : (w : World) → IsApart w → DoViewsSuffice w
suffice w apart = record {
  view_of = λ p state has. view_of w apart p state has;
  state_of = λ p view has. state_of w apart p view has;
  same_lists = λ p list. (local_list w apart p list, whole_list w apart p list);
}
