-- The homes of what a module declares are modules that it leads to. So what an import of a module declares, written
-- out, is what the module sees of it.
use Rattle.std.proofs.Common.{◌≡◌, ℕ, Bool, true, false, List, sym, subst, ◌∙◌, refl}
use Rattle.std.specs.Prelude.{codes, Contains, if◌then◌else◌}
use Rattle.std.proofs.lemmas.Slice.Eq.{bytes_eq-Decides}
use Rattle.document_rules.specs.Imports.{imports_in}
use Rattle.oberon_tree.specs.Trees.{ModuleTree}
use Rattle.oberon_types.specs.Entities.{ViewTree, missing_view}
use Rattle.oberon_types.specs.Types.{same_name}
use Rattle.oberon_rules.proofs.Seen.{seen}
use Rattle.oberon_rules.specs.Views.{out_view, written, map_view}
use Rattle.target_graph.specs.Workspace.{stem_at}
use Rattle.build_rules.proofs.Homes.{AreViewHomes, IsElsewhere, more_view, out_homes, out_written, view_elsewhere}
use Rattle.document_laws.proofs.ImportNames.{each_import}
use Rattle.build_rules.proofs.Reached.{Reaches, ImportsName, named_import, reaches_on, back_again, reached_stem}
use Rattle.build_rules.proofs.ScopeHomes.{declared_homes}
use Rattle.build_rules.specs.Locality.{IsApart}
use Rattle.build_rules.specs.Views.{as_view, whole, shown_elsewhere, Shows, cyclic, treeless, declared, IsShown, of_module, of_none}
use Rattle.build_rules.specs.World.{World, held_in, Parses, IsCyclic, Imports}

-- ---- Out, and what is missing

elsewhere_homes : (P : List ℕ → Type 0) (name : List ℕ) → AreViewHomes P (shown_elsewhere name)
elsewhere_homes P name = by (same_name name (codes "Out"))
  where
    by : (b : Bool) → AreViewHomes P (if b then out_view else missing_view)
    by true = out_homes P
    by false = tt

pub elsewhere_view : (name : List ℕ) → as_view (shown_elsewhere name) ≡ shown_elsewhere name
elsewhere_view name = by (same_name name (codes "Out"))
  where
    by : (b : Bool) → map_view written (if b then out_view else missing_view) ≡ (if b then out_view else missing_view)
    by true = out_written
    by false = refl

-- ---- the homes of a state

-- the stem of a module that this one reaches
pub record IsHome (w : World) (p : ℕ) (home : List ℕ) : Type 0 where
  pub at : ℕ
  pub reached : Reaches w p at
  pub is : home ≡ stem_at w.targets at

pub imports_name : (w : World) (p : ℕ) (tree : ModuleTree) → Parses (held_in w p) tree → (name : List ℕ) → Contains (imports_in tree) name → ImportsName w p name
imports_name w p tree parsed name listed = record { names = imports_in tree; has = record { tree = tree; parsed = parsed; imported = refl }; listed = listed }

module _ (w : World) where
  mutual
    state_homes : (p : ℕ) (state : ViewTree) → Shows w whole p state → AreViewHomes (IsHome w p) state
    state_homes p state (cyclic c) = tt
    state_homes p state (treeless none) = tt
    state_homes p state (declared tree imported acyclic parsed shown is) =
        subst (AreViewHomes (IsHome w p)) (sym is)
        (declared_homes (IsHome w p) (stem_at w.targets p) (record { at = p; reached = Reaches.itself refl; is = refl }) imported tree
        (each_import (λ name. AreViewHomes (IsHome w p) (imported name)) tree
        (λ name listed. import_homes p name (imported name) (shown name listed) (imports_name w p tree parsed name listed))))

    import_homes : (p : ℕ) (name : List ℕ) (state : ViewTree) → IsShown w whole p name state → ImportsName w p name → AreViewHomes (IsHome w p) state
    import_homes p name state (of_module q means has) i =
        more_view (IsHome w q) (IsHome w p) (λ home h. record { at = h.at; reached = reaches_on w p q h.at (named_import w p q name i means) h.reached; is = h.is }) state
        (state_homes q state has)
    import_homes p name state (of_none none is) i = subst (AreViewHomes (IsHome w p)) (sym is) (elsewhere_homes (IsHome w p) name)

  -- ---- an import's homes are elsewhere

  module _ (apart : IsApart w) (p : ℕ) where
    home_elsewhere : (q : ℕ) → Imports w p q → ¬ (IsCyclic w q) → (home : List ℕ) → IsHome w q home → IsElsewhere (stem_at w.targets p) home
    home_elsewhere q i acyclic home h = by (same_name home (stem_at w.targets p)) refl
      where
        by : (b : Bool) → same_name home (stem_at w.targets p) ≡ b → IsElsewhere (stem_at w.targets p) home
        by false is = is
        by true is =
            let same : stem_at w.targets h.at ≡ stem_at w.targets p = sym h.is ∙ (bytes_eq-Decides home (stem_at w.targets p)).0 is in
            absurd (acyclic (back_again w p q i (subst (Reaches w q) (reached_stem w apart p q h.at i h.reached same) h.reached)))

    module_seen : (q : ℕ) (state : ViewTree) → Imports w p q → Shows w whole q state → map_view written state ≡ map_view (seen (stem_at w.targets p)) state
    module_seen q state i (cyclic c) = refl
    module_seen q state i (treeless none) = refl
    module_seen q state i (declared tree imported acyclic parsed shown is) =
        view_elsewhere (stem_at w.targets p) state
        (more_view (IsHome w q) (IsElsewhere (stem_at w.targets p)) (home_elsewhere q i acyclic) state (state_homes q state (Shows.declared tree imported acyclic parsed shown is)))

    pub import_seen : (name : List ℕ) (state : ViewTree) → ImportsName w p name → IsShown w whole p name state → as_view state ≡ map_view (seen (stem_at w.targets p)) state
    import_seen name state i (of_module q means has) = module_seen q state (named_import w p q name i means) has
    import_seen name state i (of_none none is) =
        view_elsewhere (stem_at w.targets p) state (subst (AreViewHomes (IsElsewhere (stem_at w.targets p))) (sym is) (elsewhere_homes (IsElsewhere (stem_at w.targets p)) name))
