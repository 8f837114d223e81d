-- The clean build: what each module of a world declares and exports, and which list of diagnostics it has. A module on a
-- cycle of imports shows that alone, one that has no tree or has an error is broken, and any other one shows what it
-- declares and exports where its imports show what they do. The list of a module is that of a check of its document by
-- what its imports show. Nothing of an earlier build is looked at.
--
-- It is said once, for each way in which modules pass on what they declare. The clean build passes on whole
-- declarations, hidden fields too: HasState and HasList. Checks by views pass on the types as views have them:
-- HasView and HasLocalList. That both give the same lists is a law of this crate.
use Rattle.std.specs.Prelude.{◌≡◌, ℕ, codes, List, [], ◌∷◌, if◌then◌else◌, Contains}
use Rattle.ob_text.specs.declared.diagnostic.Diagnostic.{Diagnostic}
use Rattle.document_rules.specs.Imports.{imports_in}
use Rattle.oberon_tree.specs.Trees.{ModuleTree}
use Rattle.oberon_types.specs.Entities.{ViewTree, missing_view, broken_view, cyclic_view}
use Rattle.oberon_types.specs.Types.{same_name}
use Rattle.oberon_rules.specs.Judged.{declared_view}
use Rattle.oberon_rules.specs.Local.{Local}
use Rattle.oberon_rules.specs.Views.{out_view, written, map_view}
use Rattle.target_graph.specs.Workspace.{stem_at}
use Rattle.build_rules.specs.World.{World, held_in, Parses, Means, IsCyclic}

-- ---- what stands for a name

-- the name means no module of the workspace
abbrev pub MeansNone : World → ℕ → List ℕ → Type 0
MeansNone w p name = (q : ℕ) → ¬ (Means w p name q)

-- Out is predeclared; there is no other module without a document
abbrev pub shown_elsewhere : List ℕ → ViewTree
shown_elsewhere name = if same_name name (codes "Out") then out_view else missing_view

-- the document is no module
abbrev pub HasNoTree : World → ℕ → Type 0
HasNoTree w p = (tree : ModuleTree) → ¬ (Parses (held_in w p) tree)

mutual
  -- a module shows this to those that import it
  pub data Shows (w : World) (passed : ViewTree → ViewTree) : ℕ → ViewTree → Type 0 where
    cyclic : {p : ℕ} → IsCyclic w p → Shows w passed p cyclic_view
    treeless : {p : ℕ} → HasNoTree w p → Shows w passed p broken_view
    declared : {p : ℕ} {shown : ViewTree} (tree : ModuleTree) (imported : List ℕ → ViewTree) → ¬ (IsCyclic w p) → Parses (held_in w p) tree
        → ((name : List ℕ) → Contains (imports_in tree) name → IsShown w passed p name (imported name))
        → shown ≡ passed (declared_view (stem_at w.targets p) imported tree)
        → Shows w passed p shown

  -- a name that a module imports is shown to it as this
  pub data IsShown (w : World) (passed : ViewTree → ViewTree) : ℕ → List ℕ → ViewTree → Type 0 where
    of_module : {p : ℕ} {name : List ℕ} {shown : ViewTree} (q : ℕ) → Means w p name q → Shows w passed q shown → IsShown w passed p name shown
    of_none : {p : ℕ} {name : List ℕ} {shown : ViewTree} → MeansNone w p name → shown ≡ shown_elsewhere name → IsShown w passed p name shown

-- ---- lists

-- a check of a module's document by what these names show
abbrev pub IsCheck : World → ℕ → (List ℕ → ViewTree) → List Diagnostic → List (List ℕ) → ViewTree → Type 0
IsCheck w p imported list imports view = Local (held_in w p) (stem_at w.targets p) imported list imports view

-- the check of a module by what its imports show finds this list
pub record Finds (w : World) (passed : ViewTree → ViewTree) (p : ℕ) (list : List Diagnostic) : Type 0 where
  pub imported : List ℕ → ViewTree
  pub imports : List (List ℕ)
  pub view : ViewTree
  pub check : IsCheck w p imported list imports view
  pub shown : (name : List ℕ) → Contains imports name → IsShown w passed p name (imported name)

-- ---- the clean build, over the texts

abbrev pub whole : ViewTree → ViewTree
whole state = state

-- what a module declares and exports, by its text and the texts that it leads to
abbrev pub HasState : World → ℕ → ViewTree → Type 0
HasState w p state = Shows w whole p state

abbrev pub HasList : World → ℕ → List Diagnostic → Type 0
HasList w p list = Finds w whole p list

-- each module has its list, in this order
abbrev pub AreLists : World → List ℕ → List (List Diagnostic) → Type 0
AreLists w [] [] = Unit {0}
AreLists w (p ∷ ps) (list ∷ lists) = HasList w p list × AreLists w ps lists
AreLists w [] (list ∷ lists) = ⊥
AreLists w (p ∷ ps) [] = ⊥

-- ---- checks by views

abbrev pub as_view : ViewTree → ViewTree
as_view state = map_view written state

abbrev pub HasView : World → ℕ → ViewTree → Type 0
HasView w p view = Shows w as_view p view

abbrev pub HasLocalList : World → ℕ → List Diagnostic → Type 0
HasLocalList w p list = Finds w as_view p list
