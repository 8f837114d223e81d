-- The diagnostics, the imports and the view of what is held at a document's path, by the views of its imports: the
-- relation Local. Nothing else of other modules is looked at.
use Rattle.std.specs.Prelude.{◌≡◌, ◌⊎◌, ◌≤◌, ℕ, if◌then◌else◌, List, [], ◌∷◌}
use Rattle.ob_text.specs.declared.code.Code.TheVariants as codes_of
use Rattle.ob_text.specs.declared.diagnostic.Diagnostic.{Diagnostic}
use Rattle.ob_text.specs.declared.held.Held.{Held}
use Rattle.ob_text.specs.declared.held.Held.TheVariants.{Text, Absent, TooLarge, NotText}
use Rattle.document_rules.specs.Diagnosed.{no_document, HasBadToken}
use Rattle.document_rules.specs.Imports.{imports_in}
use Rattle.document_rules.specs.Sentence.{most_levels}
use Rattle.oberon_scan.specs.Lexis.{Lex}
use Rattle.oberon_scan.specs.declared.token.Token.{Token}
use Rattle.oberon_tree.specs.Levels.{depth_of_module}
use Rattle.oberon_tree.specs.Print.{tokens_of}
use Rattle.oberon_tree.specs.Trees.{ModuleTree}
use Rattle.oberon_types.specs.Types.{same_name}
use Rattle.oberon_types.specs.Entities.{ViewTree, missing_view, broken_view}
use Rattle.oberon_rules.specs.Judged.{found, all_said, declared_view}
use Rattle.oberon_rules.specs.Order.{IsListed}
use Rattle.oberon_rules.specs.Views.{written, map_view}

-- ---- a text with a tree

pub record TreeLocal (text : List ℕ) (tokens : List Token) (me : List ℕ) (views : List ℕ → ViewTree) (list : List Diagnostic) (imports : List (List ℕ)) (view : ViewTree) : Type 0 where
  pub tree : ModuleTree
  pub printed : tokens_of tree ≡ tokens
  pub levels : depth_of_module tree ≤ most_levels
  pub listed : IsListed (found text (all_said me views tree)) list
  pub imported : imports ≡ imports_in tree
  pub shown : view ≡ map_view written (declared_view me views tree)

-- ---- what has no tree imports nothing, and is broken

pub record IsTreeless (imports : List (List ℕ)) (view : ViewTree) : Type 0 where
  pub imported : imports ≡ []
  pub shown : view ≡ broken_view

abbrev pub TokensLocal : List ℕ → List Token → List ℕ → (List ℕ → ViewTree) → List Diagnostic → List (List ℕ) → ViewTree → Type 0
TokensLocal text tokens me views list imports view = TreeLocal text tokens me views list imports view ⊎ (HasBadToken text tokens list × IsTreeless imports view)

-- a text with lexical faults has these alone
abbrev pub FaultsLocal : List ℕ → List Token → List Diagnostic → List ℕ → (List ℕ → ViewTree) → List Diagnostic → List (List ℕ) → ViewTree → Type 0
FaultsLocal text tokens [] me views list imports view = TokensLocal text tokens me views list imports view
FaultsLocal text tokens (fault ∷ faults) me views list imports view = (list ≡ fault ∷ faults) × IsTreeless imports view

pub record TextLocal (text me : List ℕ) (views : List ℕ → ViewTree) (list : List Diagnostic) (imports : List (List ℕ)) (view : ViewTree) : Type 0 where
  pub tokens : List Token
  pub faults : List Diagnostic
  pub lexis : Lex text tokens faults
  pub told : FaultsLocal text tokens faults me views list imports view

-- ---- what is held

-- `me` is the stem of the document's path, `views` the view of each name that it imports
abbrev pub Local : Held → List ℕ → (List ℕ → ViewTree) → List Diagnostic → List (List ℕ) → ViewTree → Type 0
Local (Text text) me views list imports view = TextLocal text me views list imports view
Local Absent me views list imports view = (list ≡ no_document codes_of.DocumentAbsent ∷ []) × IsTreeless imports view
Local TooLarge me views list imports view = (list ≡ no_document codes_of.DocumentTooLarge ∷ []) × IsTreeless imports view
Local NotText me views list imports view = (list ≡ no_document codes_of.DocumentNotText ∷ []) × IsTreeless imports view

-- the views of a list of names; of a name that isn't in the list there is no module
abbrev pub view_in : List (List ℕ × ViewTree) → List ℕ → ViewTree
view_in [] x = missing_view
view_in (v ∷ vs) x = if same_name x v.0 then v.1 else view_in vs x
