-- What a build is of: the targets of a workspace, and what was handed out of its documents. A module is a pair of a
-- target and a document, and stands by its index among the pairs of the workspace. What the names in an IMPORT mean to
-- it, and which modules it imports.
use Rattle.std.specs.Prelude.{◌≡◌, ◌≤◌, ℕ, List, [], Some, unwrap_or, Contains}
use Rattle.std.specs.List.{slice_get}
use Rattle.build_plan.specs.Rows.{Leads}
use Rattle.ob_text.specs.Held.{Entries, held_at}
use Rattle.ob_text.specs.declared.held.Held.{Held}
use Rattle.ob_text.specs.declared.held.Held.TheVariants.{Text, Absent}
use Rattle.document_rules.specs.Imports.{imports_in}
use Rattle.document_rules.specs.Sentence.{most_levels}
use Rattle.oberon_scan.specs.Lexis.{Lex}
use Rattle.oberon_scan.specs.declared.token.Token.{Token}
use Rattle.oberon_tree.specs.Levels.{depth_of_module}
use Rattle.oberon_tree.specs.Print.{tokens_of}
use Rattle.oberon_tree.specs.Trees.{ModuleTree}
use Rattle.target_graph.specs.Workspace.{pairs_of, path_at, IsVisible}
use Rattle.target_graph.specs.declared.target.Pair.{Pair}
use Rattle.target_graph.specs.declared.target.Target.{Target}

pub record World : Type 0 where
  pub targets : List Target
  pub entries : Entries

-- what was handed out for a path; where nothing was, it is absent
abbrev pub handed_at : Entries → List ℕ → Held
handed_at entries path = unwrap_or (held_at entries path) Absent

-- the document of a module
abbrev pub held_in : World → ℕ → Held
held_in w p = handed_at w.entries (path_at w.targets p)

-- the document is a module, and this is its tree
pub record Parses (held : Held) (tree : ModuleTree) : Type 0 where
  pub text : List ℕ
  pub is : held ≡ Text text
  pub tokens : List Token
  pub lexis : Lex text tokens []
  pub printed : tokens_of tree ≡ tokens
  pub levels : depth_of_module tree ≤ most_levels

-- the document is a module, which imports these
pub record HasImports (held : Held) (names : List (List ℕ)) : Type 0 where
  pub tree : ModuleTree
  pub parsed : Parses held tree
  pub imported : names ≡ imports_in tree

-- What a name means to a module: the module of that name which its target sees.
pub record Means (w : World) (p : ℕ) (name : List ℕ) (q : ℕ) : Type 0 where
  pub pair : Pair
  pub there : slice_get (pairs_of w.targets) p ≡ Some pair
  pub visible : IsVisible w.targets pair.target name q

-- a module imports another
pub record Imports (w : World) (p q : ℕ) : Type 0 where
  pub names : List (List ℕ)
  pub has : HasImports (held_in w p) names
  pub name : List ℕ
  pub listed : Contains names name
  pub means : Means w p name q

-- some imports, one at least, lead from a module back to itself
abbrev pub IsCyclic : World → ℕ → Type 0
IsCyclic w p = Leads (Imports w) p p
