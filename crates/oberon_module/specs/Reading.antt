-- What was read of a document: its list where it has no tree, its tokens, or its tree.
use Rattle.std.specs.Prelude.{◌≡◌, ◌≤◌, ℕ, List, []}
use Rattle.ob_text.specs.declared.diagnostic.Diagnostic.{Diagnostic}
use Rattle.ob_text.specs.declared.held.Held.{Held}
use Rattle.ob_text.specs.declared.held.Held.TheVariants.{Text, Absent, TooLarge, NotText}
use Rattle.document_rules.specs.Imports.{imports_in}
use Rattle.document_rules.specs.Sentence.{most_levels}
use Rattle.oberon_scan.specs.Lexis.{Lex}
use Rattle.oberon_scan.specs.declared.token.Token.{Token}
use Rattle.oberon_tree.specs.Levels.{depth_of_module}
use Rattle.oberon_tree.specs.Memory.{tree_of}
use Rattle.oberon_tree.specs.Print.{tokens_of}
use Rattle.oberon_tree.specs.Trees.{ModuleTree}
use Rattle.oberon_types.specs.Entities.{ViewTree, broken_view}
use Rattle.oberon_rules.specs.Local.{Local}
use Rattle.oberon_module.specs.declared.reading.Reading.{Reading}
use Rattle.oberon_module.specs.declared.reading.Reading.TheVariants as readings

-- what has no tree has this list, whatever it is checked by
abbrev pub HasNoTree : Held → List Diagnostic → Type 0
HasNoTree held list = (me : List ℕ) (views : List ℕ → ViewTree) → Local held me views list [] broken_view

-- a text without lexical faults has these tokens
pub record HasTokens (held : Held) (tokens : List Token) : Type 0 where
  pub text : List ℕ
  pub is : held ≡ Text text
  pub lexis : Lex text tokens []

-- it has this tree
pub record HasTree (held : Held) (tree : ModuleTree) : Type 0 where
  pub tokens : List Token
  pub has_tokens : HasTokens held tokens
  pub printed : tokens_of tree ≡ tokens
  pub levels : depth_of_module tree ≤ most_levels

abbrev pub IsReading : Held → Reading → Type 0
IsReading held (readings.Listed list) = HasNoTree held list.items
IsReading held (readings.Scanned tokens) = HasTokens held tokens.items
IsReading held (readings.Parsed tree) = HasTree held (tree_of tree)

-- the same, as far as the tree
abbrev pub IsRead : Held → Reading → Type 0
IsRead held (readings.Listed list) = HasNoTree held list.items
IsRead held (readings.Scanned tokens) = ⊥
IsRead held (readings.Parsed tree) = HasTree held (tree_of tree)

-- the text that is held; what is no text has none
abbrev pub text_of : Held → List ℕ
text_of (Text text) = text
text_of Absent = []
text_of TooLarge = []
text_of NotText = []

-- the names of the modules that are imported, each once, in the order of the text; what has no tree imports none
abbrev pub imports_read : Reading → List (List ℕ)
imports_read (readings.Listed list) = []
imports_read (readings.Scanned tokens) = []
imports_read (readings.Parsed tree) = imports_in (tree_of tree)
