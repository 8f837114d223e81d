-- What a check finds of a module by its tree, and which findings are errors.
use Rattle.std.specs.Prelude.{◌≡◌, ℕ, Bool, false, List}
use Rattle.ob_text.specs.Code.{severity_of}
use Rattle.ob_text.specs.declared.diagnostic.Diagnostic.{Diagnostic}
use Rattle.document_rules.specs.Imports.{imports_in}
use Rattle.oberon_rules.specs.Judged.{found, all_said, is_error, declared_view}
use Rattle.oberon_rules.specs.Order.{IsListed}
use Rattle.oberon_rules.specs.Scopes.{Said, broken, resolved}
use Rattle.oberon_rules.specs.Views.{written, map_view}
use Rattle.oberon_tree.specs.Trees.{ModuleTree}
use Rattle.oberon_types.specs.Entities.{ViewTree}

pub record IsChecked (text me : List ℕ) (views : List ℕ → ViewTree) (tree : ModuleTree) (list : List Diagnostic) (imports : List (List ℕ)) (view : ViewTree) : Type 0 where
  pub listed : IsListed (found text (all_said me views tree)) list
  pub imported : imports ≡ imports_in tree
  pub shown : view ≡ map_view written (declared_view me views tree)

abbrev pub says_error : Said → Bool
says_error (broken place code name) = is_error (severity_of code)
says_error (resolved x) = false
