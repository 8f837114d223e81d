-- What is found of a module by its tree.
use Rattle.std.specs.Prelude.{◌≡◌, ◌++◌, ℕ, Bool, if◌then◌else◌, List, []}
use Rattle.std.proofs.Common.{ap, subst, ◌∙◌}
use Rattle.ob_text.specs.declared.code.Code.TheVariants as codes_of
use Rattle.ob_text.specs.declared.diagnostic.Diagnostic.{Diagnostic}
use Rattle.document_rules.specs.Imports.{imports_in}
use Rattle.oberon_tree.specs.Trees.{ModuleTree}
use Rattle.oberon_types.specs.Entities.{ViewTree, broken_view, exports_view}
use Rattle.oberon_rules.specs.Judged.{found, has_error, all_said, declared_view}
use Rattle.oberon_rules.specs.Module.{module_says, whole_scope}
use Rattle.oberon_rules.specs.Order.{IsListed}
use Rattle.oberon_rules.specs.Scopes.{Entry, Said, row}
use Rattle.oberon_rules.specs.Views.{written, map_view, exported_in, is_interface_too_large}
use Rattle.oberon_module.specs.Checked.{IsChecked}
use Rattle.oberon_module.proofs.InterfaceLaws.{listed_first, errors_first}

-- a module by its tree, where the row of its interface is said last
pub checked : (text me : List ℕ) (views : List ℕ → ViewTree) (tree m : ModuleTree) (said inside : List Said) (globals : List Entry) (large : Bool) → m ≡ tree → globals ≡ (whole_scope me views m).globals → inside ≡ module_says me views m → large ≡ is_interface_too_large (exported_in globals) → said ≡ inside ++ row large m.name.span codes_of.InterfaceTooLarge []
    → (list : List Diagnostic) (imports : List (List ℕ)) (view : ViewTree) → IsListed (found text said) list → imports ≡ imports_in tree → view ≡ map_view written (if has_error said then broken_view else exports_view (exported_in globals)) → IsChecked text me views tree list imports view
checked text me views tree m said inside globals large same scope says weighed is list imports view listed imported shown =
    let all : row large m.name.span codes_of.InterfaceTooLarge inside ≡ all_said me views m =
    ap (λ (xs : List Said). row large m.name.span codes_of.InterfaceTooLarge xs) says
    ∙ ap (λ (b : Bool). row b m.name.span codes_of.InterfaceTooLarge (module_says me views m)) (weighed ∙ ap (λ (es : List Entry). is_interface_too_large (exported_in es)) scope) in
    let listed_all = subst (λ (xs : List Said). IsListed (found text xs) list) all (listed_first text said inside large m.name.span codes_of.InterfaceTooLarge list is listed) in
    let errors = errors_first said inside large m.name.span codes_of.InterfaceTooLarge is ∙ ap has_error all in
    record {
      listed = subst (λ (t : ModuleTree). IsListed (found text (all_said me views t)) list) same listed_all;
      imported = imported;
      shown = shown
          ∙ ap (λ (b : Bool). map_view written (if b then broken_view else exports_view (exported_in globals))) errors
          ∙ ap (λ (es : List Entry). map_view written (if has_error (all_said me views m) then broken_view else exports_view (exported_in es))) scope
          ∙ ap (λ (t : ModuleTree). map_view written (declared_view me views t)) same;
    }
