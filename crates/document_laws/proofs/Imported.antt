-- What is said of a module and what it declares looks at the names that it imports, and at no others.
use Rattle.std.specs.Prelude.{ℕ, Contains, ◌≡◌, ◌&&◌, ◌++◌, false, not, if◌then◌else◌, List, [], ◌∷◌, refl}
use Rattle.std.proofs.Common.{ap, ◌∙◌}
use Rattle.ob_text.specs.declared.code.Code.TheVariants as codes_of
use Rattle.document_rules.specs.Imports.{imports_in}
use Rattle.oberon_tree.specs.declared.module.Import.{Import}
use Rattle.oberon_tree.specs.Trees.{ModuleTree}
use Rattle.oberon_types.specs.Types.{same_name}
use Rattle.oberon_types.specs.Entities.{ViewTree, broken_view, exports_view}
use Rattle.oberon_rules.specs.Declarations.{declare_new, new_says, decls_behind, decls_say}
use Rattle.oberon_rules.specs.Judged.{all_said, has_error, declared_view}
use Rattle.oberon_rules.specs.Module.{import_list, imported, view_row, import_behind, imports_behind, imports_say, is_shown, is_unused, unused_say, start, with_imports, whole_scope, module_says}
use Rattle.oberon_rules.specs.Procedures.{body_says, end_row, procedures_behind, procedures_say}
use Rattle.oberon_rules.specs.Scopes.{import_meaning, Scopes, Said, row, named_row}
use Rattle.oberon_rules.specs.Views.{exported_in, is_interface_too_large}
use Rattle.document_laws.proofs.ImportNames.{EachImport, each_import}

module _ (views others : List ℕ → ViewTree) where
  abbrev pub AreSame : List Import → Type 0
  AreSame is = EachImport (λ name. views name ≡ others name) is

  same_behind : (s : Scopes) (is : List Import) → AreSame is → imports_behind views s is ≡ imports_behind others s is
  same_behind s [] h = refl
  same_behind s (i ∷ is) h = ap (λ v. imports_behind views (declare_new s i.name false (import_meaning v)) is) h.0 ∙ same_behind (import_behind others s i) is h.1

  same_say : (s : Scopes) (is : List Import) (rest : List Said) → AreSame is → imports_say views s is rest ≡ imports_say others s is rest
  same_say s [] rest h = refl
  same_say s (i ∷ is) rest h =
      ap (λ v. view_row v (imported i) (new_says s i.name (imports_say views (declare_new s i.name false (import_meaning v)) is rest))) h.0
      ∙ ap (λ said. view_row (others (imported i).name) (imported i) (new_says s i.name said)) (same_say (import_behind others s i) is rest h.1)

  same_unused : (s : Scopes) (is : List Import) (said rest : List Said) → AreSame is → unused_say views s is said rest ≡ unused_say others s is said rest
  same_unused s [] said rest h = refl
  same_unused s (i ∷ is) said rest h =
      ap (λ v. named_row (is_shown v && is_unused s i said) i.name codes_of.UnusedImport (unused_say views (declare_new s i.name false (import_meaning v)) is said rest)) h.0
      ∙ ap (λ xs. named_row (is_shown (others (imported i).name) && is_unused s i said) i.name codes_of.UnusedImport xs) (same_unused (import_behind others s i) is said rest h.1)

  module _ (me : List ℕ) (m : ModuleTree) (h : AreSame (import_list m.imports)) where
    same_imports : with_imports views m ≡ with_imports others m
    same_imports = same_behind start (import_list m.imports) h

    same_scope : whole_scope me views m ≡ whole_scope me others m
    same_scope = ap (λ s. procedures_behind me (decls_behind me s m.declarations) m.procedures) same_imports

    -- what is said behind the imports
    abbrev behind_imports : Scopes → List Said
    behind_imports s =
        decls_say me s m.declarations
        (procedures_say me (decls_behind me s m.declarations) m.procedures
        (body_says me (procedures_behind me (decls_behind me s m.declarations) m.procedures) m.body []))

    abbrev headed : List Said → List Said
    headed said = row (not (same_name m.name.name me)) m.name.span codes_of.ModuleName (end_row m.name m.end_name said)

    same_inside : headed (imports_say views start (import_list m.imports) (behind_imports (with_imports views m))) ≡ headed (imports_say others start (import_list m.imports) (behind_imports (with_imports others m)))
    same_inside =
        ap (λ s. headed (imports_say views start (import_list m.imports) (behind_imports s))) same_imports
        ∙ ap headed (same_say start (import_list m.imports) (behind_imports (with_imports others m)) h)

    same_says : module_says me views m ≡ module_says me others m
    same_says =
        ap (λ said. said ++ unused_say views start (import_list m.imports) said []) same_inside
        ∙ ap (λ xs. headed (imports_say others start (import_list m.imports) (behind_imports (with_imports others m))) ++ xs)
        (same_unused start (import_list m.imports) (headed (imports_say others start (import_list m.imports) (behind_imports (with_imports others m)))) [] h)

    pub same_all_said : all_said me views m ≡ all_said me others m
    same_all_said =
        ap (λ s. row (is_interface_too_large (exported_in s.globals)) m.name.span codes_of.InterfaceTooLarge (module_says me views m)) same_scope
        ∙ ap (λ said. row (is_interface_too_large (exported_in (whole_scope me others m).globals)) m.name.span codes_of.InterfaceTooLarge said) same_says

    pub same_declared : declared_view me views m ≡ declared_view me others m
    same_declared =
        ap (λ s. if has_error (all_said me views m) then broken_view else exports_view (exported_in s.globals)) same_scope
        ∙ ap (λ said. if has_error said then broken_view else exports_view (exported_in (whole_scope me others m).globals)) same_all_said

-- two families of views are the same at these names
abbrev pub AgreeOn : List (List ℕ) → (List ℕ → ViewTree) → (List ℕ → ViewTree) → Type 0
AgreeOn names views others = (x : List ℕ) → Contains names x → views x ≡ others x

-- where the views of its imports are the same, so is all that is said of a module, and what it declares
pub same_said : (me : List ℕ) (views others : List ℕ → ViewTree) (m : ModuleTree) → AgreeOn (imports_in m) views others → (all_said me views m ≡ all_said me others m) × (declared_view me views m ≡ declared_view me others m)
same_said me views others m all =
    let same = each_import (λ name. views name ≡ others name) m all in
    (same_all_said views others me m same, same_declared views others me m same)
