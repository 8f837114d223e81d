-- A module by what it sees of its imports' entities is the module by all of them: so what is said of it, and its scope,
-- look at nothing else of other modules.
use Rattle.std.specs.Prelude.{ℕ, ◌≡◌, true, false, ◌&&◌, ◌||◌, not, List, [], ◌∷◌, ◌++◌, refl}
use Rattle.std.proofs.Common.{ap, ◌∙◌}
use Rattle.ob_text.specs.declared.code.Code.TheVariants as codes_of
use Rattle.oberon_tree.specs.declared.leaf.Ident.{Ident}
use Rattle.oberon_tree.specs.declared.module.Import.{Import}
use Rattle.oberon_tree.specs.Trees.{ModuleTree}
use Rattle.oberon_types.specs.Types.{TyTree, same_name}
use Rattle.oberon_types.specs.Entities.{ViewTree, missing_view, broken_view, cyclic_view, exports_view}
use Rattle.oberon_rules.specs.Scopes.{import_meaning, Scopes, Said, row, named_row}
use Rattle.oberon_rules.specs.Declarations.{new_says, decls_behind, decls_say}
use Rattle.oberon_rules.specs.Procedures.{body_says, end_row, procedures_behind, procedures_say}
use Rattle.oberon_rules.specs.Module.{import_list, imported, view_row, import_behind, imports_behind, imports_say, is_resolved, is_shown, is_unused, unused_say, start, with_imports, with_decls, whole_scope, inside_says, whole_says, with_unused, module_says}
use Rattle.oberon_rules.specs.Views.{map_view}
use Rattle.oberon_rules.proofs.Seen.{seen}
use Rattle.oberon_rules.proofs.AgreeNames.{map_scopes}
use Rattle.oberon_rules.proofs.AgreeDeclarations.{is_declared_seen, declare_new_seen}
use Rattle.oberon_rules.proofs.AgreeTypeRules.{new_says_seen}
use Rattle.oberon_rules.proofs.AgreeSections.{decls_behind_seen, decls_say_seen}
use Rattle.oberon_rules.proofs.AgreeProcedures.{body_seen, procedures_behind_seen, procedures_say_seen}

-- ---- imports

abbrev pub map_views : (TyTree → TyTree) → (List ℕ → ViewTree) → List ℕ → ViewTree
map_views h views x = map_view h (views x)

view_row_seen : (h : TyTree → TyTree) (v : ViewTree) (at : Ident) (rest : List Said) → view_row (map_view h v) at rest ≡ view_row v at rest
view_row_seen h missing_view at rest = refl
view_row_seen h broken_view at rest = refl
view_row_seen h cyclic_view at rest = refl
view_row_seen h (exports_view es) at rest = refl

shown_seen : (h : TyTree → TyTree) (v : ViewTree) → is_shown (map_view h v) ≡ is_shown v
shown_seen h missing_view = refl
shown_seen h broken_view = refl
shown_seen h cyclic_view = refl
shown_seen h (exports_view es) = refl

import_behind_seen : (h : TyTree → TyTree) (views : List ℕ → ViewTree) (s : Scopes) (i : Import) → import_behind (map_views h views) (map_scopes h s) i ≡ map_scopes h (import_behind views s i)
import_behind_seen h views s i = declare_new_seen h s i.name false (import_meaning (views (imported i).name))

imports_behind_seen : (h : TyTree → TyTree) (views : List ℕ → ViewTree) (s : Scopes) (is : List Import) → imports_behind (map_views h views) (map_scopes h s) is ≡ map_scopes h (imports_behind views s is)
imports_behind_seen h views s [] = refl
imports_behind_seen h views s (i ∷ is) = ap (λ y. imports_behind (map_views h views) y is) (import_behind_seen h views s i) ∙ imports_behind_seen h views (import_behind views s i) is

imports_say_seen : (h : TyTree → TyTree) (views : List ℕ → ViewTree) (s : Scopes) (is : List Import) (rest : List Said) → imports_say (map_views h views) (map_scopes h s) is rest ≡ imports_say views s is rest
imports_say_seen h views s [] rest = refl
imports_say_seen h views s (i ∷ is) rest =
    view_row_seen h (views (imported i).name) (imported i) (new_says (map_scopes h s) i.name (imports_say (map_views h views) (import_behind (map_views h views) (map_scopes h s) i) is rest))
    ∙ ap (λ y. view_row (views (imported i).name) (imported i) y) (new_says_seen h s i.name (imports_say (map_views h views) (import_behind (map_views h views) (map_scopes h s) i) is rest))
    ∙ ap (λ y. view_row (views (imported i).name) (imported i) (new_says s i.name (imports_say (map_views h views) y is rest))) (import_behind_seen h views s i)
    ∙ ap (λ y. view_row (views (imported i).name) (imported i) (new_says s i.name y)) (imports_say_seen h views (import_behind views s i) is rest)

unused_seen : (h : TyTree → TyTree) (views : List ℕ → ViewTree) (s : Scopes) (is : List Import) (said rest : List Said) → unused_say (map_views h views) (map_scopes h s) is said rest ≡ unused_say views s is said rest
unused_seen h views s [] said rest = refl
unused_seen h views s (i ∷ is) said rest =
    ap (λ b. named_row (b && is_unused (map_scopes h s) i said) i.name codes_of.UnusedImport (unused_say (map_views h views) (import_behind (map_views h views) (map_scopes h s) i) is said rest)) (shown_seen h (views (imported i).name))
    ∙ ap (λ b. named_row (is_shown (views (imported i).name) && (b || not (is_resolved i.name.name said))) i.name codes_of.UnusedImport (unused_say (map_views h views) (import_behind (map_views h views) (map_scopes h s) i) is said rest)) (is_declared_seen h s i.name.name)
    ∙ ap (λ y. named_row (is_shown (views (imported i).name) && is_unused s i said) i.name codes_of.UnusedImport (unused_say (map_views h views) y is said rest)) (import_behind_seen h views s i)
    ∙ ap (λ y. named_row (is_shown (views (imported i).name) && is_unused s i said) i.name codes_of.UnusedImport y) (unused_seen h views (import_behind views s i) is said rest)

-- ---- the module

with_imports_seen : (me : List ℕ) (views : List ℕ → ViewTree) (m : ModuleTree) → with_imports (map_views (seen me) views) m ≡ map_scopes (seen me) (with_imports views m)
with_imports_seen me views m = imports_behind_seen (seen me) views start (import_list m.imports)

with_decls_seen : (me : List ℕ) → same_name me me ≡ true → (views : List ℕ → ViewTree) (m : ModuleTree) → with_decls me (map_views (seen me) views) m ≡ map_scopes (seen me) (with_decls me views m)
with_decls_seen me own views m = ap (λ y. decls_behind me y m.declarations) (with_imports_seen me views m) ∙ decls_behind_seen me (with_imports views m) own m.declarations

pub whole_scope_seen : (me : List ℕ) → same_name me me ≡ true → (views : List ℕ → ViewTree) (m : ModuleTree) → whole_scope me (map_views (seen me) views) m ≡ map_scopes (seen me) (whole_scope me views m)
whole_scope_seen me own views m = ap (λ y. procedures_behind me y m.procedures) (with_decls_seen me own views m) ∙ procedures_behind_seen me (with_decls me views m) m.procedures

body_said_seen : (me : List ℕ) → same_name me me ≡ true → (views : List ℕ → ViewTree) (m : ModuleTree) → body_says me (whole_scope me (map_views (seen me) views) m) m.body [] ≡ body_says me (whole_scope me views m) m.body []
body_said_seen me own views m = ap (λ y. body_says me y m.body []) (whole_scope_seen me own views m) ∙ body_seen me (whole_scope me views m) m.body []

inside_says_seen : (me : List ℕ) → same_name me me ≡ true → (views : List ℕ → ViewTree) (m : ModuleTree) → inside_says me (map_views (seen me) views) m ≡ inside_says me views m
inside_says_seen me own views m =
    ap (λ y. imports_say (map_views (seen me) views) start (import_list m.imports) (decls_say me (with_imports (map_views (seen me) views) m) m.declarations (procedures_say me (with_decls me (map_views (seen me) views) m) m.procedures y))) (body_said_seen me own views m)
    ∙ ap (λ y. imports_say (map_views (seen me) views) start (import_list m.imports) (decls_say me (with_imports (map_views (seen me) views) m) m.declarations (procedures_say me y m.procedures (body_says me (whole_scope me views m) m.body [])))) (with_decls_seen me own views m)
    ∙ ap (λ y. imports_say (map_views (seen me) views) start (import_list m.imports) (decls_say me (with_imports (map_views (seen me) views) m) m.declarations y)) (procedures_say_seen me (with_decls me views m) own m.procedures (body_says me (whole_scope me views m) m.body []))
    ∙ ap (λ y. imports_say (map_views (seen me) views) start (import_list m.imports) (decls_say me y m.declarations (procedures_say me (with_decls me views m) m.procedures (body_says me (whole_scope me views m) m.body [])))) (with_imports_seen me views m)
    ∙ ap (λ y. imports_say (map_views (seen me) views) start (import_list m.imports) y) (decls_say_seen me (with_imports views m) own m.declarations (procedures_say me (with_decls me views m) m.procedures (body_says me (whole_scope me views m) m.body [])))
    ∙ imports_say_seen (seen me) views start (import_list m.imports) (decls_say me (with_imports views m) m.declarations (procedures_say me (with_decls me views m) m.procedures (body_says me (whole_scope me views m) m.body [])))

with_unused_seen : (h : TyTree → TyTree) (views : List ℕ → ViewTree) (m : ModuleTree) (said : List Said) → with_unused (map_views h views) m said ≡ with_unused views m said
with_unused_seen h views m said = ap (λ xs. said ++ xs) (unused_seen h views start (import_list m.imports) said [])

pub module_says_seen : (me : List ℕ) → same_name me me ≡ true → (views : List ℕ → ViewTree) (m : ModuleTree) → module_says me (map_views (seen me) views) m ≡ module_says me views m
module_says_seen me own views m =
    ap (λ y. with_unused (map_views (seen me) views) m (row (not (same_name m.name.name me)) m.name.span codes_of.ModuleName (end_row m.name m.end_name y))) (inside_says_seen me own views m)
    ∙ with_unused_seen (seen me) views m (whole_says me views m)
