-- A module (section 11) by the views of its imports: its scope, and what is said of it. `me` is its stem, and `views`
-- gives for each imported module its view.
use Rattle.std.specs.Prelude.{ℕ, Bool, true, false, ◌&&◌, ◌||◌, not, List, [], ◌∷◌, ◌++◌, map, Option, Some, None}
use Rattle.ob_text.specs.declared.code.Code.TheVariants as codes_of
use Rattle.oberon_tree.specs.declared.leaf.Ident.{Ident}
use Rattle.oberon_tree.specs.declared.module.Alias.{Alias}
use Rattle.oberon_tree.specs.declared.module.Import.{Import}
use Rattle.oberon_tree.specs.declared.module.NextImport.{NextImport}
use Rattle.oberon_tree.specs.Trees.{ImportsTree, ModuleTree}
use Rattle.oberon_types.specs.Types.{same_name}
use Rattle.oberon_types.specs.Entities.{ViewTree, missing_view, broken_view, cyclic_view, exports_view}
use Rattle.oberon_rules.specs.Scopes.{import_meaning, Scopes, is_declared, Said, broken, resolved, row, named_row}
use Rattle.oberon_rules.specs.Declarations.{declare_new, new_says, decls_behind, decls_say}
use Rattle.oberon_rules.specs.Procedures.{body_says, end_row, procedures_behind, procedures_say}

-- ---- imports

abbrev pub import_list : Option ImportsTree → List Import
import_list None = []
import_list (Some x) = x.first ∷ map (λ (n : NextImport). n.import) x.rest

abbrev imported_as : Ident → Option Alias → Ident
imported_as x None = x
imported_as x (Some a) = a.imported

-- the name of the module, which stands behind the local one where there are two
abbrev pub imported : Import → Ident
imported i = imported_as i.name i.alias

abbrev pub view_row : ViewTree → Ident → List Said → List Said
view_row missing_view at rest = broken at.span codes_of.NoModule (Some at.name) ∷ rest
view_row broken_view at rest = broken at.span codes_of.ImportBroken (Some at.name) ∷ rest
view_row cyclic_view at rest = broken at.span codes_of.ImportCyclic (Some at.name) ∷ rest
view_row (exports_view es) at rest = rest

abbrev pub import_behind : (List ℕ → ViewTree) → Scopes → Import → Scopes
import_behind views s i = declare_new s i.name false (import_meaning (views (imported i).name))

abbrev pub imports_behind : (List ℕ → ViewTree) → Scopes → List Import → Scopes
imports_behind views s [] = s
imports_behind views s (i ∷ is) = imports_behind views (import_behind views s i) is

abbrev pub imports_say : (List ℕ → ViewTree) → Scopes → List Import → List Said → List Said
imports_say views s [] rest = rest
imports_say views s (i ∷ is) rest = view_row (views (imported i).name) (imported i) (new_says s i.name (imports_say views (import_behind views s i) is rest))

-- ---- imports that nothing uses: one with exports to which no name resolves, or that declares nothing

abbrev pub is_resolved : List ℕ → List Said → Bool
is_resolved x [] = false
is_resolved x (broken place code name ∷ rest) = is_resolved x rest
is_resolved x (resolved y ∷ rest) = same_name x y || is_resolved x rest

abbrev pub is_shown : ViewTree → Bool
is_shown (exports_view es) = true
is_shown _ = false

abbrev pub is_unused : Scopes → Import → List Said → Bool
is_unused s i said = is_declared s i.name.name || not (is_resolved i.name.name said)

abbrev pub unused_say : (List ℕ → ViewTree) → Scopes → List Import → List Said → List Said → List Said
unused_say views s [] said rest = rest
unused_say views s (i ∷ is) said rest = named_row (is_shown (views (imported i).name) && is_unused s i said) i.name codes_of.UnusedImport (unused_say views (import_behind views s i) is said rest)

-- ---- the module: its scope behind the imports, behind the declarations, and behind the procedures

abbrev pub start : Scopes
start = record { procedure = None; locals = None; globals = [] }

abbrev pub with_imports : (List ℕ → ViewTree) → ModuleTree → Scopes
with_imports views m = imports_behind views start (import_list m.imports)

abbrev pub with_decls : List ℕ → (List ℕ → ViewTree) → ModuleTree → Scopes
with_decls me views m = decls_behind me (with_imports views m) m.declarations

abbrev pub whole_scope : List ℕ → (List ℕ → ViewTree) → ModuleTree → Scopes
whole_scope me views m = procedures_behind me (with_decls me views m) m.procedures

abbrev pub inside_says : List ℕ → (List ℕ → ViewTree) → ModuleTree → List Said
inside_says me views m =
    imports_say views start (import_list m.imports)
    (decls_say me (with_imports views m) m.declarations
    (procedures_say me (with_decls me views m) m.procedures
    (body_says me (whole_scope me views m) m.body [])))

-- the module with its name, and what is said inside of it
abbrev pub whole_says : List ℕ → (List ℕ → ViewTree) → ModuleTree → List Said
whole_says me views m =
    row (not (same_name m.name.name me)) m.name.span codes_of.ModuleName
    (end_row m.name m.end_name
    (inside_says me views m))

-- which imports nothing uses, by all that is said
abbrev pub with_unused : (List ℕ → ViewTree) → ModuleTree → List Said → List Said
with_unused views m said = said ++ unused_say views start (import_list m.imports) said []

abbrev pub module_says : List ℕ → (List ℕ → ViewTree) → ModuleTree → List Said
module_says me views m = with_unused views m (whole_says me views m)
