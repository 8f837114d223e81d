-- Linked modules, in the order in which their bodies run: each with its text, its tree, the scope behind its procedures
-- and its variables (section 11).
use Rattle.std.specs.Prelude.{ℕ, zero, suc, ◌+◌, if◌then◌else◌, codes, is_some, List, [], ◌∷◌, ◌++◌, map, length, Option, Some, None}
use Rattle.oberon_tree.specs.declared.module.Import.{Import}
use Rattle.oberon_tree.specs.Trees.{ProcedureTree, ProcedureItemTree, ModuleTree}
use Rattle.oberon_types.specs.Types.{same_name}
use Rattle.oberon_types.specs.Sizes.{size_of}
use Rattle.oberon_types.specs.Entities.{ViewTree, missing_view, exports_view}
use Rattle.oberon_types.specs.declared.value.Value.{Value}
use Rattle.oberon_rules.specs.Scopes.{Meaning, variable_meaning, Entry, Scopes}
use Rattle.oberon_rules.specs.Views.{out_view, exported_in}
use Rattle.oberon_rules.specs.Module.{import_list, imported, whole_scope, with_decls}
use Rattle.oberon_rules.specs.Procedures.{procedure_behind}
use Rattle.run_rules.specs.Cells.{Spot, spot_at, first_values}

-- a name of a variable, and what it stands for
pub record Bound : Type 0 where
  pub name : List ℕ
  pub spot : Spot

abbrev pub bound_to : List ℕ → List Bound → Option Spot
bound_to x [] = None
bound_to x (b ∷ bs) = if same_name x b.name then Some b.spot else bound_to x bs

-- a variable among declared names, at this place; what is no variable has no cells
abbrev pub bound_at : ℕ → List ℕ → Meaning → List Bound
bound_at place x (variable_meaning t a) = record { name = x; spot = spot_at place t } ∷ []
bound_at place x _ = []

abbrev pub cells_of : Meaning → List Value
cells_of (variable_meaning t a) = first_values t
cells_of _ = []

abbrev pub size_meant : Meaning → ℕ
size_meant (variable_meaning t a) = size_of t
size_meant _ = 0

-- the variables among declared names, each behind the one before it, and their first values
abbrev pub variables_from : ℕ → List Entry → List Bound
variables_from place [] = []
variables_from place (e ∷ es) = bound_at place e.name e.meaning ++ variables_from (place + size_meant e.meaning) es

abbrev pub cells_from : List Entry → List Value
cells_from [] = []
cells_from (e ∷ es) = cells_of e.meaning ++ cells_from es

-- ---- modules

pub record Source : Type 0 where
  pub stem : List ℕ
  pub text : List ℕ
  pub tree : ModuleTree

-- ---- the order: a module behind those that it imports, which stand in the order written, and each module once

abbrev pub source_named : List ℕ → List Source → Option Source
source_named x [] = None
source_named x (m ∷ ms) = if same_name x m.stem then Some m else source_named x ms

abbrev pub imported_names : ModuleTree → List (List ℕ)
imported_names m = map (λ (i : Import). (imported i).name) (import_list m.imports)

-- the modules placed so far, with each of these names placed by `place`
abbrev pub all_placed : (List ℕ → List Source → List Source) → List (List ℕ) → List Source → List Source
all_placed place [] ms = ms
all_placed place (x ∷ xs) ms = all_placed place xs (place x ms)

abbrev pub behind_imports : (List ℕ → List Source → List Source) → Option Source → List Source → List Source
behind_imports place None ms = ms
behind_imports place (Some m) ms = all_placed place (imported_names m.tree) ms ++ m ∷ []

-- so many modules stand on a way of imports at most; without a cycle no way has more than there are
abbrev pub placed : ℕ → List Source → List ℕ → List Source → List Source
placed zero sources x ms = ms
placed (suc n) sources x ms = if is_some (source_named x ms) then ms else behind_imports (placed n sources) (source_named x sources) ms

-- the modules that the one of this stem imports, directly or not, and itself, which is the last
abbrev pub order_of : List Source → List ℕ → List Source
order_of sources main = placed (length sources) sources main []

-- ---- what is known of a module

pub record Linked : Type 0 where
  pub source : Source
  pub scope : Scopes
  pub variables : List Bound

abbrev pub linked_as : List ℕ → List Linked → Option Linked
linked_as x [] = None
linked_as x (m ∷ ms) = if same_name x m.source.stem then Some m else linked_as x ms

abbrev pub whole_view : Option Linked → ViewTree
whole_view None = missing_view
whole_view (Some m) = exports_view (exported_in m.scope.globals)

-- what a module shows, with hidden fields too
abbrev pub view_among : List Linked → List ℕ → ViewTree
view_among ms x = if same_name x (codes "Out") then out_view else whole_view (linked_as x ms)

abbrev pub link_one : List Linked → ℕ → Source → Scopes → Linked
link_one ms place m s = record { source = m; scope = s; variables = variables_from place s.globals }

-- modules behind some that are linked, the cells of each behind those of the one before it
abbrev pub link_from : List Linked → ℕ → List Source → List Linked
link_from ms place [] = ms
link_from ms place (m ∷ rest) =
    let s = whole_scope m.stem (view_among ms) m.tree in
    link_from (ms ++ link_one ms place m s ∷ []) (place + length (cells_from s.globals)) rest

abbrev pub link : List Source → List Linked
link ms = link_from [] 0 ms

abbrev pub program_of : List Source → List ℕ → List Linked
program_of sources main = link (order_of sources main)

abbrev pub cells_of_all : List Linked → List Value
cells_of_all [] = []
cells_of_all (m ∷ ms) = cells_from m.scope.globals ++ cells_of_all ms

-- the module that an import is of, by its local name
abbrev pub module_among : List ℕ → List Import → Option (List ℕ)
module_among x [] = None
module_among x (i ∷ is) = if same_name x i.name.name then Some (imported i).name else module_among x is

abbrev pub module_named : List ℕ → ModuleTree → Option (List ℕ)
module_named x m = module_among x (import_list m.imports)

-- ---- procedures

-- a procedure, and the scope before it
pub record Found : Type 0 where
  pub procedure : ProcedureTree
  pub before : Scopes

abbrev pub procedure_among : List ℕ → List ℕ → Scopes → List ProcedureItemTree → Option Found
procedure_among me x s [] = None
procedure_among me x s (p ∷ ps) =
    if same_name x p.procedure.name.name.name then Some (record { procedure = p.procedure; before = s })
    else procedure_among me x (procedure_behind me s p.procedure) ps

abbrev pub procedure_in : List Linked → List ℕ → Linked → Option Found
procedure_in ms x m = procedure_among m.source.stem x (with_decls m.source.stem (view_among ms) m.source.tree) m.source.tree.procedures
