-- All that is said of a module with a tree, as diagnostics of its text, and what it shows. `me` is its stem, `views` the
-- view of each module that it imports.
use Rattle.std.specs.Prelude.{ℕ, Bool, true, false, ◌||◌, if◌then◌else◌, List, [], ◌∷◌}
use Rattle.ob_text.specs.Code.{severity_of}
use Rattle.ob_text.specs.Position.{range_at}
use Rattle.ob_text.specs.declared.code.Code.TheVariants as codes_of
use Rattle.ob_text.specs.declared.code.Severity.{Severity}
use Rattle.ob_text.specs.declared.code.Severity.TheVariants as severities
use Rattle.ob_text.specs.declared.diagnostic.Diagnostic.{Diagnostic}
use Rattle.oberon_tree.specs.Trees.{ModuleTree}
use Rattle.oberon_types.specs.Entities.{ViewTree, broken_view, exports_view}
use Rattle.oberon_rules.specs.Module.{module_says, whole_scope}
use Rattle.oberon_rules.specs.Scopes.{Said, broken, resolved, row}
use Rattle.oberon_rules.specs.Views.{exported_in, is_interface_too_large}

abbrev pub found : List ℕ → List Said → List Diagnostic
found text [] = []
found text (broken place code name ∷ rest) = record { span = place; range = range_at text place; code = code; name = name } ∷ found text rest
found text (resolved x ∷ rest) = found text rest

-- the weight of the interface is judged beside all other rules, of the exports that aren't unknown
abbrev pub all_said : List ℕ → (List ℕ → ViewTree) → ModuleTree → List Said
all_said me views m = row (is_interface_too_large (exported_in (whole_scope me views m).globals)) m.name.span codes_of.InterfaceTooLarge (module_says me views m)

abbrev pub is_error : Severity → Bool
is_error severities.Error = true
is_error severities.Warning = false

abbrev pub has_error : List Said → Bool
has_error [] = false
has_error (broken place code name ∷ rest) = is_error (severity_of code) || has_error rest
has_error (resolved x ∷ rest) = has_error rest

-- what the module exports, each type whole
abbrev pub declared_view : List ℕ → (List ℕ → ViewTree) → ModuleTree → ViewTree
declared_view me views m = if has_error (all_said me views m) then broken_view else exports_view (exported_in (whole_scope me views m).globals)
