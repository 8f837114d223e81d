-- The view of a module by its name in a map, and scopes behind imports.
use Rattle.std.specs.Prelude.{ℕ, ◌≡◌, Bool, true, false, if◌then◌else◌, List, [], ◌∷◌, Option, Some, None, refl}
use Rattle.std.specs.Map.{lookup}
use Rattle.std.proofs.Common.{ap, ◌∙◌}
use Rattle.oberon_tree.specs.declared.module.Import.{Import}
use Rattle.oberon_types.specs.declared.entity.View.{View}
use Rattle.oberon_types.specs.Entities.{ViewTree, missing_view}
use Rattle.oberon_types.specs.Memory.{plain_view}
use Rattle.oberon_types.specs.Types.{same_name}
use Rattle.oberon_rules.specs.Local.{view_in}
use Rattle.oberon_rules.specs.Module.{imported, import_behind, imports_behind}
use Rattle.oberon_rules.specs.Scopes.{import_meaning, Scopes}
use Rattle.oberon_procedures.proofs.ProcedureLaws.{new_outside}
use Rattle.oberon_procedures.specs.Levels.{IsOutside}
use Rattle.oberon_module.specs.Views.{plain_views}

abbrev pub view_or : Option View → ViewTree
view_or None = missing_view
view_or (Some v) = plain_view v

found_by : (b : Bool) (v : View) (o : Option View) → view_or (if b then Some v else o) ≡ (if b then plain_view v else view_or o)
found_by true v o = refl
found_by false v o = refl

pub found_view : (x : List ℕ) (vs : List (List ℕ × View)) → view_or (lookup (same_name x) vs) ≡ view_in (plain_views vs) x
found_view x [] = refl
found_view x (v ∷ vs) = found_by (same_name x v.0) v.1 (lookup (same_name x) vs) ∙ ap (λ (t : ViewTree). if same_name x v.0 then plain_view v.1 else t) (found_view x vs)

pub imports_outside : (views : List ℕ → ViewTree) (s : Scopes) (is : List Import) → IsOutside s → IsOutside (imports_behind views s is)
imports_outside views s [] o = o
imports_outside views s (i ∷ is) o = imports_outside views (import_behind views s i) is (new_outside s i.name false (import_meaning (views (imported i).name)) o)
