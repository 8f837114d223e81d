-- Exports as they are sorted in memory, and the list of them that the bindings behind a place make.
use Rattle.std.specs.Prelude.{◌≡◌, ℕ, false, if◌then◌else◌, List, map, Option, Some, None}
use Rattle.std.specs.Borrow.{Bor}
use Rattle.std.specs.List.{AllByRecursion}
use Rattle.std.specs.Option.{option_map}
use Rattle.oberon_types.specs.declared.entity.Entity.{Entity}
use Rattle.oberon_types.specs.Entities.{Export}
use Rattle.oberon_types.specs.Memory.{plain_entity}
use Rattle.oberon_types.specs.Types.{same_name}
use Rattle.oberon_infer.specs.declared.scope.Binding.{Binding}
use Rattle.oberon_infer.specs.Memory.{plain_meaning, plain_bindings}
use Rattle.oberon_rules.specs.Views.{written, map_entity, map_export, entity_of, put_entity, exported_in}

abbrev pub sorted_exports : List (Bor (List ℕ) × Entity) → List Export
sorted_exports es = map (λ (e : Bor (List ℕ) × Entity). record { name = e.0.now; entity = plain_entity e.1 }) es

abbrev pub written_exports : List (List ℕ × Binding) → List Export
written_exports bs = map (map_export written) (exported_in (plain_bindings bs))

abbrev pub names_of : List Export → List (List ℕ)
names_of es = map (λ (e : Export). e.name) es

-- ---- with what a binding shows, if anything

abbrev pub put_binding : List ℕ → Binding → List Export → List Export
put_binding x b es = if b.exported then put_entity x (option_map (map_entity written) (entity_of (plain_meaning b.meaning))) es else es

abbrev pub put_at : Option (List ℕ × Binding) → List Export → List Export
put_at None es = es
put_at (Some b) es = put_binding b.0 b.1 es

-- ---- no export has the name

abbrev pub IsNewIn : List ℕ → List Export → Type 0
IsNewIn x es = AllByRecursion (λ (y : List ℕ). same_name x y ≡ false) (names_of es)

abbrev pub IsNewAt : Option (List ℕ × Binding) → List Export → Type 0
IsNewAt None es = Unit {0}
IsNewAt (Some b) es = IsNewIn b.0 es
