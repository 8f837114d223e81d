-- What the exports of a scope weigh, in the order of declaration.
use Rattle.std.specs.Prelude.{ℕ, Bool, if◌then◌else◌, List, Option, Some, None}
use Rattle.oberon_types.specs.Entities.{EntityTree}
use Rattle.oberon_infer.specs.declared.scope.Binding.{Binding}
use Rattle.oberon_infer.specs.Memory.{plain_meaning}
use Rattle.oberon_rules.specs.Scopes.{Meaning}
use Rattle.oberon_rules.specs.Views.{entity_of, weight_of_entity}

abbrev pub weight_of_option : Option EntityTree → ℕ
weight_of_option None = 0
weight_of_option (Some e) = weight_of_entity e

abbrev pub weight_of_meaning : Meaning → ℕ
weight_of_meaning m = weight_of_option (entity_of m)

abbrev pub weight_of_exported : Bool → Meaning → ℕ
weight_of_exported exported m = if exported then weight_of_meaning m else 0

abbrev pub weight_of_binding : Binding → ℕ
weight_of_binding b = weight_of_exported b.exported (plain_meaning b.meaning)

abbrev pub weight_at : Option (List ℕ × Binding) → ℕ
weight_at None = 0
weight_at (Some p) = weight_of_binding p.1
