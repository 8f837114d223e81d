-- The lists of a build.
use Rattle.std.specs.Prelude.{ℕ, List, Option, Some, None, Vec}
use Rattle.std.specs.List.{slice_index_or}
use Rattle.std.specs.declared.alloc.Global.{Global}
use Rattle.ob_text.specs.declared.diagnostic.Diagnostic.{Diagnostic}
use Rattle.build_rules.specs.World.{World}
use Rattle.build_rules.specs.Views.{HasList}

abbrev pub Slots : Type 0
Slots = List (Option (Vec Diagnostic Global))

abbrev pub IsListOf : World → ℕ → Option (Vec Diagnostic Global) → Type 0
IsListOf w p (Some list) = HasList w p list.items
IsListOf w p None = ⊥

-- the list of a module stands at its index
abbrev pub HasListAt : World → Slots → ℕ → Type 0
HasListAt w slots p = IsListOf w p (slice_index_or slots p None)
