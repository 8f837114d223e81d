use Rattle.std.specs.Prelude.{◌≡◌, ℕ, List}
use Rattle.indexmap.specs.IndexMap.{get}
use Rattle.oberon_types.specs.Types.{same_name}
use Rattle.oberon_types.specs.Names.{StartsAt, or_end}
use Rattle.oberon_types.proofs.names.first_fields.Given as goal

abbrev pub invariant-loop-field : goal.invariant-loop-field
invariant-loop-field l = (l.at ≡ l.field-index) × ((x : List ℕ) → StartsAt x l.fields (or_end (get same_name l.first x) l.at))
