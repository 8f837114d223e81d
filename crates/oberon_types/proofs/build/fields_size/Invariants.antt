use Rattle.std.specs.Prelude.{◌≡◌, ◌+◌, ◌-◌, ◌^◌, ◌<◌, min, drop}
use Rattle.oberon_types.specs.Sizes.{size_of_fields}
use Rattle.oberon_types.specs.Memory.{fields_list}
use Rattle.oberon_types.proofs.build.fields_size.Given as goal

abbrev pub invariant-loop-field : goal.invariant-loop-field
invariant-loop-field l = (l.size < 2 ^ 32) × (min (l.size + size_of_fields (fields_list (drop l.field-index l.fields))) (2 ^ 32 - 1) ≡ min (size_of_fields (fields_list l.fields)) (2 ^ 32 - 1))
