use Rattle.std.specs.Prelude.{◌≡◌, ◌-◌, drop}
use Rattle.oberon_types.specs.Memory.{types_in}
use Rattle.oberon_types.proofs.WeightLaws.{known_sum}
use Rattle.oberon_module.proofs.WrittenLaws.{weight_written}
use Rattle.oberon_module.proofs.written.+left.Given as goal

abbrev pub invariant-fields_left-loop-field : goal.invariant-fields_left-loop-field
invariant-fields_left-loop-field l = l.left - known_sum weight_written (λ exported. exported) (types_in l.given) (drop l.field-index l.field-items) ≡ l.initial.left - known_sum weight_written (λ exported. exported) (types_in l.given) l.field-items
