use Rattle.std.specs.Prelude.{◌≡◌, drop}
use Rattle.oberon_types.specs.Memory.{fields_list, named_fields, types_in}
use Rattle.oberon_module.specs.Written.{written_fields, fields_then}
use Rattle.oberon_module.proofs.written.+written.Given as goal

abbrev pub invariant-written_fields-loop-field : goal.invariant-written_fields-loop-field
invariant-written_fields-loop-field l = fields_then (fields_list l.kept.items) (written_fields (named_fields (drop l.field-index l.field-items) (types_in l.given))) ≡ written_fields (named_fields l.field-items (types_in l.given))
