use Rattle.std.specs.Prelude.{◌≡◌, ◌++◌, drop}
use Rattle.oberon_types.specs.Names.{known_of}
use Rattle.oberon_types.proofs.names.known_fields.Given as goal

abbrev pub invariant-loop-field : goal.invariant-loop-field
invariant-loop-field l = known_of l.fields ≡ l.known.items ++ known_of (drop l.field-index l.fields)
