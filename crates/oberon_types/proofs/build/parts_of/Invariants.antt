use Rattle.std.specs.Prelude.{◌≡◌, length, map}
use Rattle.oberon_types.specs.Names.{AreWithin}
use Rattle.oberon_types.specs.Memory.{plain_ty, named_fields, fields_list}
use Rattle.oberon_types.proofs.build.parts_of.Given as goal

abbrev pub invariant-fields : goal.invariant-fields
invariant-fields l = AreWithin (length l.parts.types.items) l.parts.names.items × (named_fields l.parts.names.items (map plain_ty l.parts.types.items) ≡ fields_list l.yielded)
