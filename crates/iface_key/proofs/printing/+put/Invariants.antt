use Rattle.std.specs.Prelude.{ℕ, List, ◌≡◌, ◌++◌, drop}
use Rattle.oberon_types.specs.Memory.{types_in, named_fields}
use Rattle.iface_key.specs.Keys.{fields_then}
use Rattle.iface_key.proofs.printing.+put.Given as goal

abbrev pub invariant-put_fields-loop-field : goal.invariant-put_fields-loop-field
invariant-put_fields-loop-field l = (rest : List ℕ) → l.key.items ++ fields_then (named_fields (drop l.field-index l.field-items) (types_in l.given)) rest ≡ l.initial.key.items ++ fields_then (named_fields l.field-items (types_in l.given)) rest
