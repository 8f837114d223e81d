use Rattle.std.specs.Prelude.{◌≡◌, ◌+◌, ◌*◌, length, map}
use Rattle.iface_key.specs.Keys.{option_then}
use Rattle.iface_key.specs.ReadTypes.{plain_field, field_then}
use Rattle.iface_key.proofs.reading_types.+read.Given as goal
use Rattle.iface_key.proofs.Listed.{so_far}

abbrev pub decreases-read_type : goal.decreases-read_type
decreases-read_type l = 5 * l.depth + 3

abbrev pub decreases-read_larger : goal.decreases-read_larger
decreases-read_larger l = 5 * l.depth + 2

abbrev pub decreases-read_array : goal.decreases-read_array
decreases-read_array l = 5 * l.depth + 1

abbrev pub decreases-read_open : goal.decreases-read_open
decreases-read_open l = 5 * l.depth + 1

abbrev pub decreases-read_record : goal.decreases-read_record
decreases-read_record l = 5 * l.depth + 1

abbrev pub decreases-read_base : goal.decreases-read_base
decreases-read_base l = 5 * l.depth + 2

abbrev pub decreases-next_field : goal.decreases-next_field
decreases-next_field l = 5 * l.depth + 4

abbrev pub decreases-read_fields : goal.decreases-read_fields
decreases-read_fields l = 5 * l.depth + 5

abbrev pub invariant-read_fields-fields : goal.invariant-read_fields-fields
invariant-read_fields-fields l = l.fn.text ≡ so_far (option_then field_then) (map plain_field l.fields.items) l.left

abbrev pub decreases-read_fields-fields : goal.decreases-read_fields-fields
decreases-read_fields-fields l = length l.left
