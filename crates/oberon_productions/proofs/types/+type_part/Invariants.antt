use Rattle.std.proofs.Common.{length, ◌+◌, ◌*◌}
use Rattle.oberon_tree.specs.Print.{print_more_fields}
use Rattle.oberon_tree.specs.Levels.{depth_of_more_fields}
use Rattle.oberon_tree.specs.Memory.{more_fields_list}
use Rattle.oberon_productions.specs.Expected as want
use Rattle.oberon_productions.specs.Reading.{ReadsSome}
use Rattle.oberon_productions.proofs.types.+type_part.Given as goal

abbrev pub decreases-any_type : goal.decreases-any_type
decreases-any_type l = 16 * length l.given.now + 2

abbrev pub decreases-array : goal.decreases-array
decreases-array l = 16 * length l.given.now + 3

abbrev pub decreases-record_type : goal.decreases-record_type
decreases-record_type l = 16 * length l.given.now + 8

abbrev pub decreases-field_lists : goal.decreases-field_lists
decreases-field_lists l = 16 * length l.given.now + 6

abbrev pub decreases-fields : goal.decreases-fields
decreases-fields l = 16 * length l.given.now + 5

abbrev pub decreases-more_fields : goal.decreases-more_fields
decreases-more_fields l = 16 * length l.given.now + 1

abbrev pub invariant-more_fields-loop-semicolon : goal.invariant-more_fields-loop-semicolon
invariant-more_fields-loop-semicolon l =
    ReadsSome (want.fields l.levels) l.levels l.given (print_more_fields (more_fields_list l.items.items)) (depth_of_more_fields (more_fields_list l.items.items)) l.rest

abbrev pub decreases-more_fields-loop-semicolon : goal.decreases-more_fields-loop-semicolon
decreases-more_fields-loop-semicolon l = length l.rest
