use Rattle.std.proofs.Common.{length, ◌+◌, ◌*◌}
use Rattle.oberon_tree.specs.Print.{print_more_statements, print_elsifs, print_more_arms}
use Rattle.oberon_tree.specs.Levels.{depth_of_more_statements, depth_of_elsifs, depth_of_more_arms}
use Rattle.oberon_tree.specs.Memory.{more_statements_list, elsifs_list, more_arms_list}
use Rattle.oberon_productions.specs.Expected as want
use Rattle.oberon_productions.specs.Reading.{ReadsSome}
use Rattle.oberon_productions.proofs.statement.+statement.Given as goal

abbrev pub decreases-statements : goal.decreases-statements
decreases-statements l = 16 * length l.given.now + 4

abbrev pub decreases-more_statements : goal.decreases-more_statements
decreases-more_statements l = 16 * length l.given.now + 1

abbrev pub decreases-statement : goal.decreases-statement
decreases-statement l = 16 * length l.given.now + 2

abbrev pub decreases-guarded : goal.decreases-guarded
decreases-guarded l = 16 * length l.given.now + 6

abbrev pub decreases-elsifs : goal.decreases-elsifs
decreases-elsifs l = 16 * length l.given.now + 1

abbrev pub decreases-branches : goal.decreases-branches
decreases-branches l = 16 * length l.given.now + 7

abbrev pub decreases-otherwise : goal.decreases-otherwise
decreases-otherwise l = 16 * length l.given.now + 1

abbrev pub decreases-conditional : goal.decreases-conditional
decreases-conditional l = 16 * length l.given.now + 8

abbrev pub decreases-choice : goal.decreases-choice
decreases-choice l = 16 * length l.given.now + 8

abbrev pub decreases-arms : goal.decreases-arms
decreases-arms l = 16 * length l.given.now + 7

abbrev pub decreases-arm : goal.decreases-arm
decreases-arm l = 16 * length l.given.now + 2

abbrev pub decreases-more_arms : goal.decreases-more_arms
decreases-more_arms l = 16 * length l.given.now + 1

abbrev pub decreases-repetition : goal.decreases-repetition
decreases-repetition l = 16 * length l.given.now + 8

abbrev pub decreases-repeat : goal.decreases-repeat
decreases-repeat l = 16 * length l.given.now + 8

abbrev pub decreases-counted : goal.decreases-counted
decreases-counted l = 16 * length l.given.now + 8

abbrev pub decreases-counted_body : goal.decreases-counted_body
decreases-counted_body l = 16 * length l.given.now + 7

abbrev pub invariant-more_statements-loop-semicolon : goal.invariant-more_statements-loop-semicolon
invariant-more_statements-loop-semicolon l =
    ReadsSome (want.statements l.levels) l.levels l.given (print_more_statements (more_statements_list l.items.items)) (depth_of_more_statements (more_statements_list l.items.items)) l.rest

abbrev pub decreases-more_statements-loop-semicolon : goal.decreases-more_statements-loop-semicolon
decreases-more_statements-loop-semicolon l = length l.rest

abbrev pub invariant-elsifs-loop-span : goal.invariant-elsifs-loop-span
invariant-elsifs-loop-span l =
    ReadsSome (want.elsifs l.joint l.levels) l.levels l.given (print_elsifs l.joint (elsifs_list l.items.items)) (depth_of_elsifs (elsifs_list l.items.items)) l.rest

abbrev pub decreases-elsifs-loop-span : goal.decreases-elsifs-loop-span
decreases-elsifs-loop-span l = length l.rest

abbrev pub invariant-more_arms-loop-bar : goal.invariant-more_arms-loop-bar
invariant-more_arms-loop-bar l =
    ReadsSome (want.arms l.levels) l.levels l.given (print_more_arms (more_arms_list l.items.items)) (depth_of_more_arms (more_arms_list l.items.items)) l.rest

abbrev pub decreases-more_arms-loop-bar : goal.decreases-more_arms-loop-bar
decreases-more_arms-loop-bar l = length l.rest
