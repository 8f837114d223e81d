use Rattle.std.proofs.Common.{length, ◌+◌, ◌*◌}
use Rattle.oberon_tree.specs.Print.{print_addends, print_multipliers, print_more_elements, print_selectors, print_more_exprs}
use Rattle.oberon_tree.specs.Levels.{depth_of_addends, depth_of_multipliers, depth_of_more_elements, depth_of_selectors, depth_of_more_exprs}
use Rattle.oberon_tree.specs.Memory.{addends_list, multipliers_list, more_elements_list, selectors_list, more_exprs_list}
use Rattle.oberon_productions.specs.Expected as want
use Rattle.oberon_productions.specs.Reading.{ReadsSome}
use Rattle.oberon_productions.proofs.expression.+expression.Given as goal

abbrev pub decreases-expr : goal.decreases-expr
decreases-expr l = 16 * length l.given.now + 6

abbrev pub decreases-relation : goal.decreases-relation
decreases-relation l = 16 * length l.given.now + 1

abbrev pub decreases-simple : goal.decreases-simple
decreases-simple l = 16 * length l.given.now + 4

abbrev pub decreases-addends : goal.decreases-addends
decreases-addends l = 16 * length l.given.now + 1

abbrev pub decreases-term : goal.decreases-term
decreases-term l = 16 * length l.given.now + 3

abbrev pub decreases-multipliers : goal.decreases-multipliers
decreases-multipliers l = 16 * length l.given.now + 1

abbrev pub decreases-factor : goal.decreases-factor
decreases-factor l = 16 * length l.given.now + 2

abbrev pub decreases-group : goal.decreases-group
decreases-group l = 16 * length l.given.now + 8

abbrev pub decreases-negation : goal.decreases-negation
decreases-negation l = 16 * length l.given.now + 8

abbrev pub decreases-set : goal.decreases-set
decreases-set l = 16 * length l.given.now + 12

abbrev pub decreases-elements : goal.decreases-elements
decreases-elements l = 16 * length l.given.now + 9

abbrev pub decreases-more_elements : goal.decreases-more_elements
decreases-more_elements l = 16 * length l.given.now + 1

abbrev pub decreases-element : goal.decreases-element
decreases-element l = 16 * length l.given.now + 7

abbrev pub decreases-upper : goal.decreases-upper
decreases-upper l = 16 * length l.given.now + 1

abbrev pub decreases-selectors : goal.decreases-selectors
decreases-selectors l = 16 * length l.given.now + 1

abbrev pub decreases-selector : goal.decreases-selector
decreases-selector l = 16 * length l.given.now + 0

abbrev pub decreases-index : goal.decreases-index
decreases-index l = 16 * length l.given.now + 10

abbrev pub decreases-call : goal.decreases-call
decreases-call l = 16 * length l.given.now + 10

abbrev pub decreases-exprs : goal.decreases-exprs
decreases-exprs l = 16 * length l.given.now + 7

abbrev pub decreases-more_exprs : goal.decreases-more_exprs
decreases-more_exprs l = 16 * length l.given.now + 1

abbrev pub invariant-addends-loop-operator : goal.invariant-addends-loop-operator
invariant-addends-loop-operator l =
    ReadsSome (want.addends l.levels) l.levels l.given (print_addends (addends_list l.items.items)) (depth_of_addends (addends_list l.items.items)) l.rest

abbrev pub decreases-addends-loop-operator : goal.decreases-addends-loop-operator
decreases-addends-loop-operator l = length l.rest

abbrev pub invariant-multipliers-loop-operator : goal.invariant-multipliers-loop-operator
invariant-multipliers-loop-operator l =
    ReadsSome (want.multipliers l.levels) l.levels l.given (print_multipliers (multipliers_list l.items.items)) (depth_of_multipliers (multipliers_list l.items.items)) l.rest

abbrev pub decreases-multipliers-loop-operator : goal.decreases-multipliers-loop-operator
decreases-multipliers-loop-operator l = length l.rest

abbrev pub invariant-more_elements-loop-comma : goal.invariant-more_elements-loop-comma
invariant-more_elements-loop-comma l =
    ReadsSome (want.elements l.levels) l.levels l.given (print_more_elements (more_elements_list l.items.items)) (depth_of_more_elements (more_elements_list l.items.items)) l.rest

abbrev pub decreases-more_elements-loop-comma : goal.decreases-more_elements-loop-comma
decreases-more_elements-loop-comma l = length l.rest

abbrev pub invariant-selectors-loop-items : goal.invariant-selectors-loop-items
invariant-selectors-loop-items l =
    ReadsSome (want.selectors l.levels) l.levels l.given (print_selectors (selectors_list l.items.items)) (depth_of_selectors (selectors_list l.items.items)) l.rest

abbrev pub decreases-selectors-loop-items : goal.decreases-selectors-loop-items
decreases-selectors-loop-items l = length l.rest

abbrev pub invariant-more_exprs-loop-comma : goal.invariant-more_exprs-loop-comma
invariant-more_exprs-loop-comma l =
    ReadsSome (want.exprs l.levels) l.levels l.given (print_more_exprs (more_exprs_list l.items.items)) (depth_of_more_exprs (more_exprs_list l.items.items)) l.rest

abbrev pub decreases-more_exprs-loop-comma : goal.decreases-more_exprs-loop-comma
decreases-more_exprs-loop-comma l = length l.rest
