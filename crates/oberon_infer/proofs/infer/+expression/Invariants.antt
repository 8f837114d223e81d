use Rattle.std.specs.Prelude.{◌≡◌, drop}
use Rattle.oberon_tree.specs.Memory.{addends_list, multipliers_list, more_elements_list, selectors_list, more_exprs_list}
use Rattle.oberon_rules.specs.Expressions.{addends_are, multipliers_are, selectors_are, more_exprs_are, or_unknown}
use Rattle.oberon_rules.specs.ExpressionRules.{addends_say, multipliers_say, more_elements_say, selectors_say, more_indices_say, more_exprs_say}
use Rattle.oberon_infer.specs.Adds.{Goes}
use Rattle.oberon_infer.specs.Given.{plain_given, given_behind}
use Rattle.oberon_infer.specs.Memory.{plain_scopes, plain_ex, plain_type_option, plain_expected}
use Rattle.oberon_infer.proofs.LoopLaws.{elements_behind}
use Rattle.oberon_infer.proofs.infer.+expression.Given as goal
use Rattle.oberon_infer.proofs.PartLaws.{are_whole}

abbrev pub invariant-simple-loop-addend : goal.invariant-simple-loop-addend
invariant-simple-loop-addend l = record {
  is : addends_are l.me (plain_scopes l.scopes) (plain_ex l.initial.x) (addends_list l.addend-items) ≡ addends_are l.me (plain_scopes l.scopes) (plain_ex l.x) (addends_list (drop l.addend-index l.addend-items));
  says : Goes l.initial.said.items l.said.items (addends_say l.me (plain_scopes l.scopes) (plain_ex l.initial.x) (addends_list l.addend-items)) (addends_say l.me (plain_scopes l.scopes) (plain_ex l.x) (addends_list (drop l.addend-index l.addend-items)));
}

abbrev pub invariant-term-loop-multiplier : goal.invariant-term-loop-multiplier
invariant-term-loop-multiplier l = record {
  is : multipliers_are l.me (plain_scopes l.scopes) (plain_ex l.initial.x) (multipliers_list l.multiplier-items) ≡ multipliers_are l.me (plain_scopes l.scopes) (plain_ex l.x) (multipliers_list (drop l.multiplier-index l.multiplier-items));
  says : Goes l.initial.said.items l.said.items (multipliers_say l.me (plain_scopes l.scopes) (plain_ex l.initial.x) (multipliers_list l.multiplier-items)) (multipliers_say l.me (plain_scopes l.scopes) (plain_ex l.x) (multipliers_list (drop l.multiplier-index l.multiplier-items)));
}

abbrev pub invariant-elements-loop-next : goal.invariant-elements-loop-next
invariant-elements-loop-next l = record {
  is : are_whole l.me (plain_scopes l.scopes) l.initial.whole (more_elements_list l.next-items) ≡ are_whole l.me (plain_scopes l.scopes) l.whole (more_elements_list (drop l.next-index l.next-items));
  says : Goes l.initial.said.items l.said.items (more_elements_say l.me (plain_scopes l.scopes) (more_elements_list l.next-items)) (more_elements_say l.me (plain_scopes l.scopes) (more_elements_list (drop l.next-index l.next-items)));
}

abbrev pub invariant-designator-loop-selector : goal.invariant-designator-loop-selector
invariant-designator-loop-selector l = record {
  is : selectors_are l.me (plain_scopes l.scopes) (plain_ex l.initial.x) (selectors_list l.selector-items) ≡ selectors_are l.me (plain_scopes l.scopes) (plain_ex l.x) (selectors_list (drop l.selector-index l.selector-items));
  says : Goes l.initial.said.items l.said.items (selectors_say l.me (plain_scopes l.scopes) l.designator.name.span (plain_ex l.initial.x) (selectors_list l.selector-items)) (selectors_say l.me (plain_scopes l.scopes) l.designator.name.span (plain_ex l.x) (selectors_list (drop l.selector-index l.selector-items)));
}

abbrev pub invariant-indices-loop-next : goal.invariant-indices-loop-next
invariant-indices-loop-next l = record {
  is : elements_behind (plain_type_option l.initial.element) (more_exprs_list l.next-items) ≡ elements_behind (plain_type_option l.element) (more_exprs_list (drop l.next-index l.next-items));
  says : Goes l.initial.said.items l.said.items (more_indices_say l.me (plain_scopes l.scopes) l.bracket (or_unknown (plain_type_option l.initial.element)) (more_exprs_list l.next-items)) (more_indices_say l.me (plain_scopes l.scopes) l.bracket (or_unknown (plain_type_option l.element)) (more_exprs_list (drop l.next-index l.next-items)));
}

abbrev pub invariant-arguments-loop-next : goal.invariant-arguments-loop-next
invariant-arguments-loop-next l = record {
  is : given_behind (plain_given l.initial.given) (more_exprs_are l.me (plain_scopes l.scopes) (more_exprs_list l.next-items)) ≡ given_behind (plain_given l.given) (more_exprs_are l.me (plain_scopes l.scopes) (more_exprs_list (drop l.next-index l.next-items)));
  says : Goes l.initial.said.items l.said.items (more_exprs_say l.me (plain_scopes l.scopes) (plain_expected l.initial.expected) (more_exprs_list l.next-items)) (more_exprs_say l.me (plain_scopes l.scopes) (plain_expected l.expected) (more_exprs_list (drop l.next-index l.next-items)));
}
