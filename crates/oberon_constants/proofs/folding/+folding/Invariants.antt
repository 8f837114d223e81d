use Rattle.std.specs.Prelude.{◌≡◌, drop}
use Rattle.oberon_tree.specs.Memory.{addends_list, multipliers_list, more_elements_list, more_exprs_list}
use Rattle.oberon_types.specs.Folding.{parts_built}
use Rattle.oberon_rules.specs.Constants.{more_exprs_const}
use Rattle.oberon_infer.specs.Memory.{plain_scopes}
use Rattle.oberon_constants.proofs.folding.+folding.Given as goal
use Rattle.oberon_constants.proofs.FoldingLaws.{addends_folding, multipliers_folding, elements_folding}

abbrev pub invariant-fold_simple-loop-addend : goal.invariant-fold_simple-loop-addend
invariant-fold_simple-loop-addend l = addends_folding (plain_scopes l.scopes) l.left (addends_list (drop l.addend-index l.addend-items)) ≡ addends_folding (plain_scopes l.scopes) l.initial.left (addends_list l.addend-items)

abbrev pub invariant-fold_term-loop-multiplier : goal.invariant-fold_term-loop-multiplier
invariant-fold_term-loop-multiplier l = multipliers_folding (plain_scopes l.scopes) l.left (multipliers_list (drop l.multiplier-index l.multiplier-items)) ≡ multipliers_folding (plain_scopes l.scopes) l.initial.left (multipliers_list l.multiplier-items)

abbrev pub invariant-fold_elements-loop-next : goal.invariant-fold_elements-loop-next
invariant-fold_elements-loop-next l = elements_folding (plain_scopes l.scopes) l.sofar (more_elements_list (drop l.next-index l.next-items)) ≡ elements_folding (plain_scopes l.scopes) l.initial.sofar (more_elements_list l.next-items)

abbrev pub invariant-are_built-loop-next : goal.invariant-are_built-loop-next
invariant-are_built-loop-next l = parts_built (more_exprs_const (plain_scopes l.scopes) (more_exprs_list l.rest)) ≡ parts_built (more_exprs_const (plain_scopes l.scopes) (more_exprs_list (drop l.next-index l.rest)))
