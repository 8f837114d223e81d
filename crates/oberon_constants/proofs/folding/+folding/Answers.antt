use Rattle.std.specs.Prelude.{◌≡◌, List, IfOk}
use Rattle.std.proofs.Common.{sym, ◌∙◌, ap, subst}
use Rattle.std.proofs.lemmas.List.{at_drop_all}
use Rattle.oberon_tree.specs.declared.expression.Expr.{out-Expr}
use Rattle.oberon_tree.specs.declared.expression.Relation.{Relation, out-Relation}
use Rattle.oberon_tree.specs.declared.expression.Simple.{out-Simple}
use Rattle.oberon_tree.specs.declared.expression.Addend.{Addend}
use Rattle.oberon_tree.specs.declared.expression.Term.{out-Term}
use Rattle.oberon_tree.specs.declared.expression.Multiplier.{Multiplier}
use Rattle.oberon_tree.specs.declared.expression.Factor.{Factor}
use Rattle.oberon_tree.specs.declared.expression.Elements.{out-Elements}
use Rattle.oberon_tree.specs.declared.expression.NextElement.{NextElement}
use Rattle.oberon_tree.specs.declared.expression.Element.{out-Element}
use Rattle.oberon_tree.specs.declared.expression.Exprs.{out-Exprs}
use Rattle.oberon_tree.specs.Memory.{expr_tree, relation_tree, relation_option, simple_tree, addends_list, multipliers_list, factor_tree, more_elements_list}
use Rattle.oberon_tree.specs.Trees.{FactorTree}
use Rattle.oberon_tree.proofs.ExpressionMemory.{set_out, designator_held}
use Rattle.oberon_types.specs.declared.constant.Op.TheVariants as ops
use Rattle.oberon_rules.specs.Constants.{expr_const, simple_const, factor_const}
use Rattle.oberon_infer.specs.Memory.{plain_scopes}
use Rattle.oberon_constants.specs.declared.folding.Folding.{Folding}
use Rattle.oberon_constants.specs.declared.folding.SetFolding.{SetFolding}
use Rattle.oberon_constants.specs.Foldings.{folding_of, named_folding, unary_folding, relation_folding, related_folding, signed_folding, range_folding, set_folding, called_with_one, called_with_two, called_with_more}
use Rattle.oberon_constants.proofs.FoldingMemory.{related_out, expr_folds, addend_loop, simple_folds, multiplier_loop, term_folds, element_loop, upper_step, only_step, elements_fold_to, bare_name, one_selector, more_selected, call_one_out, call_two_out, call_more_out, built_loop}
use Rattle.oberon_constants.proofs.folding.+folding.Goals as goal
use Rattle.oberon_constants.proofs.FoldingLaws.{addends_folding, multipliers_folding, elements_folding}

pub fold_expr-returns-in-Some : goal.fold_expr-returns-in-Some
fold_expr-returns-in-Some t c =
    let s = plain_scopes c.args.scopes.now in
    let e = c.args.e.now in
    let left = folding_of (simple_const s (simple_tree (out-Expr e).left)) in
    let P : Folding → Type 0 = λ x. IfOk c.fold_relation.result (λ v. v ≡ x) in
    subst P (ap (λ (f : Folding). related_folding s f (relation_tree c.deref.result.now)) c.in_ok-left.ensures
    ∙ ap (λ (r : Relation). related_folding s left (relation_tree r)) c.deref.ensures
    ∙ ap (λ o. related_folding s left (relation_option o)) (sym c.in-Some.is)
    ∙ expr_folds s e) c.fold_relation.ensures

pub fold_expr-returns-in-None : goal.fold_expr-returns-in-None
fold_expr-returns-in-None t c =
    let s = plain_scopes c.args.scopes.now in
    let e = c.args.e.now in
    let left = folding_of (simple_const s (simple_tree (out-Expr e).left)) in
    c.in_ok-left.ensures ∙ ap (λ o. related_folding s left (relation_option o)) (sym c.in-None.is) ∙ expr_folds s e

pub fold_relation-returns : goal.fold_relation-returns
fold_relation-returns t c =
    c.related.ensures ∙ ap (relation_folding (out-Relation c.args.relation.now).operator c.args.left) c.in_ok-right.ensures ∙ related_out (plain_scopes c.args.scopes.now) c.args.left c.args.relation.now

pub fold_simple-loop-addend-preserved : goal.fold_simple-loop-addend-preserved
fold_simple-loop-addend-preserved t c =
    addend_loop (plain_scopes c.args.scopes.now) _ c.loop-addend.addend-index c.addend-item.result _ _ _ _ c.loop-addend-test.true c.addend-item.is c.add_op.ensures c.in_ok-right.ensures c.binary-left.ensures ∙ c.loop-addend.invariant

pub fold_simple-returns : goal.fold_simple-returns
fold_simple-returns t c =
    let s = plain_scopes c.args.scopes.now in
    let x = c.args.simple.now in
    sym (at_drop_all (λ (ys : List Addend). addends_folding s c.loop-addend.left (addends_list ys)) _ c.loop-addend.addend-index c.loop-addend-test.false)
    ∙ c.loop-addend.invariant
    ∙ ap (λ (ys : List Addend). addends_folding s c.signed-left.result (addends_list ys)) c.deref-addend-items.ensures.value
    ∙ ap (λ (f : Folding). addends_folding s f (addends_list (out-Simple x).rest.items)) (c.signed-left.ensures ∙ ap (signed_folding (out-Simple x).sign) c.in_ok-first.ensures)
    ∙ simple_folds s x

pub fold_term-loop-multiplier-preserved : goal.fold_term-loop-multiplier-preserved
fold_term-loop-multiplier-preserved t c =
    multiplier_loop (plain_scopes c.args.scopes.now) _ c.loop-multiplier.multiplier-index c.multiplier-item.result _ _ _ _ c.loop-multiplier-test.true c.multiplier-item.is c.mul_op.ensures c.in_ok-right.ensures c.binary-left.ensures ∙ c.loop-multiplier.invariant

pub fold_term-returns : goal.fold_term-returns
fold_term-returns t c =
    let s = plain_scopes c.args.scopes.now in
    let x = c.args.term.now in
    sym (at_drop_all (λ (ys : List Multiplier). multipliers_folding s c.loop-multiplier.left (multipliers_list ys)) _ c.loop-multiplier.multiplier-index c.loop-multiplier-test.false)
    ∙ c.loop-multiplier.invariant
    ∙ ap (λ (ys : List Multiplier). multipliers_folding s c.in_ok-left.left (multipliers_list ys)) c.deref-multiplier-items.ensures.value
    ∙ ap (λ (f : Folding). multipliers_folding s f (multipliers_list (out-Term x).rest.items)) c.in_ok-left.ensures
    ∙ term_folds s x

pub fold_factor-returns-in-Some : goal.fold_factor-returns-in-Some
fold_factor-returns-in-Some t c =
    rw (c.in-Set.is, set_out c.in-Set.set, c.in-Some.is) (rw c.deref.ensures at c.fold_elements.ensures)

pub fold_factor-returns-in-None : goal.fold_factor-returns-in-None
fold_factor-returns-in-None t c =
    rw (c.in-Set.is, set_out c.in-Set.set, c.in-None.is) c.known-in-None.ensures

pub fold_factor-returns-in-Designator : goal.fold_factor-returns-in-Designator
fold_factor-returns-in-Designator t c =
    let s = plain_scopes c.args.scopes.now in
    rw c.in-Designator.is (subst (λ (x : FactorTree). IfOk c.fold_designator.result (λ f. f ≡ folding_of (factor_const s x))) (sym (designator_held c.in-Designator.designator)) c.fold_designator.ensures)

pub fold_factor-returns-in-Group : goal.fold_factor-returns-in-Group
fold_factor-returns-in-Group t c = rw c.in-Group.is (rw c.deref-in-Group.ensures at c.fold_expr.ensures)

pub fold_factor-returns-in_ok-part-in-Not : goal.fold_factor-returns-in_ok-part-in-Not
fold_factor-returns-in_ok-part-in-Not t c =
    let s = plain_scopes c.args.scopes.now in
    rw c.in-Not.is (c.unary.ensures ∙ ap (unary_folding ops.Not) (c.in_ok-part-in-Not.ensures ∙ ap (λ (y : Factor). folding_of (factor_const s (factor_tree y))) c.deref-in-Not.ensures))

pub fold_designator-returns-in-empty : goal.fold_designator-returns-in-empty
fold_designator-returns-in-empty t c =
    let s = plain_scopes c.args.scopes.now in
    let x = c.args.designator.now.name.name in
    let P : Folding → Type 0 = λ y. IfOk c.fold_named.result (λ f. f ≡ y) in
    subst P (ap named_folding c.look_up.ensures ∙ bare_name s x c.as_slice.result.now _ c.as_slice.ensures.value c.in-empty.len_below) c.fold_named.ensures

pub fold_designator-returns-in-len1 : goal.fold_designator-returns-in-len1
fold_designator-returns-in-len1 t c =
    let s = plain_scopes c.args.scopes.now in
    let x = c.args.designator.now.name.name in
    let P : Folding → Type 0 = λ y. IfOk c.fold_selected.result (λ f. f ≡ y) in
    subst P (one_selector s x c.as_slice.result.now _ c.selector-item.result c.as_slice.ensures.value c.in-len1.len_at_least c.in-len1.len_below c.selector-item.is) c.fold_selected.ensures

pub fold_designator-returns-in_default : goal.fold_designator-returns-in_default
fold_designator-returns-in_default t c =
    c.nothing.ensures ∙ more_selected (plain_scopes c.args.scopes.now) c.args.designator.now.name.name c.as_slice.result.now _ c.as_slice.ensures.value c.in_default.len_at_least

pub fold_elements-loop-next-preserved : goal.fold_elements-loop-next-preserved
fold_elements-loop-next-preserved t c =
    element_loop (plain_scopes c.args.scopes.now) _ c.loop-next.next-index c.next-item.result _ _ c.loop-next-test.true c.next-item.is c.in_ok-sofar-2.ensures ∙ c.loop-next.invariant

pub fold_elements-returns : goal.fold_elements-returns
fold_elements-returns t c =
    let s = plain_scopes c.args.scopes.now in
    let x = c.args.elements.now in
    c.set_of.ensures
    ∙ ap set_folding (
    sym (at_drop_all (λ (ys : List NextElement). elements_folding s c.loop-next.sofar (more_elements_list ys)) _ c.loop-next.next-index c.loop-next-test.false)
    ∙ c.loop-next.invariant
    ∙ ap (λ (ys : List NextElement). elements_folding s c.in_ok-sofar.sofar (more_elements_list ys)) c.deref-next-items.ensures.value
    ∙ ap (λ (r : SetFolding). elements_folding s r (more_elements_list (out-Elements x).rest.items)) c.in_ok-sofar.ensures)
    ∙ elements_fold_to s x

pub fold_element-returns-in_ok-last-in-Some : goal.fold_element-returns-in_ok-last-in-Some
fold_element-returns-in_ok-last-in-Some t c =
    let s = plain_scopes c.args.scopes.now in
    let x = c.args.element.now in
    c.with_ends.ensures
    ∙ ap (λ (f : Folding). range_folding c.args.sofar f c.in_ok-last-in-Some.last) c.in_ok-first.ensures
    ∙ ap (range_folding c.args.sofar (folding_of (expr_const s (expr_tree (out-Element x).first)))) c.in_ok-last-in-Some.ensures
    ∙ upper_step s c.args.sofar x c.in-Some.upper c.in-Some.is

pub fold_element-returns-in-None : goal.fold_element-returns-in-None
fold_element-returns-in-None t c =
    let s = plain_scopes c.args.scopes.now in
    let x = c.args.element.now in
    c.with_one.ensures
    ∙ ap (λ (f : Folding). range_folding c.args.sofar f f) c.in_ok-first.ensures
    ∙ only_step s c.args.sofar x c.in-None.is

pub are_built-loop-next-preserved : goal.are_built-loop-next-preserved
are_built-loop-next-preserved t c =
    let s = plain_scopes c.args.scopes.now in
    c.loop-next.invariant ∙ built_loop s c.args.rest.now c.loop-next.next-index c.next-item.result c.loop-next-test.true c.next-item.is (sym (ap (λ (f : Folding). f.built) c.in_ok-part.ensures) ∙ sym c.is_built.ensures ∙ c.if-not-is_built.false)

pub fold_call-returns-in-empty : goal.fold_call-returns-in-empty
fold_call-returns-in-empty t c =
    let s = plain_scopes c.args.scopes.now in
    c.called_with_one.ensures ∙ ap (called_with_one c.args.function) c.in_ok-first.ensures ∙ call_one_out s c.args.function c.args.arguments.now c.as_slice.result.now c.as_slice.ensures.value c.in-empty.len_below

pub fold_call-returns-in_ok-by-in-len1 : goal.fold_call-returns-in_ok-by-in-len1
fold_call-returns-in_ok-by-in-len1 t c =
    let s = plain_scopes c.args.scopes.now in
    let e = folding_of (expr_const s (expr_tree (out-Exprs c.args.arguments.now).first)) in
    c.called_with_two.ensures
    ∙ ap (λ (f : Folding). called_with_two c.args.function f c.in_ok-by-in-len1.by) c.in_ok-first.ensures
    ∙ ap (called_with_two c.args.function e) c.in_ok-by-in-len1.ensures
    ∙ call_two_out s c.args.function c.args.arguments.now c.as_slice.result.now c.by-item.result c.as_slice.ensures.value c.in-len1.len_at_least c.in-len1.len_below c.by-item.is

pub fold_call-returns-in_ok-rest-in_default : goal.fold_call-returns-in_ok-rest-in_default
fold_call-returns-in_ok-rest-in_default t c =
    let s = plain_scopes c.args.scopes.now in
    let e = folding_of (expr_const s (expr_tree (out-Exprs c.args.arguments.now).first)) in
    c.called_with_more.ensures
    ∙ ap (λ (f : Folding). called_with_more c.args.function f c.in_ok-rest-in_default.rest) c.in_ok-first.ensures
    ∙ ap (called_with_more c.args.function e) c.in_ok-rest-in_default.ensures
    ∙ call_more_out s c.args.function c.args.arguments.now c.as_slice.result.now c.as_slice.ensures.value c.in_default.len_at_least
