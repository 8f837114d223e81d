use Rattle.std.specs.Prelude.{◌≡◌, ◌&&◌, not, length, Option, refl}
use Rattle.ob_text.specs.declared.code.Code.TheVariants as codes_of
use Rattle.std.proofs.Common.{ap, sym, ◌∙◌}
use Rattle.std.specs.declared.alloc.Global.{Global}
use Rattle.std.specs.declared.boxed.Box.{Box}
use Rattle.oberon_tree.specs.declared.expression.Elements.{Elements, out-Elements}
use Rattle.oberon_tree.specs.declared.expression.Expr.{Expr}
use Rattle.oberon_tree.specs.declared.expression.Exprs.{Exprs}
use Rattle.oberon_tree.specs.declared.expression.Relation.{out-Relation}
use Rattle.oberon_tree.specs.declared.expression.Factor.{Factor}
use Rattle.oberon_tree.specs.declared.expression.Selector.{Selector}
use Rattle.oberon_tree.specs.FirstSpans.{first_of_expr, first_of_factor}
use Rattle.oberon_tree.specs.Memory.{factor_tree, designator_tree, element_tree, selector_tree, exprs_tree, arguments_option, expr_tree, relation_tree, simple_tree, set_tree}
use Rattle.oberon_tree.specs.Trees.{negation_factor, index_selector}
use Rattle.oberon_tree.proofs.ExpressionMemory.{designator_held, call_held}
use Rattle.oberon_types.specs.Types.{set_ty, string_ty}
use Rattle.oberon_rules.specs.Scopes.{row}
use Rattle.oberon_rules.specs.Operators.{not_fits, is_bad}
use Rattle.oberon_rules.specs.Expressions.{designator_is, factor_is, selected, indexed_type, or_unknown, element_type, exprs_are, arguments_are, a_value, ty_of, class_of, value_if, outcome_is, is_whole, ex_of, expr_is, relation_is}
use Rattle.oberon_rules.specs.ExpressionRules.{expr_says, factor_says, designator_says, selector_says, element_says, value_says, member_rows, indexed, indices_say}
use Rattle.oberon_infer.specs.Given.{plain_given, none_given, given_behind}
use Rattle.oberon_infer.specs.Memory.{plain_scopes, plain_ex, plain_type, plain_type_option, plain_wanted_option, plain_expected, plain_expected_option}
use Rattle.oberon_infer.specs.Parts.{indexed_part, related_is, member_selected}
use Rattle.oberon_infer.specs.Sets.{is_whole_element, is_whole_set, set_says}
use Rattle.oberon_infer.proofs.AddsLaws.{adds_as, adds_only, is_as, adds_none, adds_then}
use Rattle.oberon_infer.proofs.ExpressionLaws.{expr_alone, expr_said, relation_said, negation_said, expr_done, relation_done, value_said, set_empty, element_single}
use Rattle.oberon_infer.proofs.InferLaws.{addend_turn, addend_turn_said, simple_end, simple_end_said, multiplier_turn, multiplier_turn_said, term_end, term_end_said, element_turn, element_turn_said, set_end, set_end_said, single_said, range_said, selector_turn, selector_turn_said, index_turn, index_turn_said, indices_end, indices_end_said, call_said_with, argument_turn, argument_turn_said, arguments_end, arguments_end_said, range_whole, designator_end, designator_end_said, call_said_without}
use Rattle.oberon_infer.proofs.PartLaws.{index_parts, call_parts, none_is_bad, set_parts, set_speaks, member_parts}
use Rattle.oberon_infer.proofs.infer.+expression.Goals.{elements-then-whole, elements-else-whole}
use Rattle.oberon_infer.proofs.infer.+expression.Goals as goal

-- ---- expressions and relations

pub expression-returns-in_ok-add_value_row-in-Some-clause-says :
    goal.expression-returns-in_ok-add_value_row-in-Some-clause-says
expression-returns-in_ok-add_value_row-in-Some-clause-says t c =
    expr_said c.args.me.now (plain_scopes c.args.scopes.now) c.args.e.now c.in-Some.part c.deref.result.now (plain_ex c.in_ok-x.x) c.first_span.result c.relation.result c.relation.new.said.items
    c.in-Some.is c.deref.ensures c.in_ok-x.ensures.is c.first_span.ensures.value
    c.in_ok-x.ensures.says c.in_ok-add_value_row-in-Some.ensures c.relation.ensures.says

pub expression-returns-in-None-clause-says : goal.expression-returns-in-None-clause-says
expression-returns-in-None-clause-says t c =
    adds_as c.in_ok-x.ensures.says (λ rest. sym (ap (λ y. expr_says c.args.me.now (plain_scopes c.args.scopes.now) y rest) (expr_alone c.args.e.now c.in-None.is)))

pub relation-returns-clause-says : goal.relation-returns-clause-says
relation-returns-clause-says t c =
    relation_said c.args.me.now (plain_scopes c.args.scopes.now) c.args.part.now (plain_ex c.args.x) (plain_ex c.in_ok-y.y) c.related.result c.related.new.said.items
    c.in_ok-y.ensures.is c.in_ok-y.ensures.says c.related.ensures.says

pub expression-returns-in_ok-add_value_row-in-Some-clause-is :
    goal.expression-returns-in_ok-add_value_row-in-Some-clause-is
expression-returns-in_ok-add_value_row-in-Some-clause-is t c =
    let me = c.args.me.now in
    let s = plain_scopes c.args.scopes.now in
    is_as c.relation.result plain_ex (relation_is me s (plain_ex c.in_ok-x.x) (relation_tree c.deref.result.now)) (expr_is me s (expr_tree c.args.e.now)) c.relation.ensures.is
    (expr_done me s c.args.e.now c.in-Some.part c.deref.result.now (plain_ex c.in_ok-x.x) c.in-Some.is c.deref.ensures c.in_ok-x.ensures.is)

pub expression-returns-in-None-clause-is : goal.expression-returns-in-None-clause-is
expression-returns-in-None-clause-is t c =
    c.in_ok-x.ensures.is ∙ sym (ap (expr_is c.args.me.now (plain_scopes c.args.scopes.now)) (expr_alone c.args.e.now c.in-None.is))

pub relation-returns-clause-is : goal.relation-returns-clause-is
relation-returns-clause-is t c =
    let me = c.args.me.now in
    let s = plain_scopes c.args.scopes.now in
    let r = c.args.part.now in
    is_as c.related.result plain_ex (related_is s (plain_ex c.args.x) (out-Relation r).operator (simple_tree (out-Relation r).right) (plain_ex c.in_ok-y.y)) (relation_is me s (plain_ex c.args.x) (relation_tree r)) c.related.ensures.is
    (relation_done me s r (plain_ex c.args.x) (plain_ex c.in_ok-y.y) c.in_ok-y.ensures.is)

-- ---- simple expressions

pub simple-loop-addend-init : goal.simple-loop-addend-init
simple-loop-addend-init t c = record { is = refl; says = record { goes = λ rest. refl } }

pub simple-loop-addend-preserved : goal.simple-loop-addend-preserved
simple-loop-addend-preserved t c = record {
  is = addend_turn c.args.me.now (plain_scopes c.args.scopes.now) c.deref-addend-items.result.now c.loop-addend.addend-index c.addend-item.result _ (plain_ex c.loop-addend.x) (plain_ex c.in_ok-y.y) (plain_ex c.in_ok-x-2.x)
      c.loop-addend-test.true c.addend-item.is c.in_ok-y.ensures.is c.in_ok-x-2.ensures.is c.loop-addend.invariant.is;
  says = addend_turn_said c.args.me.now (plain_scopes c.args.scopes.now) c.deref-addend-items.result.now c.loop-addend.addend-index c.addend-item.result (plain_ex c.loop-addend.x) (plain_ex c.in_ok-y.y) (plain_ex c.in_ok-x-2.x) c.first_span-in-loop-addend.result
      c.loop-addend-test.true c.addend-item.is c.in_ok-y.ensures.is c.first_span-in-loop-addend.ensures.value c.in_ok-x-2.ensures.is
      c.loop-addend.invariant.says c.in_ok-y.ensures.says c.in_ok-x-2.ensures.says;
}

pub simple-returns-clause-is : goal.simple-returns-clause-is
simple-returns-clause-is t c =
    simple_end c.args.me.now (plain_scopes c.args.scopes.now) c.args.simple.now c.deref-addend-items.result.now c.loop-addend.addend-index (plain_ex c.in_ok-first.first) (plain_ex c.in_ok-x.x) (plain_ex c.loop-addend.x)
    c.deref-addend-items.ensures.value c.loop-addend-test.false c.in_ok-first.ensures.is c.in_ok-x.ensures.is c.loop-addend.invariant.is

pub simple-returns-clause-says : goal.simple-returns-clause-says
simple-returns-clause-says t c =
    simple_end_said c.args.me.now (plain_scopes c.args.scopes.now) c.args.simple.now c.deref-addend-items.result.now c.as_slice.result.now c.loop-addend.addend-index c.is_alone-alone.result (plain_ex c.in_ok-first.first) (plain_ex c.in_ok-x.x) (plain_ex c.loop-addend.x) c.first_span.result
    c.deref-addend-items.ensures.value c.as_slice.ensures.value c.loop-addend-test.false c.is_alone-alone.ensures c.in_ok-first.ensures.is c.in_ok-x.ensures.is c.first_span.ensures.value
    c.in_ok-first.ensures.says c.in_ok-add_operand_rows.ensures c.in_ok-x.ensures.says c.loop-addend.invariant.says

-- ---- terms and factors

pub term-loop-multiplier-init : goal.term-loop-multiplier-init
term-loop-multiplier-init t c = record { is = refl; says = record { goes = λ rest. refl } }

pub term-loop-multiplier-preserved : goal.term-loop-multiplier-preserved
term-loop-multiplier-preserved t c = record {
  is = multiplier_turn c.args.me.now (plain_scopes c.args.scopes.now) c.deref-multiplier-items.result.now c.loop-multiplier.multiplier-index c.multiplier-item.result _ (plain_ex c.loop-multiplier.x) (plain_ex c.in_ok-y.y) (plain_ex c.in_ok-x-2.x)
      c.loop-multiplier-test.true c.multiplier-item.is c.in_ok-y.ensures.is c.in_ok-x-2.ensures.is c.loop-multiplier.invariant.is;
  says = multiplier_turn_said c.args.me.now (plain_scopes c.args.scopes.now) c.deref-multiplier-items.result.now c.loop-multiplier.multiplier-index c.multiplier-item.result (plain_ex c.loop-multiplier.x) (plain_ex c.in_ok-y.y) (plain_ex c.in_ok-x-2.x) c.first_span-in-loop-multiplier.result
      c.loop-multiplier-test.true c.multiplier-item.is c.in_ok-y.ensures.is c.first_span-in-loop-multiplier.ensures.value c.in_ok-x-2.ensures.is
      c.loop-multiplier.invariant.says c.in_ok-y.ensures.says c.in_ok-x-2.ensures.says;
}

pub term-returns-clause-is : goal.term-returns-clause-is
term-returns-clause-is t c =
    term_end c.args.me.now (plain_scopes c.args.scopes.now) c.args.term.now c.deref-multiplier-items.result.now c.loop-multiplier.multiplier-index (plain_ex c.in_ok-x.x) (plain_ex c.loop-multiplier.x)
    c.deref-multiplier-items.ensures.value c.loop-multiplier-test.false c.in_ok-x.ensures.is c.loop-multiplier.invariant.is

pub term-returns-clause-says : goal.term-returns-clause-says
term-returns-clause-says t c =
    term_end_said c.args.me.now (plain_scopes c.args.scopes.now) c.args.term.now c.deref-multiplier-items.result.now c.as_slice.result.now c.loop-multiplier.multiplier-index (not c.has_multipliers-alone.result) (plain_ex c.in_ok-x.x) (plain_ex c.loop-multiplier.x) c.first_span.result
    c.deref-multiplier-items.ensures.value c.as_slice.ensures.value c.loop-multiplier-test.false (ap not c.has_multipliers-alone.ensures) c.in_ok-x.ensures.is c.first_span.ensures.value
    c.in_ok-x.ensures.says c.in_ok-add_operand_rows.ensures c.loop-multiplier.invariant.says

pub factor-returns-in-Integer-clause-is : goal.factor-returns-in-Integer-clause-is
factor-returns-in-Integer-clause-is t c =
    sym (ap (λ (f : Factor). factor_is c.args.me.now (plain_scopes c.args.scopes.now) (factor_tree f)) c.in-Integer.is)

pub factor-returns-in-Integer-clause-says : goal.factor-returns-in-Integer-clause-says
factor-returns-in-Integer-clause-says t c =
    adds_as (adds_none c.args.said.now.items) (λ rest. sym (ap (λ (f : Factor). factor_says c.args.me.now (plain_scopes c.args.scopes.now) (factor_tree f) rest) c.in-Integer.is))

pub factor-returns-in-Str-clause-is : goal.factor-returns-in-Str-clause-is
factor-returns-in-Str-clause-is t c =
    ap (λ x. a_value (string_ty (length x))) c.as_slice.ensures
    ∙ sym (ap (λ (f : Factor). factor_is c.args.me.now (plain_scopes c.args.scopes.now) (factor_tree f)) c.in-Str.is)

pub factor-returns-in-Str-clause-says : goal.factor-returns-in-Str-clause-says
factor-returns-in-Str-clause-says t c =
    adds_as (adds_none c.args.said.now.items) (λ rest. sym (ap (λ (f : Factor). factor_says c.args.me.now (plain_scopes c.args.scopes.now) (factor_tree f) rest) c.in-Str.is))

pub factor-returns-in-True-clause-is : goal.factor-returns-in-True-clause-is
factor-returns-in-True-clause-is t c =
    sym (ap (λ (f : Factor). factor_is c.args.me.now (plain_scopes c.args.scopes.now) (factor_tree f)) c.in-True.is)

pub factor-returns-in-True-clause-says : goal.factor-returns-in-True-clause-says
factor-returns-in-True-clause-says t c =
    adds_as (adds_none c.args.said.now.items) (λ rest. sym (ap (λ (f : Factor). factor_says c.args.me.now (plain_scopes c.args.scopes.now) (factor_tree f) rest) c.in-True.is))

pub factor-returns-in-False-clause-is : goal.factor-returns-in-False-clause-is
factor-returns-in-False-clause-is t c =
    sym (ap (λ (f : Factor). factor_is c.args.me.now (plain_scopes c.args.scopes.now) (factor_tree f)) c.in-False.is)

pub factor-returns-in-False-clause-says : goal.factor-returns-in-False-clause-says
factor-returns-in-False-clause-says t c =
    adds_as (adds_none c.args.said.now.items) (λ rest. sym (ap (λ (f : Factor). factor_says c.args.me.now (plain_scopes c.args.scopes.now) (factor_tree f) rest) c.in-False.is))

pub factor-returns-in_ok-whole-in-Set-clause-is :
    goal.factor-returns-in_ok-whole-in-Set-clause-is
factor-returns-in_ok-whole-in-Set-clause-is t c =
    let me = c.args.me.now in
    let s = plain_scopes c.args.scopes.now in
    c.value_if.ensures ∙ ap (λ b. value_if b set_ty) c.in_ok-whole-in-Set.ensures.is ∙ set_parts me s (set_tree c.in-Set.set) ∙ sym (ap (λ (f : Factor). factor_is me s (factor_tree f)) c.in-Set.is)

pub factor-returns-in_ok-whole-in-Set-clause-says :
    goal.factor-returns-in_ok-whole-in-Set-clause-says
factor-returns-in_ok-whole-in-Set-clause-says t c =
    let me = c.args.me.now in
    let s = plain_scopes c.args.scopes.now in
    adds_as c.in_ok-whole-in-Set.ensures.says (λ rest. set_speaks me s (set_tree c.in-Set.set) rest ∙ sym (ap (λ (f : Factor). factor_says me s (factor_tree f) rest) c.in-Set.is))

pub factor-returns-in_ok-add_value_row-in-Group-clause-is :
    goal.factor-returns-in_ok-add_value_row-in-Group-clause-is
factor-returns-in_ok-add_value_row-in-Group-clause-is t c =
    let me = c.args.me.now in
    let s = plain_scopes c.args.scopes.now in
    ap a_value (c.ty.ensures ∙ ap ty_of (c.in_ok-x-in-Group.ensures.is ∙ ap (λ (e : Expr). expr_is me s (expr_tree e)) c.deref.ensures))
    ∙ sym (ap (λ (f : Factor). factor_is me s (factor_tree f)) c.in-Group.is)

pub factor-returns-in_ok-add_value_row-in-Group-clause-says :
    goal.factor-returns-in_ok-add_value_row-in-Group-clause-says
factor-returns-in_ok-add_value_row-in-Group-clause-says t c =
    let me = c.args.me.now in
    let s = plain_scopes c.args.scopes.now in
    adds_as (value_said me s (expr_tree c.deref.result.now) (plain_ex c.in_ok-x-in-Group.x) c.first_span.result c.in_ok-x-in-Group.ensures.is
    (c.first_span.ensures.value ∙ ap (λ (e : Expr). first_of_expr (expr_tree e)) (c.deref-in-Group.ensures ∙ sym c.deref.ensures))
    c.in_ok-x-in-Group.ensures.says c.in_ok-add_value_row-in-Group.ensures) (λ rest.
    ap (λ (e : Expr). value_says me s (expr_tree e) rest) c.deref.ensures ∙ sym (ap (λ (f : Factor). factor_says me s (factor_tree f) rest) c.in-Group.is))

pub factor-returns-in_ok-x-in-Not-clause-is : goal.factor-returns-in_ok-x-in-Not-clause-is
factor-returns-in_ok-x-in-Not-clause-is t c =
    let me = c.args.me.now in
    let s = plain_scopes c.args.scopes.now in
    is_as c.negated.result plain_ex (outcome_is (not_fits (class_of (plain_ex c.in_ok-x-in-Not.x)))) (factor_is me s (factor_tree c.args.factor.now)) c.negated.ensures.is
    (ap (λ y. outcome_is (not_fits (class_of y))) (c.in_ok-x-in-Not.ensures.is ∙ ap (λ (f : Factor). factor_is me s (factor_tree f)) c.deref-in-Not.ensures)
    ∙ sym (ap (λ (f : Factor). factor_is me s (factor_tree f)) c.in-Not.is))

pub factor-returns-in-Designator-clause-is : goal.factor-returns-in-Designator-clause-is
factor-returns-in-Designator-clause-is t c =
    is_as c.designator.result plain_ex (designator_is c.args.me.now (plain_scopes c.args.scopes.now) (designator_tree c.in-Designator.designator)) (factor_is c.args.me.now (plain_scopes c.args.scopes.now) (factor_tree c.args.factor.now)) c.designator.ensures.is
    (sym (ap (λ (f : Factor). factor_is c.args.me.now (plain_scopes c.args.scopes.now) (factor_tree f)) c.in-Designator.is ∙ ap (factor_is c.args.me.now (plain_scopes c.args.scopes.now)) (designator_held c.in-Designator.designator)))

pub factor-returns-in-Designator-clause-says : goal.factor-returns-in-Designator-clause-says
factor-returns-in-Designator-clause-says t c =
    adds_only c.designator.result c.args.said.now.items c.designator.new.said.items (designator_says c.args.me.now (plain_scopes c.args.scopes.now) (designator_tree c.in-Designator.designator)) (factor_says c.args.me.now (plain_scopes c.args.scopes.now) (factor_tree c.args.factor.now)) c.designator.ensures.says (λ rest.
    sym (ap (λ (f : Factor). factor_says c.args.me.now (plain_scopes c.args.scopes.now) (factor_tree f) rest) c.in-Designator.is ∙ ap (λ y. factor_says c.args.me.now (plain_scopes c.args.scopes.now) y rest) (designator_held c.in-Designator.designator)))

pub factor-returns-in_ok-x-in-Not-clause-says : goal.factor-returns-in_ok-x-in-Not-clause-says
factor-returns-in_ok-x-in-Not-clause-says t c =
    let operand = factor_tree c.deref-in-Not.result.now in
    adds_only c.negated.result c.args.said.now.items c.negated.new.said.items (factor_says c.args.me.now (plain_scopes c.args.scopes.now) (negation_factor c.in-Not.tilde operand)) (factor_says c.args.me.now (plain_scopes c.args.scopes.now) (factor_tree c.args.factor.now))
    (negation_said c.args.me.now (plain_scopes c.args.scopes.now) operand c.in-Not.tilde c.first_span-in-Not.result (plain_ex c.in_ok-x-in-Not.x) c.negated.result c.negated.new.said.items
    c.in_ok-x-in-Not.ensures.is
    (c.first_span-in-Not.ensures.value ∙ ap (λ (f : Factor). first_of_factor (factor_tree f)) (c.deref-in-Not-2.ensures ∙ sym c.deref-in-Not.ensures))
    c.in_ok-x-in-Not.ensures.says c.negated.ensures.says) (λ rest.
    sym (ap (λ (f : Factor). factor_says c.args.me.now (plain_scopes c.args.scopes.now) (factor_tree f) rest) c.in-Not.is ∙ ap (λ (f : Factor). factor_says c.args.me.now (plain_scopes c.args.scopes.now) (negation_factor c.in-Not.tilde (factor_tree f)) rest) (sym c.deref-in-Not.ensures)))

-- ---- sets

pub elements-returns-in-None-clause-is : goal.elements-returns-in-None-clause-is
elements-returns-in-None-clause-is t c =
    sym (ap (is_whole_set c.args.me.now (plain_scopes c.args.scopes.now)) (set_empty c.args.set.now c.in-None.is))

pub elements-returns-in-None-clause-says : goal.elements-returns-in-None-clause-says
elements-returns-in-None-clause-says t c =
    adds_as (adds_none c.args.said.now.items) (λ rest. sym (ap (λ y. set_says c.args.me.now (plain_scopes c.args.scopes.now) y rest) (set_empty c.args.set.now c.in-None.is)))

pub element-returns-then-whole-clause-is : goal.element-returns-then-whole-clause-is
element-returns-then-whole-clause-is t c =
    sym (ap (λ b. b && c.in_ok-fits-in-Some.fits) c.if-whole.true)
    ∙ range_whole c.args.me.now (plain_scopes c.args.scopes.now) c.args.element.now c.in-Some.upper (plain_ex c.in_ok-x.x) (plain_ex c.in_ok-y-in-Some.y) c.in_ok-whole.whole c.in_ok-fits-in-Some.fits
    c.in-Some.is c.in_ok-x.ensures.is c.in_ok-y-in-Some.ensures.is c.in_ok-whole.ensures.is c.in_ok-fits-in-Some.ensures.is

pub element-returns-else-whole-clause-is : goal.element-returns-else-whole-clause-is
element-returns-else-whole-clause-is t c =
    c.if-whole.false ∙ sym (ap (λ b. b && c.in_ok-fits-in-Some.fits) c.if-whole.false)
    ∙ range_whole c.args.me.now (plain_scopes c.args.scopes.now) c.args.element.now c.in-Some.upper (plain_ex c.in_ok-x.x) (plain_ex c.in_ok-y-in-Some.y) c.in_ok-whole.whole c.in_ok-fits-in-Some.fits
    c.in-Some.is c.in_ok-x.ensures.is c.in_ok-y-in-Some.ensures.is c.in_ok-whole.ensures.is c.in_ok-fits-in-Some.ensures.is

pub element-returns-in-None-clause-is : goal.element-returns-in-None-clause-is
element-returns-in-None-clause-is t c =
    c.in_ok-whole.ensures.is ∙ ap (λ z. is_whole (ty_of z)) c.in_ok-x.ensures.is
    ∙ sym (ap (is_whole_element c.args.me.now (plain_scopes c.args.scopes.now)) (element_single c.args.element.now c.in-None.is))

pub elements-loop-next-init : goal.elements-loop-next-init
elements-loop-next-init t c = record { is = refl; says = record { goes = λ rest. refl } }

pub elements-loop-next-preserved : goal.elements-loop-next-preserved
elements-loop-next-preserved t c =
    let both : c.if-whole.whole ≡ (c.loop-next.whole && c.in_ok-fits-in-Some.fits) = elim c.if-whole.branch [
      | elements-then-whole w ↦ w.whole-is ∙ ap (λ b. b && c.in_ok-fits-in-Some.fits) (sym w.if-whole.true)
      | elements-else-whole w ↦ w.whole-is ∙ w.if-whole.false ∙ ap (λ b. b && c.in_ok-fits-in-Some.fits) (sym w.if-whole.false)
    ] in
    record {
      is = element_turn c.args.me.now (plain_scopes c.args.scopes.now) c.deref-next-items.result.now c.loop-next.next-index c.next-item.result _ c.loop-next.whole c.if-whole.whole c.in_ok-fits-in-Some.fits
          c.loop-next-test.true c.next-item.is c.in_ok-fits-in-Some.ensures.is both c.loop-next.invariant.is;
      says = element_turn_said c.args.me.now (plain_scopes c.args.scopes.now) c.deref-next-items.result.now c.loop-next.next-index c.next-item.result
          c.loop-next-test.true c.next-item.is c.loop-next.invariant.says c.in_ok-fits-in-Some.ensures.says;
    }

pub elements-returns-after-loop-next-clause-is : goal.elements-returns-after-loop-next-clause-is
elements-returns-after-loop-next-clause-is t c =
    set_end c.args.me.now (plain_scopes c.args.scopes.now) c.args.set.now c.in-Some.elements c.deref-in-Some.result.now c.deref-next-items.result.now c.loop-next.next-index c.in_ok-whole-in-Some.whole c.loop-next.whole
    c.in-Some.is c.deref-in-Some.ensures c.deref-next-items.ensures.value c.loop-next-test.false
    (c.in_ok-whole-in-Some.ensures.is ∙ ap (λ (es : Elements). is_whole_element c.args.me.now (plain_scopes c.args.scopes.now) (element_tree (out-Elements es).first)) (c.deref.ensures ∙ sym c.deref-in-Some.ensures))
    c.loop-next.invariant.is

pub elements-returns-after-loop-next-clause-says :
    goal.elements-returns-after-loop-next-clause-says
elements-returns-after-loop-next-clause-says t c =
    set_end_said c.args.me.now (plain_scopes c.args.scopes.now) c.args.set.now c.in-Some.elements c.deref-in-Some.result.now c.deref-next-items.result.now c.loop-next.next-index
    c.in-Some.is c.deref-in-Some.ensures c.deref-next-items.ensures.value c.loop-next-test.false
    (adds_as c.in_ok-whole-in-Some.ensures.says (λ rest. ap (λ (es : Elements). element_says c.args.me.now (plain_scopes c.args.scopes.now) (element_tree (out-Elements es).first) rest) (c.deref.ensures ∙ sym c.deref-in-Some.ensures)))
    c.loop-next.invariant.says

pub element-returns-then-whole-clause-says : goal.element-returns-then-whole-clause-says
element-returns-then-whole-clause-says t c =
    range_said c.args.me.now (plain_scopes c.args.scopes.now) c.args.element.now c.in-Some.upper (plain_ex c.in_ok-x.x) (plain_ex c.in_ok-y-in-Some.y) c.first_span.result c.first_span-in-Some.result
    c.in-Some.is c.in_ok-x.ensures.is c.first_span.ensures.value c.in_ok-y-in-Some.ensures.is c.first_span-in-Some.ensures.value
    c.in_ok-x.ensures.says c.in_ok-whole.ensures.says c.in_ok-y-in-Some.ensures.says c.in_ok-fits-in-Some.ensures.says

pub element-returns-else-whole-clause-says : goal.element-returns-else-whole-clause-says
element-returns-else-whole-clause-says t c =
    range_said c.args.me.now (plain_scopes c.args.scopes.now) c.args.element.now c.in-Some.upper (plain_ex c.in_ok-x.x) (plain_ex c.in_ok-y-in-Some.y) c.first_span.result c.first_span-in-Some.result
    c.in-Some.is c.in_ok-x.ensures.is c.first_span.ensures.value c.in_ok-y-in-Some.ensures.is c.first_span-in-Some.ensures.value
    c.in_ok-x.ensures.says c.in_ok-whole.ensures.says c.in_ok-y-in-Some.ensures.says c.in_ok-fits-in-Some.ensures.says

pub element-returns-in-None-clause-says : goal.element-returns-in-None-clause-says
element-returns-in-None-clause-says t c =
    single_said c.args.me.now (plain_scopes c.args.scopes.now) c.args.element.now (plain_ex c.in_ok-x.x) c.first_span.result
    c.in-None.is c.in_ok-x.ensures.is c.first_span.ensures.value c.in_ok-x.ensures.says c.in_ok-whole.ensures.says

-- ---- selectors

pub designator-loop-selector-init : goal.designator-loop-selector-init
designator-loop-selector-init t c = record { is = refl; says = record { goes = λ rest. refl } }

pub designator-loop-selector-preserved : goal.designator-loop-selector-preserved
designator-loop-selector-preserved t c = record {
  is = selector_turn c.args.me.now (plain_scopes c.args.scopes.now) c.deref-selector-items.result.now c.loop-selector.selector-index c.selector-item.result _ (plain_ex c.loop-selector.x) (plain_ex c.in_ok-x.x)
      c.loop-selector-test.true c.selector-item.is c.in_ok-x.ensures.is c.loop-selector.invariant.is;
  says = selector_turn_said c.args.me.now (plain_scopes c.args.scopes.now) c.args.designator.now.name.span c.deref-selector-items.result.now c.loop-selector.selector-index c.selector-item.result (plain_ex c.loop-selector.x) (plain_ex c.in_ok-x.x)
      c.loop-selector-test.true c.selector-item.is c.in_ok-x.ensures.is c.loop-selector.invariant.says c.in_ok-x.ensures.says;
}

pub designator-returns-clause-is : goal.designator-returns-clause-is
designator-returns-clause-is t c =
    designator_end c.args.me.now (plain_scopes c.args.scopes.now) c.args.designator.now c.deref-selector-items.result.now c.loop-selector.selector-index (plain_ex c.ex_of-x.result) (plain_ex c.loop-selector.x)
    c.deref-selector-items.ensures.value c.loop-selector-test.false (c.ex_of-x.ensures ∙ ap ex_of c.in_ok-name.ensures.means) c.loop-selector.invariant.is

pub designator-returns-clause-says : goal.designator-returns-clause-says
designator-returns-clause-says t c =
    designator_end_said c.args.me.now (plain_scopes c.args.scopes.now) c.args.designator.now c.deref-selector-items.result.now c.loop-selector.selector-index (plain_ex c.ex_of-x.result) (plain_ex c.loop-selector.x)
    c.deref-selector-items.ensures.value c.loop-selector-test.false (c.ex_of-x.ensures ∙ ap ex_of c.in_ok-name.ensures.means) c.in_ok-name.ensures.says c.loop-selector.invariant.says

pub selection-returns-in-Field-clause-is : goal.selection-returns-in-Field-clause-is
selection-returns-in-Field-clause-is t c =
    let me = c.args.me.now in
    let s = plain_scopes c.args.scopes.now in
    let x = plain_ex c.args.x in
    is_as c.select_member.result plain_ex (member_selected me x c.in-Field.field) (selected me s x (selector_tree c.args.selector.now)) c.select_member.ensures.is
    (member_parts me s x c.in-Field.field ∙ sym (ap (λ (sel : Selector). selected me s x (selector_tree sel)) c.in-Field.is))

pub selection-returns-in-Field-clause-says : goal.selection-returns-in-Field-clause-says
selection-returns-in-Field-clause-says t c =
    let me = c.args.me.now in
    let s = plain_scopes c.args.scopes.now in
    let x = plain_ex c.args.x in
    adds_only c.select_member.result c.args.said.now.items c.select_member.new.said.items (member_rows me x c.in-Field.field) (selector_says me s c.args.at x (selector_tree c.args.selector.now)) c.select_member.ensures.says (λ rest.
    sym (ap (λ (sel : Selector). selector_says me s c.args.at x (selector_tree sel) rest) c.in-Field.is))

pub selection-returns-in_ok-element-in-Index-clause-says :
    goal.selection-returns-in_ok-element-in-Index-clause-says
selection-returns-in_ok-element-in-Index-clause-says t c =
    let me = c.args.me.now in
    let s = plain_scopes c.args.scopes.now in
    let x = plain_ex c.args.x in
    let p = c.in-Index.opening in
    let es = exprs_tree c.deref.result.now in
    adds_as (adds_then c.in_ok-add_row-in-Index.ensures c.in_ok-element-in-Index.ensures.says) (λ rest.
    ap (λ b. row b p codes_of.BadSelector (indices_say me s p (plain_type c.or_unknown.result) es rest)) (none_is_bad plain_type c.indexed-ty.result c.is_none.result c.is_none.ensures ∙ ap is_bad c.indexed-ty.ensures)
    ∙ ap (λ y. row (is_bad (indexed x)) p codes_of.BadSelector (indices_say me s p y es rest)) (c.or_unknown.ensures ∙ ap or_unknown c.indexed-ty.ensures)
    ∙ sym (ap (λ (sel : Selector). selector_says me s c.args.at x (selector_tree sel) rest) c.in-Index.is ∙ ap (λ (y : Exprs). selector_says me s c.args.at x (index_selector p (exprs_tree y) c.in-Index.closing) rest) (sym c.deref.ensures)))

pub selection-returns-in-None-clause-is : goal.selection-returns-in-None-clause-is
selection-returns-in-None-clause-is t c =
    let me = c.args.me.now in
    let s = plain_scopes c.args.scopes.now in
    let x = plain_ex c.args.x in
    c.called_with-in-None.ensures
    ∙ call_parts me s x c.in-Call.opening c.in-Call.closing (arguments_option c.in-Call.given) (plain_type_option c.guard_of-guard.result) none_given
    c.guard_of-guard.ensures (sym (ap (λ (o : Option (Box Exprs Global)). given_behind none_given (arguments_are me s (arguments_option o))) c.in-None.is))
    ∙ sym (ap (λ (sel : Selector). selected me s x (selector_tree sel)) c.in-Call.is ∙ ap (selected me s x) (call_held c.in-Call.opening c.in-Call.given c.in-Call.closing))

pub selection-returns-in-None-clause-says : goal.selection-returns-in-None-clause-says
selection-returns-in-None-clause-says t c =
    let me = c.args.me.now in
    let s = plain_scopes c.args.scopes.now in
    let x = plain_ex c.args.x in
    adds_as (call_said_without me s c.args.at x c.in-Call.opening c.in-Call.closing c.in-Call.given (plain_type_option c.guard_of-guard.result) c.is_none-in-Call.result c.argument_count.result (plain_expected_option c.expectation-wanted.result)
    c.in-None.is c.guard_of-guard.ensures c.argument_count.ensures c.expectation-wanted.ensures
    (none_is_bad plain_expected c.expectation-wanted.result c.is_none-in-Call.result c.is_none-in-Call.ensures) c.in_ok-add_call_rows-in-Call.ensures) (λ rest.
    sym (ap (λ (sel : Selector). selector_says me s c.args.at x (selector_tree sel) rest) c.in-Call.is ∙ ap (λ y. selector_says me s c.args.at x y rest) (call_held c.in-Call.opening c.in-Call.given c.in-Call.closing)))

pub selection-returns-in_ok-element-in-Index-clause-is :
    goal.selection-returns-in_ok-element-in-Index-clause-is
selection-returns-in_ok-element-in-Index-clause-is t c =
    let x = plain_ex c.args.x in
    c.indexed_part.ensures
    ∙ ap (indexed_part x) (c.in_ok-element-in-Index.ensures.is ∙ ap (λ y. indexed_type y (exprs_tree c.deref.result.now)) (c.or_unknown.ensures ∙ ap or_unknown c.indexed-ty.ensures))
    ∙ index_parts c.args.me.now (plain_scopes c.args.scopes.now) x c.in-Index.opening c.in-Index.closing (exprs_tree c.deref.result.now)
    ∙ sym (ap (λ (sel : Selector). selected c.args.me.now (plain_scopes c.args.scopes.now) x (selector_tree sel)) c.in-Index.is ∙ ap (λ (es : Exprs). selected c.args.me.now (plain_scopes c.args.scopes.now) x (index_selector c.in-Index.opening (exprs_tree es) c.in-Index.closing)) (sym c.deref.ensures))

pub selection-returns-in_ok-given-in-Some-clause-is :
    goal.selection-returns-in_ok-given-in-Some-clause-is
selection-returns-in_ok-given-in-Some-clause-is t c =
    let x = plain_ex c.args.x in
    c.called_with.ensures
    ∙ call_parts c.args.me.now (plain_scopes c.args.scopes.now) x c.in-Call.opening c.in-Call.closing (arguments_option c.in-Call.given) (plain_type_option c.guard_of-guard.result) (plain_given c.in_ok-given-in-Some.given)
    c.guard_of-guard.ensures
    (c.in_ok-given-in-Some.ensures.is ∙ ap (λ (es : Exprs). given_behind none_given (exprs_are c.args.me.now (plain_scopes c.args.scopes.now) (exprs_tree es))) c.deref-in-Some.ensures ∙ sym (ap (λ (o : Option (Box Exprs Global)). given_behind none_given (arguments_are c.args.me.now (plain_scopes c.args.scopes.now) (arguments_option o))) c.in-Some.is))
    ∙ sym (ap (λ (sel : Selector). selected c.args.me.now (plain_scopes c.args.scopes.now) x (selector_tree sel)) c.in-Call.is ∙ ap (selected c.args.me.now (plain_scopes c.args.scopes.now) x) (call_held c.in-Call.opening c.in-Call.given c.in-Call.closing))

pub selection-returns-in_ok-given-in-Some-clause-says :
    goal.selection-returns-in_ok-given-in-Some-clause-says
selection-returns-in_ok-given-in-Some-clause-says t c =
    let x = plain_ex c.args.x in
    adds_as (call_said_with c.args.me.now (plain_scopes c.args.scopes.now) c.args.at x c.in-Call.opening c.in-Call.closing c.in-Call.given c.in-Some.exprs c.deref-in-Some.result.now (plain_type_option c.guard_of-guard.result) c.is_none-in-Call.result c.argument_count.result (plain_expected_option c.expectation-wanted.result) (plain_expected c.or_nothing.result)
    c.in-Some.is c.deref-in-Some.ensures c.guard_of-guard.ensures c.argument_count.ensures c.expectation-wanted.ensures
    (none_is_bad plain_expected c.expectation-wanted.result c.is_none-in-Call.result c.is_none-in-Call.ensures) c.or_nothing.ensures
    c.in_ok-add_call_rows-in-Call.ensures c.in_ok-given-in-Some.ensures.says) (λ rest.
    sym (ap (λ (sel : Selector). selector_says c.args.me.now (plain_scopes c.args.scopes.now) c.args.at x (selector_tree sel) rest) c.in-Call.is ∙ ap (λ y. selector_says c.args.me.now (plain_scopes c.args.scopes.now) c.args.at x y rest) (call_held c.in-Call.opening c.in-Call.given c.in-Call.closing)))

-- ---- indices and arguments

pub indices-loop-next-init : goal.indices-loop-next-init
indices-loop-next-init t c = record { is = refl; says = record { goes = λ rest. refl } }

pub indices-loop-next-preserved : goal.indices-loop-next-preserved
indices-loop-next-preserved t c = record {
  is = index_turn c.args.me.now (plain_scopes c.args.scopes.now) c.deref-next-items.result.now c.loop-next.next-index c.next-item.result _ (plain_type_option c.loop-next.element) (plain_type_option c.element-element-in-loop-next.result)
      c.loop-next-test.true c.next-item.is (c.element-element-in-loop-next.ensures ∙ ap element_type c.or_unknown-array.ensures) c.loop-next.invariant.is;
  says = index_turn_said c.args.me.now (plain_scopes c.args.scopes.now) c.args.bracket c.deref-next-items.result.now c.loop-next.next-index c.next-item.result (plain_type c.or_unknown-array.result) (plain_type_option c.loop-next.element) (plain_type_option c.element-element-in-loop-next.result) (plain_ex c.in_ok-x-2.x) c.first_span-in-loop-next.result
      c.loop-next-test.true c.next-item.is c.in_ok-x-2.ensures.is c.first_span-in-loop-next.ensures.value c.or_unknown-array.ensures c.element-element-in-loop-next.ensures
      c.loop-next.invariant.says c.in_ok-x-2.ensures.says c.in_ok-add_index_rows-2.ensures;
}

pub indices-returns-clause-is : goal.indices-returns-clause-is
indices-returns-clause-is t c =
    indices_end c.args.me.now (plain_scopes c.args.scopes.now) c.args.exprs.now c.deref-next-items.result.now c.loop-next.next-index (plain_type c.args.ty) (plain_type_option c.element-element.result) (plain_type_option c.loop-next.element)
    c.deref-next-items.ensures.value c.loop-next-test.false c.element-element.ensures c.loop-next.invariant.is

pub indices-returns-clause-says : goal.indices-returns-clause-says
indices-returns-clause-says t c =
    indices_end_said c.args.me.now (plain_scopes c.args.scopes.now) c.args.bracket c.args.exprs.now c.deref-next-items.result.now c.loop-next.next-index (plain_type c.args.ty) (plain_type_option c.element-element.result) (plain_type_option c.loop-next.element) (plain_ex c.in_ok-x.x) c.first_span.result
    c.deref-next-items.ensures.value c.loop-next-test.false c.in_ok-x.ensures.is c.first_span.ensures.value c.element-element.ensures
    c.in_ok-x.ensures.says c.in_ok-add_index_rows.ensures c.loop-next.invariant.says

pub arguments-loop-next-init : goal.arguments-loop-next-init
arguments-loop-next-init t c = record { is = refl; says = record { goes = λ rest. refl } }

pub arguments-loop-next-preserved : goal.arguments-loop-next-preserved
arguments-loop-next-preserved t c = record {
  is = argument_turn c.args.me.now (plain_scopes c.args.scopes.now) c.deref-next-items.result.now c.loop-next.next-index c.next-item.result _ (plain_given c.loop-next.given) (plain_given c.with-given.result) (plain_ex c.in_ok-x-2.x)
      c.loop-next-test.true c.next-item.is c.in_ok-x-2.ensures.is c.with-given.ensures c.loop-next.invariant.is;
  says = argument_turn_said c.args.me.now (plain_scopes c.args.scopes.now) c.deref-next-items.result.now c.loop-next.next-index c.next-item.result (plain_expected c.loop-next.expected) (plain_wanted_option c.first-in-loop-next.result) (plain_expected c.later-expected-in-loop-next.result) (plain_ex c.in_ok-x-2.x) c.first_span-in-loop-next.result
      c.loop-next-test.true c.next-item.is c.in_ok-x-2.ensures.is c.first_span-in-loop-next.ensures.value c.first-in-loop-next.ensures c.later-expected-in-loop-next.ensures
      c.loop-next.invariant.says c.in_ok-x-2.ensures.says c.in_ok-add_argument_rows-2.ensures;
}

pub arguments-returns-clause-is : goal.arguments-returns-clause-is
arguments-returns-clause-is t c =
    arguments_end c.args.me.now (plain_scopes c.args.scopes.now) c.args.exprs.now c.deref-next-items.result.now c.loop-next.next-index (plain_ex c.in_ok-x.x) (plain_given c.loop-next.given)
    c.deref-next-items.ensures.value c.loop-next-test.false c.in_ok-x.ensures.is c.loop-next.invariant.is

pub arguments-returns-clause-says : goal.arguments-returns-clause-says
arguments-returns-clause-says t c =
    arguments_end_said c.args.me.now (plain_scopes c.args.scopes.now) c.args.exprs.now c.deref-next-items.result.now c.loop-next.next-index (plain_expected c.args.expected) (plain_wanted_option c.first.result) (plain_expected c.later-expected.result) (plain_expected c.loop-next.expected) (plain_ex c.in_ok-x.x) c.first_span.result
    c.deref-next-items.ensures.value c.loop-next-test.false c.in_ok-x.ensures.is c.first_span.ensures.value c.first.ensures c.later-expected.ensures
    c.in_ok-x.ensures.says c.in_ok-add_argument_rows.ensures c.loop-next.invariant.says
