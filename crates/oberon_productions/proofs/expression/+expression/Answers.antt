use Rattle.std.proofs.Common.{suc, length, refl, sym, arith, eqb, ◌∷◌, ◌++◌, ◌∙◌, []}
use Rattle.oberon_productions.specs.Machine.{term_parts, simple_parts, expr_parts, exprs_parts, element_parts}
use Rattle.oberon_productions.specs.Tests.{is_symbol, reach}
use Rattle.oberon_productions.proofs.Descending.{halts, via, after_symbol, after_ident, entered, fewer, exits, onto, behind, after_some}
use Rattle.oberon_productions.proofs.Steps.{skip, skip_selectors}
use Rattle.oberon_productions.proofs.Expand.{expand_call, expand_set}
use Rattle.oberon_productions.proofs.Joins.{entered_relator, entered_add, entered_mul, single_factor, refuse_factor, no_levels, no_level, place_reads, addends_push, addends_depth, multipliers_push, multipliers_depth, selectors_push, selectors_depth, more_elements_push, more_elements_depth, more_exprs_push, more_exprs_depth}
use Rattle.oberon_tree.specs.Tokens.{symbol_token}
use Rattle.oberon_tree.proofs.ExpressionMemory.{expr_made, relation_made, simple_made, term_made, set_made, elements_made, element_made, upper_made, exprs_made, call_held}
use Rattle.oberon_productions.specs.Expected as want
use Rattle.oberon_scan.specs.declared.token.Symbol.TheVariants as symbols
use Rattle.oberon_productions.proofs.expression.+expression.Goals as goal

pub expr-returns-in_err-left : goal.expr-returns-in_err-left
expr-returns-in_err-left t c =
    exits _ _ c.from_residual.result c.in_err-left.field-0.0 c.from_residual.ensures.1
    (via (simple_parts c.args.levels) (expr_parts c.args.levels) _ c.args.given.now _ (λ s. want.some_relation c.args.levels ∷ s) (λ s. refl) c.in_err-left.ensures)

pub expr-returns-in_err-relation : goal.expr-returns-in_err-relation
expr-returns-in_err-relation t c =
    exits _ _ c.from_residual-in_err-relation.result c.in_err-relation.field-0.0 c.from_residual-in_err-relation.ensures.1
    (via (want.some_relation c.args.levels ∷ []) (expr_parts c.args.levels) _ c.args.given.now _ (λ s. s) (λ s. c.in_ok-left.ensures.moves (want.some_relation c.args.levels ∷ s)) (rw c.in_err-relation.ensures at c.relation.ensures))

pub expr-returns : goal.expr-returns
expr-returns t c =
    let n = rw c.in_ok-relation.ensures.0 at c.relation.ensures in
    rw (c.in_ok-relation.ensures.1, expr_made _ _) (record {
      spelled = behind c.in_ok-left.ensures (behind n refl);
      moves = λ s. c.in_ok-left.ensures.moves (want.some_relation c.args.levels ∷ s) ∙ n.moves s;
      within = omega (arith, c.in_ok-left.ensures.within, n.within);
      shorter = omega (arith, c.in_ok-left.ensures.shorter, n.shorter);
    })

pub simple-returns-in_err-first : goal.simple-returns-in_err-first
simple-returns-in_err-first t c =
    exits _ _ c.from_residual.result c.in_err-first.field-0.0 c.from_residual.ensures.1
    (via (term_parts c.args.levels) (simple_parts c.args.levels) _ c.args.given.now _ (λ s. want.addends c.args.levels ∷ s) (λ s. c.sign-sign.ensures.moves (term_parts c.args.levels ++ want.addends c.args.levels ∷ s)) c.in_err-first.ensures)

pub simple-returns-in_err-terms : goal.simple-returns-in_err-terms
simple-returns-in_err-terms t c =
    exits _ _ c.from_residual-in_err-terms.result c.in_err-terms.field-0.0 c.from_residual-in_err-terms.ensures.1
    (via (want.addends c.args.levels ∷ []) (simple_parts c.args.levels) _ c.args.given.now _ (λ s. s) (λ s. c.sign-sign.ensures.moves (term_parts c.args.levels ++ want.addends c.args.levels ∷ s) ∙ c.in_ok-first.ensures.moves (want.addends c.args.levels ∷ s)) (rw c.in_err-terms.ensures at c.addends.ensures))

pub simple-returns : goal.simple-returns
simple-returns t c =
    let n = rw c.in_ok-terms.ensures.0 at c.addends.ensures in
    rw (c.in_ok-terms.ensures.1, simple_made _ _ _) (record {
      spelled = behind c.sign-sign.ensures (behind c.in_ok-first.ensures (behind n refl));
      moves = λ s. c.sign-sign.ensures.moves (term_parts c.args.levels ++ want.addends c.args.levels ∷ s) ∙ c.in_ok-first.ensures.moves (want.addends c.args.levels ∷ s) ∙ n.moves s;
      within = omega (arith, c.sign-sign.ensures.within, c.in_ok-first.ensures.within, n.within);
      shorter = omega (arith, c.sign-sign.ensures.shorter, c.in_ok-first.ensures.shorter, n.shorter);
    })

pub term-returns-in_err-first : goal.term-returns-in_err-first
term-returns-in_err-first t c =
    exits _ _ c.from_residual.result c.in_err-first.field-0.0 c.from_residual.ensures.1
    (via (want.factor c.args.levels ∷ []) (term_parts c.args.levels) _ c.args.given.now _ (λ s. want.multipliers c.args.levels ∷ s) (λ s. refl) c.in_err-first.ensures)

pub term-returns-in_err-factors : goal.term-returns-in_err-factors
term-returns-in_err-factors t c =
    exits _ _ c.from_residual-in_err-factors.result c.in_err-factors.field-0.0 c.from_residual-in_err-factors.ensures.1
    (via (want.multipliers c.args.levels ∷ []) (term_parts c.args.levels) _ c.args.given.now _ (λ s. s) (λ s. c.in_ok-first.ensures.moves (want.multipliers c.args.levels ∷ s)) (rw c.in_err-factors.ensures at c.multipliers.ensures))

pub term-returns : goal.term-returns
term-returns t c =
    let n = rw c.in_ok-factors.ensures.0 at c.multipliers.ensures in
    rw (c.in_ok-factors.ensures.1, term_made _ _) (record {
      spelled = behind c.in_ok-first.ensures (behind n refl);
      moves = λ s. c.in_ok-first.ensures.moves (want.multipliers c.args.levels ∷ s) ∙ n.moves s;
      within = omega (arith, c.in_ok-first.ensures.within, n.within);
      shorter = omega (arith, c.in_ok-first.ensures.shorter, n.shorter);
    })

pub elements-returns-in_err-first : goal.elements-returns-in_err-first
elements-returns-in_err-first t c =
    exits _ _ c.from_residual.result c.in_err-first.field-0.0 c.from_residual.ensures.1
    (via (element_parts c.args.levels) (element_parts c.args.levels ++ want.elements c.args.levels ∷ []) _ c.args.given.now _ (λ s. want.elements c.args.levels ∷ s) (λ s. refl) c.in_err-first.ensures)

pub elements-returns-in_err-next : goal.elements-returns-in_err-next
elements-returns-in_err-next t c =
    exits _ _ c.from_residual-in_err-next.result c.in_err-next.field-0.0 c.from_residual-in_err-next.ensures.1
    (via (want.elements c.args.levels ∷ []) (element_parts c.args.levels ++ want.elements c.args.levels ∷ []) _ c.args.given.now _ (λ s. s) (λ s. c.in_ok-first.ensures.moves (want.elements c.args.levels ∷ s)) (rw c.in_err-next.ensures at c.more_elements.ensures))

pub elements-returns : goal.elements-returns
elements-returns t c =
    let n = rw c.in_ok-next.ensures.0 at c.more_elements.ensures in
    rw (c.in_ok-next.ensures.1, elements_made _ _) (record {
      spelled = behind c.in_ok-first.ensures (behind n refl);
      moves = λ s. c.in_ok-first.ensures.moves (want.elements c.args.levels ∷ s) ∙ n.moves s;
      within = omega (arith, c.in_ok-first.ensures.within, n.within);
      shorter = omega (arith, c.in_ok-first.ensures.shorter, n.shorter);
    })

pub element-returns-in_err-first : goal.element-returns-in_err-first
element-returns-in_err-first t c =
    exits _ _ c.from_residual.result c.in_err-first.field-0.0 c.from_residual.ensures.1
    (via (expr_parts c.args.levels) (element_parts c.args.levels) _ c.args.given.now _ (λ s. want.some_upper c.args.levels ∷ s) (λ s. refl) c.in_err-first.ensures)

pub element-returns-in_err-upper : goal.element-returns-in_err-upper
element-returns-in_err-upper t c =
    exits _ _ c.from_residual-in_err-upper.result c.in_err-upper.field-0.0 c.from_residual-in_err-upper.ensures.1
    (via (want.some_upper c.args.levels ∷ []) (element_parts c.args.levels) _ c.args.given.now _ (λ s. s) (λ s. c.in_ok-first.ensures.moves (want.some_upper c.args.levels ∷ s)) (rw c.in_err-upper.ensures at c.upper.ensures))

pub element-returns : goal.element-returns
element-returns t c =
    let n = rw c.in_ok-upper.ensures.0 at c.upper.ensures in
    rw (c.in_ok-upper.ensures.1, element_made _ _) (record {
      spelled = behind c.in_ok-first.ensures (behind n refl);
      moves = λ s. c.in_ok-first.ensures.moves (want.some_upper c.args.levels ∷ s) ∙ n.moves s;
      within = omega (arith, c.in_ok-first.ensures.within, n.within);
      shorter = omega (arith, c.in_ok-first.ensures.shorter, n.shorter);
    })

pub exprs-returns-in_err-first : goal.exprs-returns-in_err-first
exprs-returns-in_err-first t c =
    exits _ _ c.from_residual.result c.in_err-first.field-0.0 c.from_residual.ensures.1
    (via (expr_parts c.args.levels) (exprs_parts c.args.levels) _ c.args.given.now _ (λ s. want.exprs c.args.levels ∷ s) (λ s. refl) c.in_err-first.ensures)

pub exprs-returns-in_err-next : goal.exprs-returns-in_err-next
exprs-returns-in_err-next t c =
    exits _ _ c.from_residual-in_err-next.result c.in_err-next.field-0.0 c.from_residual-in_err-next.ensures.1
    (via (want.exprs c.args.levels ∷ []) (exprs_parts c.args.levels) _ c.args.given.now _ (λ s. s) (λ s. c.in_ok-first.ensures.moves (want.exprs c.args.levels ∷ s)) (rw c.in_err-next.ensures at c.more_exprs.ensures))

pub exprs-returns : goal.exprs-returns
exprs-returns t c =
    let n = rw c.in_ok-next.ensures.0 at c.more_exprs.ensures in
    rw (c.in_ok-next.ensures.1, exprs_made _ _) (record {
      spelled = behind c.in_ok-first.ensures (behind n refl);
      moves = λ s. c.in_ok-first.ensures.moves (want.exprs c.args.levels ∷ s) ∙ n.moves s;
      within = omega (arith, c.in_ok-first.ensures.within, n.within);
      shorter = omega (arith, c.in_ok-first.ensures.shorter, n.shorter);
    })

pub relation-returns-in_default : goal.relation-returns-in_default
relation-returns-in_default t c =
    record {
      spelled = refl;
      moves = λ s. skip (want.some_relation c.args.levels) (λ k. eqb (reach k) 6) (simple_parts c.args.levels) s c.args.given.now refl (λ k. refl) c.in_default.ensures.none;
      within = omega arith;
      shorter = omega arith;
    }

pub relation-returns-in_err-right : goal.relation-returns-in_err-right
relation-returns-in_err-right t c =
    exits _ _ c.from_residual.result c.in_err-right.field-0.0 c.from_residual.ensures.1
    (via (simple_parts c.args.levels ++ []) ((want.some_relation c.args.levels) ∷ []) _ c.args.given.now _ (λ s. s) (λ s. entered_relator c.in-Some.operator c.in-Some.span c.args.levels s c.in-Some.ensures.some) c.in_err-right.ensures)

pub relation-returns : goal.relation-returns
relation-returns t c =
    rw (c.in_ok-boxed.ensures.ok, relation_made _ _ _) (record {
      spelled = onto c.in-Some.ensures.some (behind c.in_ok-right.ensures refl);
      moves = λ s. entered_relator c.in-Some.operator c.in-Some.span c.args.levels s c.in-Some.ensures.some ∙ c.in_ok-right.ensures.moves s;
      within = omega (arith, c.in_ok-right.ensures.within);
      shorter = omega (arith, fewer c.in-Some.ensures.some, c.in_ok-right.ensures.shorter);
    })

pub addends-returns-in_err-term : goal.addends-returns-in_err-term
addends-returns-in_err-term t c =
    exits _ _ c.from_residual.result c.in_err-term.field-0.0 c.from_residual.ensures.1
    (via (term_parts c.args.levels ++ []) ((want.addends c.args.levels) ∷ []) _ c.args.given.now _ (λ s. ((want.addends c.args.levels) ∷ s)) (λ s. c.loop-operator.invariant.moves s ∙ entered_add c.in-Some.operator c.in-Some.span c.args.levels s c.in-Some.ensures.some) c.in_err-term.ensures)

pub addends-loop-operator-preserved : goal.addends-loop-operator-preserved
addends-loop-operator-preserved t c =
    rw c.in_ok-push.ensures.items (record {
      spelled = after_some c.loop-operator.invariant (onto c.in-Some.ensures.some (behind c.in_ok-term.ensures refl)) ∙ sym (addends_push c.loop-operator.items.items c.in-Some.operator c.in-Some.span c.in_ok-term.term c.in_ok-term.after.now);
      moves = λ s. c.loop-operator.invariant.moves s ∙ entered_add c.in-Some.operator c.in-Some.span c.args.levels s c.in-Some.ensures.some ∙ c.in_ok-term.ensures.moves ((want.addends c.args.levels) ∷ s);
      within = rw (addends_depth c.loop-operator.items.items c.in-Some.operator c.in-Some.span c.in_ok-term.term) omega (arith, c.loop-operator.invariant.within, c.in_ok-term.ensures.within);
      shorter = omega (arith, c.loop-operator.invariant.shorter, fewer c.in-Some.ensures.some, c.in_ok-term.ensures.shorter);
    })

pub addends-returns : goal.addends-returns
addends-returns t c =
    rw c.fitting.ensures (record {
      spelled = c.loop-operator.invariant.spelled;
      moves = λ s. c.loop-operator.invariant.moves s ∙ skip (want.addends c.args.levels) (λ k. eqb (reach k) 7) (term_parts c.args.levels ++ (want.addends c.args.levels ∷ [])) s c.loop-operator.rest.now refl (λ k. refl) c.in_default.ensures.none;
      within = c.loop-operator.invariant.within;
      shorter = c.loop-operator.invariant.shorter;
    })

pub multipliers-returns-in_err-factor : goal.multipliers-returns-in_err-factor
multipliers-returns-in_err-factor t c =
    exits _ _ c.from_residual.result c.in_err-factor.field-0.0 c.from_residual.ensures.1
    (via (want.factor c.args.levels ∷ []) ((want.multipliers c.args.levels) ∷ []) _ c.args.given.now _ (λ s. ((want.multipliers c.args.levels) ∷ s)) (λ s. c.loop-operator.invariant.moves s ∙ entered_mul c.in-Some.operator c.in-Some.span c.args.levels s c.in-Some.ensures.some) c.in_err-factor.ensures)

pub multipliers-loop-operator-preserved : goal.multipliers-loop-operator-preserved
multipliers-loop-operator-preserved t c =
    rw c.in_ok-push.ensures.items (record {
      spelled = after_some c.loop-operator.invariant (onto c.in-Some.ensures.some (behind c.in_ok-factor.ensures refl)) ∙ sym (multipliers_push _ _ _);
      moves = λ s. c.loop-operator.invariant.moves s ∙ entered_mul c.in-Some.operator c.in-Some.span c.args.levels s c.in-Some.ensures.some ∙ c.in_ok-factor.ensures.moves ((want.multipliers c.args.levels) ∷ s);
      within = rw (multipliers_depth _ _) omega (arith, c.loop-operator.invariant.within, c.in_ok-factor.ensures.within);
      shorter = omega (arith, c.loop-operator.invariant.shorter, fewer c.in-Some.ensures.some, c.in_ok-factor.ensures.shorter);
    })

pub multipliers-returns : goal.multipliers-returns
multipliers-returns t c =
    rw c.fitting.ensures (record {
      spelled = c.loop-operator.invariant.spelled;
      moves = λ s. c.loop-operator.invariant.moves s ∙ skip (want.multipliers c.args.levels) (λ k. eqb (reach k) 8) (term_parts c.args.levels ++ []) s c.loop-operator.rest.now refl (λ k. refl) c.in_default.ensures.none;
      within = c.loop-operator.invariant.within;
      shorter = c.loop-operator.invariant.shorter;
    })

pub more_elements-returns-in_err-element : goal.more_elements-returns-in_err-element
more_elements-returns-in_err-element t c =
    exits _ _ c.from_residual.result c.in_err-element.field-0.0 c.from_residual.ensures.1
    (via (element_parts c.args.levels ++ []) ((want.elements c.args.levels) ∷ []) _ c.args.given.now _ (λ s. ((want.elements c.args.levels) ∷ s)) (λ s. c.loop-comma.invariant.moves s ∙ entered (want.elements c.args.levels) (element_parts c.args.levels ++ (want.elements c.args.levels ∷ [])) s _ _ _ c.in-Some.ensures.some refl) c.in_err-element.ensures)

pub more_elements-loop-comma-preserved : goal.more_elements-loop-comma-preserved
more_elements-loop-comma-preserved t c =
    rw c.in_ok-push.ensures.items (record {
      spelled = after_some c.loop-comma.invariant (onto c.in-Some.ensures.some (behind c.in_ok-element.ensures refl)) ∙ sym (more_elements_push c.loop-comma.items.items c.in-Some.comma c.in_ok-element.element c.in_ok-element.after.now);
      moves = λ s. c.loop-comma.invariant.moves s ∙ entered (want.elements c.args.levels) (element_parts c.args.levels ++ (want.elements c.args.levels ∷ [])) s _ _ _ c.in-Some.ensures.some refl ∙ c.in_ok-element.ensures.moves ((want.elements c.args.levels) ∷ s);
      within = rw (more_elements_depth c.loop-comma.items.items c.in-Some.comma c.in_ok-element.element) omega (arith, c.loop-comma.invariant.within, c.in_ok-element.ensures.within);
      shorter = omega (arith, c.loop-comma.invariant.shorter, fewer c.in-Some.ensures.some, c.in_ok-element.ensures.shorter);
    })

pub more_elements-returns : goal.more_elements-returns
more_elements-returns t c =
    rw c.fitting.ensures (record {
      spelled = c.loop-comma.invariant.spelled;
      moves = λ s. c.loop-comma.invariant.moves s ∙ skip (want.elements c.args.levels) (is_symbol symbols.Comma) (element_parts c.args.levels ++ (want.elements c.args.levels ∷ [])) s c.loop-comma.rest.now refl (λ k. refl) c.in_default.ensures.none;
      within = c.loop-comma.invariant.within;
      shorter = c.loop-comma.invariant.shorter;
    })

pub more_exprs-returns-in_err-expr : goal.more_exprs-returns-in_err-expr
more_exprs-returns-in_err-expr t c =
    exits _ _ c.from_residual.result c.in_err-expr.field-0.0 c.from_residual.ensures.1
    (via (expr_parts c.args.levels ++ []) ((want.exprs c.args.levels) ∷ []) _ c.args.given.now _ (λ s. ((want.exprs c.args.levels) ∷ s)) (λ s. c.loop-comma.invariant.moves s ∙ entered (want.exprs c.args.levels) (exprs_parts c.args.levels ++ []) s _ _ _ c.in-Some.ensures.some refl) c.in_err-expr.ensures)

pub more_exprs-loop-comma-preserved : goal.more_exprs-loop-comma-preserved
more_exprs-loop-comma-preserved t c =
    rw c.in_ok-push.ensures.items (record {
      spelled = after_some c.loop-comma.invariant (onto c.in-Some.ensures.some (behind c.in_ok-expr.ensures refl)) ∙ sym (more_exprs_push c.loop-comma.items.items c.in-Some.comma c.in_ok-expr.expr c.in_ok-expr.after.now);
      moves = λ s. c.loop-comma.invariant.moves s ∙ entered (want.exprs c.args.levels) (exprs_parts c.args.levels ++ []) s _ _ _ c.in-Some.ensures.some refl ∙ c.in_ok-expr.ensures.moves ((want.exprs c.args.levels) ∷ s);
      within = rw (more_exprs_depth c.loop-comma.items.items c.in-Some.comma c.in_ok-expr.expr) omega (arith, c.loop-comma.invariant.within, c.in_ok-expr.ensures.within);
      shorter = omega (arith, c.loop-comma.invariant.shorter, fewer c.in-Some.ensures.some, c.in_ok-expr.ensures.shorter);
    })

pub more_exprs-returns : goal.more_exprs-returns
more_exprs-returns t c =
    rw c.fitting.ensures (record {
      spelled = c.loop-comma.invariant.spelled;
      moves = λ s. c.loop-comma.invariant.moves s ∙ skip (want.exprs c.args.levels) (is_symbol symbols.Comma) (exprs_parts c.args.levels ++ []) s c.loop-comma.rest.now refl (λ k. refl) c.in_default.ensures.none;
      within = c.loop-comma.invariant.within;
      shorter = c.loop-comma.invariant.shorter;
    })

pub group-returns-in_err-inner : goal.group-returns-in_err-inner
group-returns-in_err-inner t c =
    exits _ _ c.from_residual.result c.in_err-inner.field-0.0 c.from_residual.ensures.1
    (via (expr_parts c.args.levels ++ []) ((want.factor (suc c.args.levels)) ∷ []) _ (symbol_token symbols.OpenParen c.args.opening ∷ c.args.given.now) _ (λ s. (want.symbol symbols.CloseParen ∷ s)) (λ s. entered (want.factor (suc c.args.levels)) (expr_parts c.args.levels ++ (want.symbol symbols.CloseParen ∷ [])) s _ _ _ refl refl) c.in_err-inner.ensures)

pub group-returns-in_err-closing : goal.group-returns-in_err-closing
group-returns-in_err-closing t c =
    exits _ _ c.from_residual-in_err-closing.result c.in_err-closing.field-0.0 c.from_residual-in_err-closing.ensures.1
    (via (want.symbol symbols.CloseParen ∷ []) ((want.factor (suc c.args.levels)) ∷ []) _ (symbol_token symbols.OpenParen c.args.opening ∷ c.args.given.now) _ (λ s. s) (λ s. entered (want.factor (suc c.args.levels)) (expr_parts c.args.levels ++ (want.symbol symbols.CloseParen ∷ [])) s _ _ _ refl refl ∙ c.in_ok-inner.ensures.moves (want.symbol symbols.CloseParen ∷ s)) c.in_err-closing.ensures)

pub group-returns : goal.group-returns
group-returns t c =
    rw c.in_ok-closing.ensures.1 (record {
      spelled = onto refl (behind c.in_ok-inner.ensures (onto c.in_ok-closing.ensures.0 refl));
      moves = λ s. entered (want.factor (suc c.args.levels)) (expr_parts c.args.levels ++ (want.symbol symbols.CloseParen ∷ [])) s _ _ _ refl refl ∙ c.in_ok-inner.ensures.moves (want.symbol symbols.CloseParen ∷ s) ∙ after_symbol symbols.CloseParen s c.in_ok-closing.ensures.0;
      within = omega (arith, c.in_ok-inner.ensures.within);
      shorter = omega (arith, c.in_ok-inner.ensures.shorter, fewer c.in_ok-closing.ensures.0);
    })

pub negation-returns-in_err-negated : goal.negation-returns-in_err-negated
negation-returns-in_err-negated t c =
    exits _ _ c.from_residual.result c.in_err-negated.field-0.0 c.from_residual.ensures.1
    (via (want.factor c.args.levels ∷ []) ((want.factor (suc c.args.levels)) ∷ []) _ (symbol_token symbols.Tilde c.args.tilde ∷ c.args.given.now) _ (λ s. s) (λ s. entered (want.factor (suc c.args.levels)) (want.factor c.args.levels ∷ []) s _ _ _ refl refl) c.in_err-negated.ensures)

pub negation-returns : goal.negation-returns
negation-returns t c =
    rw c.in_ok-boxed.ensures.ok (record {
      spelled = onto refl (behind c.in_ok-negated.ensures refl);
      moves = λ s. entered (want.factor (suc c.args.levels)) (want.factor c.args.levels ∷ []) s _ _ _ refl refl ∙ c.in_ok-negated.ensures.moves s;
      within = omega (arith, c.in_ok-negated.ensures.within);
      shorter = omega (arith, c.in_ok-negated.ensures.shorter);
    })

pub set-returns-in-Some : goal.set-returns-in-Some
set-returns-in-Some t c =
    rw (set_made _ _ _) (record {
      spelled = onto refl (onto c.in-Some.ensures.some refl);
      moves = λ s. entered (want.factor (suc c.args.levels)) (want.rest_of_set c.args.levels ∷ []) s _ _ _ refl refl ∙ entered (want.rest_of_set c.args.levels) [] s _ _ _ c.in-Some.ensures.some refl;
      within = omega arith;
      shorter = omega (arith, fewer c.in-Some.ensures.some);
    })

pub set-returns-in_err-elements : goal.set-returns-in_err-elements
set-returns-in_err-elements t c =
    exits _ _ c.from_residual.result c.in_err-elements.field-0.0 c.from_residual.ensures.1
    (via (element_parts c.args.levels ++ (want.elements c.args.levels ∷ [])) ((want.factor (suc c.args.levels)) ∷ []) _ (symbol_token symbols.OpenBrace c.args.opening ∷ c.args.given.now) _ (λ s. (want.symbol symbols.CloseBrace ∷ s)) (λ s. entered (want.factor (suc c.args.levels)) (want.rest_of_set c.args.levels ∷ []) s _ _ _ refl refl ∙ expand_set c.args.levels s c.args.given.now c.in_default.ensures.none) c.in_err-elements.ensures)

pub set-returns-in_err-closing : goal.set-returns-in_err-closing
set-returns-in_err-closing t c =
    exits _ _ c.from_residual-in_err-closing.result c.in_err-closing.field-0.0 c.from_residual-in_err-closing.ensures.1
    (via (want.symbol symbols.CloseBrace ∷ []) ((want.factor (suc c.args.levels)) ∷ []) _ (symbol_token symbols.OpenBrace c.args.opening ∷ c.args.given.now) _ (λ s. s) (λ s. entered (want.factor (suc c.args.levels)) (want.rest_of_set c.args.levels ∷ []) s _ _ _ refl refl ∙ expand_set c.args.levels s c.args.given.now c.in_default.ensures.none ∙ c.in_ok-elements.ensures.moves (want.symbol symbols.CloseBrace ∷ s)) c.in_err-closing.ensures)

pub set-returns : goal.set-returns
set-returns t c =
    rw (set_made _ _ _, c.in_ok-closing.ensures.1) (record {
      spelled = onto refl (behind c.in_ok-elements.ensures (onto c.in_ok-closing.ensures.0 refl));
      moves = λ s. entered (want.factor (suc c.args.levels)) (want.rest_of_set c.args.levels ∷ []) s _ _ _ refl refl ∙ expand_set c.args.levels s c.args.given.now c.in_default.ensures.none ∙ c.in_ok-elements.ensures.moves (want.symbol symbols.CloseBrace ∷ s) ∙ after_symbol symbols.CloseBrace s c.in_ok-closing.ensures.0;
      within = omega (arith, c.in_ok-elements.ensures.within);
      shorter = omega (arith, c.in_ok-elements.ensures.shorter, fewer c.in_ok-closing.ensures.0);
    })

pub index-returns-in_err-indices : goal.index-returns-in_err-indices
index-returns-in_err-indices t c =
    exits _ _ c.from_residual.result c.in_err-indices.field-0.0 c.from_residual.ensures.1
    (via (exprs_parts c.args.levels ++ []) ((want.selectors (suc c.args.levels)) ∷ []) _ (symbol_token symbols.OpenBracket c.args.opening ∷ c.args.given.now) _ (λ s. (want.symbol symbols.CloseBracket ∷ (want.selectors (suc c.args.levels) ∷ s))) (λ s. entered (want.selectors (suc c.args.levels)) (exprs_parts c.args.levels ++ (want.symbol symbols.CloseBracket ∷ (want.selectors (suc c.args.levels) ∷ []))) s _ _ _ refl refl) c.in_err-indices.ensures)

pub index-returns-in_err-closing : goal.index-returns-in_err-closing
index-returns-in_err-closing t c =
    exits _ _ c.from_residual-in_err-closing.result c.in_err-closing.field-0.0 c.from_residual-in_err-closing.ensures.1
    (via (want.symbol symbols.CloseBracket ∷ []) ((want.selectors (suc c.args.levels)) ∷ []) _ (symbol_token symbols.OpenBracket c.args.opening ∷ c.args.given.now) _ (λ s. (want.selectors (suc c.args.levels) ∷ s)) (λ s. entered (want.selectors (suc c.args.levels)) (exprs_parts c.args.levels ++ (want.symbol symbols.CloseBracket ∷ (want.selectors (suc c.args.levels) ∷ []))) s _ _ _ refl refl ∙ c.in_ok-indices.ensures.moves (want.symbol symbols.CloseBracket ∷ (want.selectors (suc c.args.levels) ∷ s))) c.in_err-closing.ensures)

pub index-returns : goal.index-returns
index-returns t c =
    rw c.in_ok-closing.ensures.1 (
      record {
        spelled = onto refl (behind c.in_ok-indices.ensures (onto c.in_ok-closing.ensures.0 refl));
        moves = λ s. entered (want.selectors (suc c.args.levels)) (exprs_parts c.args.levels ++ (want.symbol symbols.CloseBracket ∷ (want.selectors (suc c.args.levels) ∷ []))) s _ _ _ refl refl ∙ c.in_ok-indices.ensures.moves (want.symbol symbols.CloseBracket ∷ (want.selectors (suc c.args.levels) ∷ s)) ∙ after_symbol symbols.CloseBracket (want.selectors (suc c.args.levels) ∷ s) c.in_ok-closing.ensures.0;
        within = omega (arith, c.in_ok-indices.ensures.within);
        shorter = omega (arith, c.in_ok-indices.ensures.shorter, fewer c.in_ok-closing.ensures.0);
      },
      omega (arith, c.in_ok-indices.ensures.shorter, fewer c.in_ok-closing.ensures.0),
    )

pub call-returns-in-Some : goal.call-returns-in-Some
call-returns-in-Some t c =
    rw (call_held _ _ _) (
      record {
        spelled = onto refl (onto c.in-Some.ensures.some refl);
        moves = λ s. entered (want.selectors (suc c.args.levels)) (want.rest_of_call c.args.levels ∷ (want.selectors (suc c.args.levels) ∷ [])) s _ _ _ refl refl ∙ entered (want.rest_of_call c.args.levels) [] (want.selectors (suc c.args.levels) ∷ s) _ _ _ c.in-Some.ensures.some refl;
        within = omega arith;
        shorter = omega (arith, fewer c.in-Some.ensures.some);
      },
      omega (arith, fewer c.in-Some.ensures.some),
    )

pub call-returns-in_err-arguments : goal.call-returns-in_err-arguments
call-returns-in_err-arguments t c =
    exits _ _ c.from_residual.result c.in_err-arguments.field-0.0 c.from_residual.ensures.1
    (via (exprs_parts c.args.levels ++ []) ((want.selectors (suc c.args.levels)) ∷ []) _ (symbol_token symbols.OpenParen c.args.opening ∷ c.args.given.now) _ (λ s. (want.symbol symbols.CloseParen ∷ (want.selectors (suc c.args.levels) ∷ s))) (λ s. entered (want.selectors (suc c.args.levels)) (want.rest_of_call c.args.levels ∷ (want.selectors (suc c.args.levels) ∷ [])) s _ _ _ refl refl ∙ expand_call c.args.levels (want.selectors (suc c.args.levels) ∷ s) c.args.given.now c.in_default.ensures.none) c.in_err-arguments.ensures)

pub call-returns-in_err-closing : goal.call-returns-in_err-closing
call-returns-in_err-closing t c =
    exits _ _ c.from_residual-in_err-closing.result c.in_err-closing.field-0.0 c.from_residual-in_err-closing.ensures.1
    (via (want.symbol symbols.CloseParen ∷ []) ((want.selectors (suc c.args.levels)) ∷ []) _ (symbol_token symbols.OpenParen c.args.opening ∷ c.args.given.now) _ (λ s. (want.selectors (suc c.args.levels) ∷ s)) (λ s. entered (want.selectors (suc c.args.levels)) (want.rest_of_call c.args.levels ∷ (want.selectors (suc c.args.levels) ∷ [])) s _ _ _ refl refl ∙ expand_call c.args.levels (want.selectors (suc c.args.levels) ∷ s) c.args.given.now c.in_default.ensures.none ∙ c.in_ok-arguments.ensures.moves (want.symbol symbols.CloseParen ∷ (want.selectors (suc c.args.levels) ∷ s))) c.in_err-closing.ensures)

pub call-returns : goal.call-returns
call-returns t c =
    rw (call_held _ _ _, c.in_ok-closing.ensures.1) (
      record {
        spelled = onto refl (behind c.in_ok-arguments.ensures (onto c.in_ok-closing.ensures.0 refl));
        moves = λ s. entered (want.selectors (suc c.args.levels)) (want.rest_of_call c.args.levels ∷ (want.selectors (suc c.args.levels) ∷ [])) s _ _ _ refl refl ∙ expand_call c.args.levels (want.selectors (suc c.args.levels) ∷ s) c.args.given.now c.in_default.ensures.none ∙ c.in_ok-arguments.ensures.moves (want.symbol symbols.CloseParen ∷ (want.selectors (suc c.args.levels) ∷ s)) ∙ after_symbol symbols.CloseParen (want.selectors (suc c.args.levels) ∷ s) c.in_ok-closing.ensures.0;
        within = omega (arith, c.in_ok-arguments.ensures.within);
        shorter = omega (arith, c.in_ok-arguments.ensures.shorter, fewer c.in_ok-closing.ensures.0);
      },
      omega (arith, c.in_ok-arguments.ensures.shorter, fewer c.in_ok-closing.ensures.0),
    )

pub upper-returns-in_default : goal.upper-returns-in_default
upper-returns-in_default t c =
    record {
      spelled = refl;
      moves = λ s. skip (want.some_upper c.args.levels) (is_symbol symbols.DotDot) (expr_parts c.args.levels) s c.args.given.now refl (λ k. refl) c.in_default.ensures.none;
      within = omega arith;
      shorter = omega arith;
    }

pub upper-returns-in_err-last : goal.upper-returns-in_err-last
upper-returns-in_err-last t c =
    exits _ _ c.from_residual.result c.in_err-last.field-0.0 c.from_residual.ensures.1
    (via (expr_parts c.args.levels ++ []) ((want.some_upper c.args.levels) ∷ []) _ c.args.given.now _ (λ s. s) (λ s. entered (want.some_upper c.args.levels) (expr_parts c.args.levels ++ []) s _ _ _ c.in-Some.ensures.some refl) c.in_err-last.ensures)

pub upper-returns : goal.upper-returns
upper-returns t c =
    rw (upper_made _ _) (record {
      spelled = onto c.in-Some.ensures.some (behind c.in_ok-last.ensures refl);
      moves = λ s. entered (want.some_upper c.args.levels) (expr_parts c.args.levels ++ []) s _ _ _ c.in-Some.ensures.some refl ∙ c.in_ok-last.ensures.moves s;
      within = omega (arith, c.in_ok-last.ensures.within);
      shorter = omega (arith, fewer c.in-Some.ensures.some, c.in_ok-last.ensures.shorter);
    })

pub factor-returns-in-Some : goal.factor-returns-in-Some
factor-returns-in-Some t c =
    let h = rw c.in-Some.is at c.in_ok-found.ensures in
    record {
      spelled = h.0.spelled;
      moves = λ s. single_factor c.args.levels s h.0;
      within = omega (arith, h.1);
      shorter = omega (arith, fewer h.0.whole);
    }

pub factor-returns-in_err-selectors : goal.factor-returns-in_err-selectors
factor-returns-in_err-selectors t c =
    let h = rw c.in-Some-2.is at c.in_ok-name.ensures in
    exits _ _ c.from_residual-in_err-selectors.result c.in_err-selectors.field-0.0 c.from_residual-in_err-selectors.ensures.1
    (via ((want.selectors c.args.levels) ∷ []) ((want.factor c.args.levels) ∷ []) _ c.args.given.now _ (λ s. s) (λ s. entered (want.factor c.args.levels) ((want.selectors c.args.levels) ∷ []) s _ _ _ h refl) c.in_err-selectors.ensures)

pub factor-returns-in-Some-2 : goal.factor-returns-in-Some-2
factor-returns-in-Some-2 t c =
    let h = rw c.in-Some-2.is at c.in_ok-name.ensures in
    place_reads (record { name = c.in-Some-2.name; selectors = c.in_ok-selectors.selectors }) ((want.factor c.args.levels) ∷ []) c.args.levels c.args.given.now c.in_ok-selectors.rest.now (record {
      spelled = onto h (behind c.in_ok-selectors.ensures refl);
      moves = λ s. entered (want.factor c.args.levels) ((want.selectors c.args.levels) ∷ []) s _ _ _ h refl ∙ c.in_ok-selectors.ensures.moves s;
      within = c.in_ok-selectors.ensures.within;
      shorter = omega (arith, fewer h, c.in_ok-selectors.ensures.shorter);
    })

pub factor-returns-then-levels-eq0 : goal.factor-returns-then-levels-eq0
factor-returns-then-levels-eq0 t c = halts ((want.factor c.args.levels) ∷ []) c.args.given.now (length c.args.given.now) (λ s. no_levels c.args.levels s c.args.given.now c.if-levels-eq0.true (rw c.in_default.is at c.in_ok-found.ensures) (rw c.in_default-2.is at c.in_ok-name.ensures))

pub factor-returns : goal.factor-returns
factor-returns t c = halts ((want.factor c.args.levels) ∷ []) c.args.given.now (length c.args.given.now) (λ s. refuse_factor c.args.levels s c.args.given.now (rw c.in_default.is at c.in_ok-found.ensures) (rw c.in_default-2.is at c.in_ok-name.ensures) c.in_default-symbol.ensures.none c.in_default-symbol-2.ensures.none c.in_default-symbol-3.ensures.none)

pub selector-returns-in_err-name : goal.selector-returns-in_err-name
selector-returns-in_err-name t c =
    exits _ _ c.from_residual.result c.in_err-name.field-0.0 c.from_residual.ensures.1
    (via (want.ident ∷ []) ((want.selectors c.args.levels) ∷ []) _ c.args.given.now _ (λ s. (want.selectors c.args.levels) ∷ s) (λ s. entered (want.selectors c.args.levels) (want.ident ∷ ((want.selectors c.args.levels) ∷ [])) s _ _ _ c.in-Some.ensures.some refl) c.in_err-name.ensures)

pub selector-returns-in-Some : goal.selector-returns-in-Some
selector-returns-in-Some t c = (
  record {
    spelled = onto c.in-Some.ensures.some (onto c.in_ok-name.ensures refl);
    moves = λ s. entered (want.selectors c.args.levels) (want.ident ∷ ((want.selectors c.args.levels) ∷ [])) s _ _ _ c.in-Some.ensures.some refl ∙ after_ident ((want.selectors c.args.levels) ∷ s) c.in_ok-name.ensures;
    within = omega arith;
    shorter = omega (arith, fewer c.in-Some.ensures.some, fewer c.in_ok-name.ensures);
  },
  omega (arith, fewer c.in-Some.ensures.some, fewer c.in_ok-name.ensures),
)

pub selector-returns-then-levels-eq0 : goal.selector-returns-then-levels-eq0
selector-returns-then-levels-eq0 t c = halts ((want.selectors c.args.levels) ∷ []) c.args.given.now (length c.args.given.now) (λ s. no_level (want.selectors c.args.levels) s _ c.args.given.now _ c.in-Some-symbol.ensures.some (rw c.if-levels-eq0.true refl))

pub selector-returns-then-levels-eq0-2 : goal.selector-returns-then-levels-eq0-2
selector-returns-then-levels-eq0-2 t c = halts ((want.selectors c.args.levels) ∷ []) c.args.given.now (length c.args.given.now) (λ s. no_level (want.selectors c.args.levels) s _ c.args.given.now _ c.in-Some-symbol-2.ensures.some (rw c.if-levels-eq0-2.true refl))

pub selectors-loop-items-preserved : goal.selectors-loop-items-preserved
selectors-loop-items-preserved t c =
    let h = rw c.in-Some.is at c.in_ok-one.ensures in
    rw c.in_ok-push.ensures.items (record {
      spelled = after_some c.loop-items.invariant (after_some h.0 refl) ∙ sym (selectors_push c.loop-items.items.items c.in-Some.one c.in-Some.after.now);
      moves = λ s. c.loop-items.invariant.moves s ∙ h.0.moves s;
      within = rw (selectors_depth c.loop-items.items.items c.in-Some.one) (omega (arith, c.loop-items.invariant.within, h.0.within));
      shorter = omega (arith, c.loop-items.invariant.shorter, h.0.shorter);
    })

pub selectors-returns : goal.selectors-returns
selectors-returns t c =
    let h = rw c.in_default.is at c.in_ok-one.ensures in
    rw c.fitting.ensures (record {
      spelled = c.loop-items.invariant.spelled;
      moves = λ s. c.loop-items.invariant.moves s ∙ skip_selectors c.args.levels s c.loop-items.rest.now h.0 h.1 h.2;
      within = c.loop-items.invariant.within;
      shorter = c.loop-items.invariant.shorter;
    })

pub expr-simple-requires : goal.expr-simple-requires
expr-simple-requires t c = omega arith

pub expr-relation-requires : goal.expr-relation-requires
expr-relation-requires t c = omega (arith, c.in_ok-left.ensures.shorter)

pub relation-simple-requires : goal.relation-simple-requires
relation-simple-requires t c = omega (arith, fewer c.in-Some.ensures.some)

pub simple-term-requires : goal.simple-term-requires
simple-term-requires t c = omega (arith, c.sign-sign.ensures.shorter)

pub simple-addends-requires : goal.simple-addends-requires
simple-addends-requires t c = omega (arith, c.sign-sign.ensures.shorter, c.in_ok-first.ensures.shorter)

pub addends-term-requires : goal.addends-term-requires
addends-term-requires t c = omega (arith, c.loop-operator.invariant.shorter, fewer c.in-Some.ensures.some)

pub term-factor-requires : goal.term-factor-requires
term-factor-requires t c = omega arith

pub term-multipliers-requires : goal.term-multipliers-requires
term-multipliers-requires t c = omega (arith, c.in_ok-first.ensures.shorter)

pub multipliers-factor-requires : goal.multipliers-factor-requires
multipliers-factor-requires t c = omega (arith, c.loop-operator.invariant.shorter, fewer c.in-Some.ensures.some)

pub factor-selectors-requires : goal.factor-selectors-requires
factor-selectors-requires t c = let h = rw c.in-Some-2.is at c.in_ok-name.ensures in omega (arith, fewer h)

pub factor-group-requires : goal.factor-group-requires
factor-group-requires t c = omega (arith, fewer c.in-Some-symbol.ensures.some)

pub factor-negation-requires : goal.factor-negation-requires
factor-negation-requires t c = omega (arith, fewer c.in-Some-symbol-2.ensures.some)

pub factor-set-requires : goal.factor-set-requires
factor-set-requires t c = omega (arith, fewer c.in-Some-symbol-3.ensures.some)

pub group-expr-requires : goal.group-expr-requires
group-expr-requires t c = omega arith

pub negation-factor-requires : goal.negation-factor-requires
negation-factor-requires t c = omega arith

pub set-elements-requires : goal.set-elements-requires
set-elements-requires t c = omega arith

pub elements-element-requires : goal.elements-element-requires
elements-element-requires t c = omega arith

pub elements-more_elements-requires : goal.elements-more_elements-requires
elements-more_elements-requires t c = omega (arith, c.in_ok-first.ensures.shorter)

pub more_elements-element-requires : goal.more_elements-element-requires
more_elements-element-requires t c = omega (arith, c.loop-comma.invariant.shorter, fewer c.in-Some.ensures.some)

pub element-expr-requires : goal.element-expr-requires
element-expr-requires t c = omega arith

pub element-upper-requires : goal.element-upper-requires
element-upper-requires t c = omega (arith, c.in_ok-first.ensures.shorter)

pub upper-expr-requires : goal.upper-expr-requires
upper-expr-requires t c = omega (arith, fewer c.in-Some.ensures.some)

pub selectors-selector-requires : goal.selectors-selector-requires
selectors-selector-requires t c = omega (arith, c.loop-items.invariant.shorter)

pub selector-index-requires : goal.selector-index-requires
selector-index-requires t c = omega (arith, fewer c.in-Some-symbol.ensures.some)

pub selector-call-requires : goal.selector-call-requires
selector-call-requires t c = omega (arith, fewer c.in-Some-symbol-2.ensures.some)

pub index-exprs-requires : goal.index-exprs-requires
index-exprs-requires t c = omega arith

pub call-exprs-requires : goal.call-exprs-requires
call-exprs-requires t c = omega arith

pub exprs-expr-requires : goal.exprs-expr-requires
exprs-expr-requires t c = omega arith

pub exprs-more_exprs-requires : goal.exprs-more_exprs-requires
exprs-more_exprs-requires t c = omega (arith, c.in_ok-first.ensures.shorter)

pub more_exprs-expr-requires : goal.more_exprs-expr-requires
more_exprs-expr-requires t c = omega (arith, c.loop-comma.invariant.shorter, fewer c.in-Some.ensures.some)

pub addends-loop-operator-smaller : goal.addends-loop-operator-smaller
addends-loop-operator-smaller t c = omega (arith, fewer c.in-Some.ensures.some, c.in_ok-term.ensures.shorter)

pub multipliers-loop-operator-smaller : goal.multipliers-loop-operator-smaller
multipliers-loop-operator-smaller t c = omega (arith, fewer c.in-Some.ensures.some, c.in_ok-factor.ensures.shorter)

pub more_elements-loop-comma-smaller : goal.more_elements-loop-comma-smaller
more_elements-loop-comma-smaller t c = omega (arith, fewer c.in-Some.ensures.some, c.in_ok-element.ensures.shorter)

pub more_exprs-loop-comma-smaller : goal.more_exprs-loop-comma-smaller
more_exprs-loop-comma-smaller t c = omega (arith, fewer c.in-Some.ensures.some, c.in_ok-expr.ensures.shorter)

pub selectors-loop-items-smaller : goal.selectors-loop-items-smaller
selectors-loop-items-smaller t c = let h = rw c.in-Some.is at c.in_ok-one.ensures in omega (arith, h.1)
