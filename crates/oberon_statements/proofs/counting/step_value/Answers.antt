use Rattle.std.specs.Prelude.{◌∷◌, List, None}
use Rattle.std.proofs.Common.{ap, sym, ◌∙◌}
use Rattle.ob_text.specs.declared.code.Code.TheVariants as codes_of
use Rattle.ob_text.specs.declared.span.Span.{Span}
use Rattle.oberon_tree.specs.Memory.{expr_tree}
use Rattle.oberon_types.specs.Types.{TyTree}
use Rattle.oberon_types.specs.Folding.{fold}
use Rattle.oberon_rules.specs.Scopes.{Said, broken}
use Rattle.oberon_rules.specs.Constants.{expr_const}
use Rattle.oberon_rules.specs.Expressions.{Ex, ty_of, is_unknown, is_whole, expr_is}
use Rattle.oberon_rules.specs.ExpressionRules.{value_says}
use Rattle.oberon_rules.specs.Statements.{step_row, step_rows}
use Rattle.oberon_infer.specs.Memory.{plain_scopes}
use Rattle.oberon_infer.proofs.AddsLaws.{adds_last}
use Rattle.oberon_constants.specs.declared.folding.Folding.{Folding}
use Rattle.oberon_constants.specs.Foldings.{outcome_of}
use Rattle.oberon_statements.proofs.RowLaws.{stepped, unstepped}
use Rattle.oberon_statements.proofs.counting.step_value.Goals as goal

pub returns-in_ok-folding : goal.returns-in_ok-folding
returns-in_ok-folding c =
    let me = c.args.me.now in
    let s = plain_scopes c.args.scopes.now in
    let e = expr_tree c.args.e.now in
    let t = ty_of (expr_is me s e) in
    let f = fold (expr_const s e) in
    let is = sym (c.ty-ty.ensures ∙ ap (λ (x : Ex). ty_of x) c.in_ok-x.ensures.is) in
    adds_last c.add_step_row.result _ (step_row (outcome_of c.in_ok-folding.folding) c.span.result) (λ rest. value_says me s e (step_rows t f e rest))
    c.in_ok-x.ensures.says c.add_step_row.ensures (λ rest. ap (λ (more : List Said). value_says me s e more)
    (ap (λ (g : Folding). step_row (outcome_of g) c.span.result rest) c.in_ok-folding.ensures
    ∙ ap (λ (p : Span). step_row f p rest) c.span.ensures
    ∙ stepped t f e rest (ap (λ (y : TyTree). is_unknown y) is ∙ sym c.is_unknown.ensures ∙ c.if-is_unknown.false) (ap (λ (y : TyTree). is_whole y) is ∙ sym c.is_whole.ensures ∙ c.if-is_whole.true)))

pub returns-else-is_whole : goal.returns-else-is_whole
returns-else-is_whole c =
    let me = c.args.me.now in
    let s = plain_scopes c.args.scopes.now in
    let e = expr_tree c.args.e.now in
    let t = ty_of (expr_is me s e) in
    let f = fold (expr_const s e) in
    let is = sym (c.ty-ty.ensures ∙ ap (λ (x : Ex). ty_of x) c.in_ok-x.ensures.is) in
    adds_last c.add_broken.result _ (λ rest. broken c.first_span.result codes_of.NotInteger None ∷ rest) (λ rest. value_says me s e (step_rows t f e rest))
    c.in_ok-x.ensures.says c.add_broken.ensures (λ rest. ap (λ (more : List Said). value_says me s e more)
    (ap (λ (p : Span). broken p codes_of.NotInteger None ∷ rest) c.first_span.ensures.value
    ∙ unstepped t f e rest (ap (λ (y : TyTree). is_unknown y) is ∙ sym c.is_unknown.ensures ∙ c.if-is_unknown.false) (ap (λ (y : TyTree). is_whole y) is ∙ sym c.is_whole.ensures ∙ c.if-is_whole.false)))
