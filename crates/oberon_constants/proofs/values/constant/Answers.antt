use Rattle.std.specs.Prelude.{Bool, if◌then◌else◌}
use Rattle.std.proofs.Common.{sym, ◌∙◌, ap}
use Rattle.std.proofs.lemmas.Result.{on_ok_weaker}
use Rattle.ob_text.specs.declared.span.Span.{Span}
use Rattle.oberon_tree.specs.Memory.{expr_tree}
use Rattle.oberon_tree.specs.Spans.{span_of_expr}
use Rattle.oberon_types.specs.Folding.{fold}
use Rattle.oberon_rules.specs.Constants.{expr_const}
use Rattle.oberon_rules.specs.ExpressionRules.{value_says}
use Rattle.oberon_rules.specs.Expressions.{Ex, is_unknown, ty_of}
use Rattle.oberon_rules.specs.TypeRules.{fold_row}
use Rattle.oberon_infer.specs.Memory.{plain_scopes}
use Rattle.oberon_constants.specs.declared.folding.Folding.{Folding}
use Rattle.oberon_constants.specs.Foldings.{outcome_of}
use Rattle.oberon_infer.proofs.AddsLaws.{adds_then, adds_as}
use Rattle.oberon_constants.proofs.values.constant.Goals as goal

pub returns-clause-says : goal.returns-clause-says
returns-clause-says c =
    let me = c.args.me.now in
    let s = plain_scopes c.args.scopes.now in
    let e = expr_tree c.args.e.now in
    let known = sym (c.is_unknown.ensures ∙ ap (λ (x : Ex). is_unknown (ty_of x)) c.in_ok-x.ensures.is) ∙ c.if-is_unknown.false in
    on_ok_weaker c.outcome.result (λ a. adds_as (adds_then c.in_ok-x.ensures.says a) (λ rest.
    ap (λ (f : Folding). value_says me s e (fold_row (outcome_of f) c.span.result rest)) c.in_ok-folding.ensures
    ∙ ap (λ (p : Span). value_says me s e (fold_row (fold (expr_const s e)) p rest)) c.span.ensures
    ∙ sym (ap (λ (b : Bool). value_says me s e (if b then rest else fold_row (fold (expr_const s e)) (span_of_expr e) rest)) known))) c.outcome.ensures.says
