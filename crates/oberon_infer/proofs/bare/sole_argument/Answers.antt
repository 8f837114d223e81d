use Rattle.std.proofs.Common.{ap, sym, ◌∙◌, List}
use Rattle.oberon_tree.specs.declared.expression.Exprs.{out-Exprs}
use Rattle.oberon_tree.specs.declared.expression.NextExpr.{NextExpr}
use Rattle.oberon_tree.specs.Memory.{more_exprs_list}
use Rattle.oberon_rules.specs.Expressions.{bare_type}
use Rattle.oberon_infer.specs.Bare.{has_more}
use Rattle.oberon_infer.specs.Memory.{plain_scopes}
use Rattle.oberon_infer.proofs.BareMemory.{sole_one, sole_many, expr_with, expr_without}
use Rattle.oberon_infer.proofs.bare.sole_argument.Goals as goal

pub returns-then-has_more : goal.returns-then-has_more
returns-then-has_more c =
    let more = ap (λ (xs : List NextExpr). has_more (more_exprs_list xs)) (sym c.as_slice.ensures.value) ∙ sym c.has_more.ensures ∙ c.if-has_more.true in
    ap (bare_type (plain_scopes c.args.scopes.now)) (sym (sole_many c.args.exprs.now more))

pub returns-in-Some : goal.returns-in-Some
returns-in-Some c =
    let one = ap (λ (xs : List NextExpr). has_more (more_exprs_list xs)) (sym c.as_slice.ensures.value) ∙ sym c.has_more.ensures ∙ c.if-has_more.false in
    ap (bare_type (plain_scopes c.args.scopes.now)) (sym (sole_one c.args.exprs.now one ∙ expr_with (out-Exprs c.args.exprs.now).first c.in-Some.field-0 c.in-Some.is))

pub returns-in-None : goal.returns-in-None
returns-in-None c =
    let one = ap (λ (xs : List NextExpr). has_more (more_exprs_list xs)) (sym c.as_slice.ensures.value) ∙ sym c.has_more.ensures ∙ c.if-has_more.false in
    c.bare_type.ensures ∙ ap (bare_type (plain_scopes c.args.scopes.now)) (sym (sole_one c.args.exprs.now one ∙ expr_without (out-Exprs c.args.exprs.now).first c.in-None.is))
