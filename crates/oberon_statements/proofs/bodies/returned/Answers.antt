use Rattle.std.specs.Option.{option_map}
use Rattle.std.proofs.Common.{ap, ◌∙◌}
use Rattle.ob_text.specs.declared.code.Code.TheVariants as codes_of
use Rattle.oberon_tree.specs.Memory.{expr_tree}
use Rattle.oberon_types.specs.Memory.{plain_ty}
use Rattle.oberon_rules.specs.Scopes.{row}
use Rattle.oberon_rules.specs.Expressions.{Ex, expr_is, ty_of}
use Rattle.oberon_rules.specs.ExpressionRules.{value_says}
use Rattle.oberon_infer.specs.Memory.{plain_scopes}
use Rattle.oberon_infer.proofs.AddsLaws.{adds_last}
use Rattle.oberon_statements.specs.Returns.{is_bad_return}
use Rattle.oberon_statements.proofs.bodies.returned.Goals as goal

pub returns : goal.returns
returns c =
    let me = c.args.me.now in
    let s = plain_scopes c.args.scopes.now in
    let e = expr_tree c.args.part.now.value in
    let p = option_map plain_ty c.args.result_type.now in
    let word = c.args.part.now.word in
    adds_last c.add_row.result _ (row c.is_bad_return.result word codes_of.BadReturn) (λ rest. value_says me s e (row (is_bad_return p (ty_of (expr_is me s e))) word codes_of.BadReturn rest))
    c.in_ok-x.ensures.says c.add_row.ensures (λ rest.
    ap (λ b. value_says me s e (row b word codes_of.BadReturn rest)) (c.is_bad_return.ensures ∙ ap (is_bad_return p) (c.ty.ensures ∙ ap (λ (x : Ex). ty_of x) c.in_ok-x.ensures.is)))
