use Rattle.oberon_tree.specs.Memory.{expr_tree}
use Rattle.oberon_rules.specs.ExpressionRules.{whole_row}
use Rattle.oberon_rules.specs.Statements.{bound_says}
use Rattle.oberon_infer.specs.Memory.{plain_scopes, plain_ex}
use Rattle.oberon_infer.proofs.AddsLaws.{adds_last}
use Rattle.oberon_statements.proofs.RowLaws.{bounded}
use Rattle.oberon_statements.proofs.conditions.bound.Goals as goal

pub returns : goal.returns
returns c =
    let me = c.args.me.now in
    let s = plain_scopes c.args.scopes.now in
    let e = expr_tree c.args.e.now in
    adds_last c.add_whole_row.result _ (whole_row (plain_ex c.in_ok-x.x) c.first_span.result) (bound_says me s e)
    c.in_ok-x.ensures.says c.add_whole_row.ensures (λ rest.
    bounded me s e (plain_ex c.in_ok-x.x) c.first_span.result rest c.in_ok-x.ensures.is c.first_span.ensures.value)
