use Rattle.std.specs.Prelude.{not}
use Rattle.ob_text.specs.declared.code.Code.TheVariants as codes_of
use Rattle.oberon_tree.specs.Memory.{expr_tree}
use Rattle.oberon_rules.specs.Scopes.{row}
use Rattle.oberon_rules.specs.Statements.{condition_says}
use Rattle.oberon_infer.specs.Memory.{plain_scopes, plain_ex, plain_type}
use Rattle.oberon_infer.proofs.AddsLaws.{adds_last}
use Rattle.oberon_statements.proofs.RowLaws.{tested}
use Rattle.oberon_statements.proofs.conditions.condition.Goals as goal

pub returns : goal.returns
returns c =
    let me = c.args.me.now in
    let s = plain_scopes c.args.scopes.now in
    let e = expr_tree c.args.e.now in
    adds_last c.add_row.result _ (row (not c.are_same-fits.result) c.first_span.result codes_of.NotBoolean) (condition_says me s e)
    c.in_ok-x.ensures.says c.add_row.ensures (λ rest.
    tested me s e (plain_ex c.in_ok-x.x) (plain_type c.ty.result) c.are_same-fits.result c.first_span.result rest c.in_ok-x.ensures.is c.ty.ensures c.are_same-fits.ensures c.first_span.ensures.value)
