use Rattle.oberon_tree.specs.Memory.{designator_tree}
use Rattle.oberon_tree.specs.Trees.{call_statement}
use Rattle.oberon_rules.specs.Statements.{statement_says, statement_rows}
use Rattle.oberon_infer.specs.Memory.{plain_scopes, plain_ex}
use Rattle.oberon_infer.proofs.AddsLaws.{adds_last}
use Rattle.oberon_statements.proofs.RowLaws.{called}
use Rattle.oberon_statements.proofs.calling.call.Goals as goal

pub returns : goal.returns
returns c =
    let me = c.args.me.now in
    let s = plain_scopes c.args.scopes.now in
    let d = designator_tree c.args.given.now in
    adds_last c.add_statement_rows.result _ (statement_rows (plain_ex c.in_ok-x.x) c.call_is_last.result c.first_span.result) (statement_says me s (call_statement d))
    c.in_ok-x.ensures.says c.add_statement_rows.ensures (λ rest.
    called me s d (plain_ex c.in_ok-x.x) c.call_is_last.result c.first_span.result rest c.in_ok-x.ensures.is c.call_is_last.ensures c.first_span.ensures.value)
