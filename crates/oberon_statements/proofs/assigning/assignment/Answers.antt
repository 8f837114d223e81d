use Rattle.std.proofs.Common.{ap, ◌∙◌}
use Rattle.oberon_tree.specs.Memory.{designator_tree, expr_tree}
use Rattle.oberon_tree.specs.Trees.{assign_statement}
use Rattle.oberon_rules.specs.Expressions.{Ex, ty_of}
use Rattle.oberon_rules.specs.Statements.{statement_says, target_rows}
use Rattle.oberon_infer.specs.Memory.{plain_scopes, plain_ex, plain_type}
use Rattle.oberon_infer.proofs.AddsLaws.{adds_then, adds_last}
use Rattle.oberon_statements.proofs.RowLaws.{assigned}
use Rattle.oberon_statements.proofs.assigning.assignment.Goals as goal

pub returns : goal.returns
returns c =
    let me = c.args.me.now in
    let s = plain_scopes c.args.scopes.now in
    let a = c.args.given.now in
    adds_last c.add_target_rows.result _ (target_rows (plain_ex c.in_ok-x.x) (plain_type c.ty.result) c.first_span-place.result c.first_span.result) (statement_says me s (assign_statement (designator_tree a.designator) a.becomes (expr_tree a.value)))
    (adds_then c.in_ok-x.ensures.says c.in_ok-y.ensures.says) c.add_target_rows.ensures (λ rest.
    assigned me s (designator_tree a.designator) (expr_tree a.value) (plain_ex c.in_ok-x.x) (plain_type c.ty.result) c.first_span-place.result c.first_span.result rest
    c.in_ok-x.ensures.is (c.ty.ensures ∙ ap (λ (x : Ex). ty_of x) c.in_ok-y.ensures.is) c.first_span-place.ensures.value c.first_span.ensures.value)
