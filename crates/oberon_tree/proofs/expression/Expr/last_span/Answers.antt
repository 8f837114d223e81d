use Rattle.oberon_tree.proofs.ExpressionMemory.{expr_out, relation_out}
use Rattle.oberon_tree.proofs.LastTokens.{relation_last}
use Rattle.oberon_tree.proofs.expression.Expr.last_span.Goals as goal

pub returns-in-Some : goal.returns-in-Some
returns-in-Some c =
    rw (expr_out c.args.self.now, c.in-Some.is, relation_out c.in-Some.relation.value) (relation_last _ _ _ _ _ (rw c.deref.ensures at c.last_span.ensures))

pub returns-in-None : goal.returns-in-None
returns-in-None c = rw (expr_out c.args.self.now, c.in-None.is) c.last_span-in-None.ensures
