use Rattle.oberon_tree.proofs.ExpressionMemory.{expr_out}
use Rattle.oberon_tree.proofs.expression.Expr.first_span.Goals as goal

pub returns-clause-value : goal.returns-clause-value
returns-clause-value c = rw (expr_out c.args.self.now) c.first_span.ensures.value

pub returns-clause-first : goal.returns-clause-first
returns-clause-first c = rw (expr_out c.args.self.now) (λ rest. c.first_span.ensures.first _)
