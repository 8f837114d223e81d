use Rattle.std.proofs.Common.{sym, []}
use Rattle.oberon_tree.proofs.LastTokens.{whole}
use Rattle.oberon_tree.proofs.expression.Expr.span.Goals as goal

pub returns : goal.returns
returns c = sym (whole _ _ _ (c.first_span.ensures.first []) c.last_span.ensures)
