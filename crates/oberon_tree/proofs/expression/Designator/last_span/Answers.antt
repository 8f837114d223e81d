use Rattle.std.proofs.Common.{sym}
use Rattle.oberon_tree.proofs.LastTokens.{one_more, selectors_last}
use Rattle.oberon_tree.proofs.expression.Designator.last_span.Goals as goal

pub returns-in-Some : goal.returns-in-Some
returns-in-Some c =
    let last = rw c.deref.ensures.value at c.in-Some.ensures.value in
    one_more _ _ _ (selectors_last c.args.self.now.selectors.items c.in-Some.selector.now _ (sym last) c.last_span.ensures)
