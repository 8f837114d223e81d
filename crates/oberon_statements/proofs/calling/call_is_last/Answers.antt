use Rattle.std.proofs.Common.{sym, ◌∙◌}
use Rattle.oberon_statements.proofs.RowLaws.{last_calls}
use Rattle.oberon_statements.proofs.calling.call_is_last.Goals as goal

pub returns-in-Some : goal.returns-in-Some
returns-in-Some c =
    let last = rw c.deref.ensures.value at c.in-Some.ensures.value in
    c.is_call.ensures ∙ last_calls c.args.given.now.selectors.items c.in-Some.selector.now (sym last)
