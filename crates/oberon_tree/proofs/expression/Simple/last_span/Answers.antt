use Rattle.std.proofs.Common.{sym}
use Rattle.oberon_tree.specs.declared.expression.Simple.{out-Simple}
use Rattle.oberon_tree.proofs.ExpressionMemory.{simple_out}
use Rattle.oberon_tree.proofs.LastTokens.{signed_ends, term_ends, addends_last, no_last}
use Rattle.oberon_tree.proofs.expression.Simple.last_span.Goals as goal

pub returns-in-Some : goal.returns-in-Some
returns-in-Some c =
    let last = rw c.deref.ensures.value at c.in-Some.ensures.value in
    rw (simple_out c.args.self.now) (signed_ends _ _ _ (term_ends _ _ _ (addends_last (out-Simple c.args.self.now).rest.items c.in-Some.addend.now _ (sym last) c.last_span.ensures)))

pub returns-in-None : goal.returns-in-None
returns-in-None c =
    let last = rw (c.in-None.is, c.deref.ensures.value) at c.last.ensures.value in
    rw (simple_out c.args.self.now, no_last (out-Simple c.args.self.now).rest.items last) (signed_ends _ _ _ c.last_span-in-None.ensures)
