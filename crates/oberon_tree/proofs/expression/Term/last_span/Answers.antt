use Rattle.std.proofs.Common.{sym}
use Rattle.oberon_tree.specs.declared.expression.Term.{out-Term}
use Rattle.oberon_tree.proofs.ExpressionMemory.{term_out}
use Rattle.oberon_tree.proofs.LastTokens.{factor_ends, multipliers_last, no_last}
use Rattle.oberon_tree.proofs.expression.Term.last_span.Goals as goal

pub returns-in-Some : goal.returns-in-Some
returns-in-Some c =
    let last = rw c.deref.ensures.value at c.in-Some.ensures.value in
    rw (term_out c.args.self.now) (factor_ends _ _ _ (multipliers_last (out-Term c.args.self.now).rest.items c.in-Some.multiplier.now _ (sym last) c.last_span.ensures))

pub returns-in-None : goal.returns-in-None
returns-in-None c =
    let last = rw (c.in-None.is, c.deref.ensures.value) at c.last.ensures.value in
    rw (term_out c.args.self.now, no_last (out-Term c.args.self.now).rest.items last) (c.last_span-in-None.ensures)
