use Rattle.std.proofs.Common.{Some, sym, ◌∙◌, arith}
use Rattle.session_core.proofs.session.Core.take_build.Goals as goal

pub returns-clause-some : goal.returns-clause-some
returns-clause-some c =
    let head = c.in_ok-head.head in
    let sub = c.in_ok-checked_sub.ensures in
    let add = c.in_ok-check.ensures in
    record {
      cancelled = head.cancelled;
      is = sym c.take.ensures.value ∙ (c.in_ok-head.was ∙ (λ i. Some (record head { phase = c.in-Built.is i })));
      at = omega (arith, sub, add);
      some = omega (arith, add);
      same = λ i. record c.args.self.now { head = c.take.ensures.after i };
    }
