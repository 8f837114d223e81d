use Rattle.std.proofs.Common.{refl}
use Rattle.oberon_tree.proofs.ExpressionMemory.{simple_out}
use Rattle.oberon_tree.proofs.expression.Simple.first_span.Goals as goal

pub returns-in-Some-clause-value : goal.returns-in-Some-clause-value
returns-in-Some-clause-value c = rw (simple_out c.args.self.now, c.in-Some.is) refl

pub returns-in-Some-clause-first : goal.returns-in-Some-clause-first
returns-in-Some-clause-first c = rw (simple_out c.args.self.now, c.in-Some.is) (λ rest. refl)

pub returns-in-None-clause-value : goal.returns-in-None-clause-value
returns-in-None-clause-value c =
    rw (simple_out c.args.self.now, c.in-None.is) c.first_span.ensures.value

pub returns-in-None-clause-first : goal.returns-in-None-clause-first
returns-in-None-clause-first c =
    rw (simple_out c.args.self.now, c.in-None.is) (λ rest. c.first_span.ensures.first _)
