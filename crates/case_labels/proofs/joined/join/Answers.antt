use Rattle.case_labels.proofs.RangeLaws.{filled_at, joins_more}
use Rattle.case_labels.proofs.joined.join.Goals as goal

pub union-joined-requires-clause-y : goal.union-joined-requires-clause-y
union-joined-requires-clause-y c = filled_at c.in-Some.met.last c.in-Some.met.first c.loop-met.firsts.entries c.loop-met.invariant.apart c.in-Some.ensures.0

pub loop-met-preserved : goal.loop-met-preserved
loop-met-preserved c = joins_more _ _ _ c.loop-met.firsts.entries _ c.loop-met.joined c.in-Some.met _ c.loop-met.invariant c.in-Some.ensures.0 c.remove.ensures.entries c.union-joined.ensures.filled c.union-joined.ensures.both
