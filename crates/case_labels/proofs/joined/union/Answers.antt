use Rattle.std.proofs.Common.{arith}
use Rattle.std.proofs.lemmas.Int.{ints, clamps}
use Rattle.case_labels.proofs.RangeLaws.{union_meets}
use Rattle.case_labels.proofs.joined.union.Goals as goal

pub returns-clause-both : goal.returns-clause-both
returns-clause-both c = λ a b ab. union_meets c.args.x.last c.args.x.first c.args.y.last c.args.y.first a b _ _ c.requires.x c.requires.y c.requires.meet ab (omega (arith, ints, clamps)) (omega (arith, ints, clamps))
