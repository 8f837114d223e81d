use Rattle.std.proofs.Common.{refl}
use Rattle.oberon_scan.specs.Lexis.{IsGap, IsFault}
use Rattle.oberon_scan.proofs.piece.comment.Goals as goal

pub returns-in-Some : goal.returns-in-Some
returns-in-Some c = IsGap.comment c.args.body.now refl (c.in-Some.ensures.closed)

pub returns-in-None : goal.returns-in-None
returns-in-None c = IsFault.open_comment c.args.body.now refl (c.in-None.ensures.open)
