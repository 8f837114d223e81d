use Rattle.std.proofs.Common.{arith}
use Rattle.std.specs.Prelude.{FitsSigned}
use Rattle.std.specs.Int.{w64}
use Rattle.std.proofs.lemmas.Int.{ints}
use Rattle.session_verdicts.proofs.Framing.{framed_unread}
use Rattle.session_verdicts.proofs.answers.unread_answer.Goals as goal

pub returns-clause-framed : goal.returns-clause-framed
returns-clause-framed c = let fits : FitsSigned w64 c.args.code = omega (arith, ints) in framed_unread c.args.code fits

pub returns-in_err-message-clause-framed : goal.returns-in_err-message-clause-framed
returns-in_err-message-clause-framed c = let fits : FitsSigned w64 c.args.code = omega (arith, ints) in framed_unread c.args.code fits
