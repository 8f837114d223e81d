use Rattle.std.proofs.lemmas.Result.{on_ok_weaker}
use Rattle.session_core.proofs.Opens.{opened_owed}
use Rattle.session_core.specs.State.{handed_of}
use Rattle.session_core.proofs.session.Core.open.Goals as goal

pub returns-clause-ok : goal.returns-clause-ok
returns-clause-ok c =
    on_ok_weaker c.answer_first.result
    (λ answers o number first runs nothing. answers o number _ first runs (opened_owed c.args.self.now.workspace c.args.root (handed_of c.args.got) nothing) c.in_ok-answer.ensures.fits)
    c.answer_first.ensures.ok
