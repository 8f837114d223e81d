use Rattle.std.proofs.Common.{true, subst, sym}
use Rattle.std.proofs.lemmas.Result.{on_err_weaker, on_ok_weaker}
use Rattle.session_core.proofs.Ready.{texts_marked}
use Rattle.session_core.proofs.Resting.{none_left}
use Rattle.session_core.proofs.Settling.{on_ok_both}
use Rattle.session_core.specs.Moving.{LosesAll, QueueTexts, SettlesAll}
use Rattle.session_core.specs.declared.session.Core.{Core}
use Rattle.session_core.proofs.Bare.{bare_call}
use Rattle.std.proofs.Common.{ap}
use Rattle.session_core.proofs.session.Core.cancel_all.Goals as goal

pub settle-requires-clause-texts : goal.settle-requires-clause-texts
settle-requires-clause-texts c =
    subst (λ (core : Core). QueueTexts core) (sym c.mark_all.ensures) (texts_marked (λ id. true) c.args.self.now.queue c.requires.settled.sound.texts)

pub returns-clause-ok : goal.returns-clause-ok
returns-clause-ok c =
    on_ok_weaker c.settle.result (λ settles. subst (λ (core : Core). SettlesAll core c.settle.new.self) c.mark_all.ensures settles) c.settle.ensures.ok

pub returns-clause-lost : goal.returns-clause-lost
returns-clause-lost c =
    on_err_weaker c.settle.result (λ loses. subst (λ (core : Core). LosesAll core c.settle.new.self) c.mark_all.ensures loses) c.settle.ensures.lost

pub returns-clause-rest : goal.returns-clause-rest
returns-clause-rest c =
    on_ok_weaker c.settle.result (λ both. none_left c.args.self.now c.mark_all.new.self c.settle.new.self c.mark_all.ensures both.0 both.1.head)
    (on_ok_both _ _ c.settle.result c.settle.ensures.rest c.settle.ensures.goes_on)

pub returns-clause-bare : goal.returns-clause-bare
returns-clause-bare c = bare_call c.args.self.now c.mark_all.new.self c.settle.new.self c.settle.result (ap (λ (core : Core). core.out) c.mark_all.ensures) c.settle.ensures.bare
