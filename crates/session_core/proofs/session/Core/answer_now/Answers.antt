use Rattle.std.proofs.Common.{subst, sym}
use Rattle.std.proofs.lemmas.Result.{on_err_weaker, on_ok_weaker}
use Rattle.session_core.proofs.Requests.{is_shutdown, loses_answered, serves_answered}
use Rattle.session_core.proofs.Resting.{goes_on}
use Rattle.session_core.proofs.Settling.{on_ok_both}
use Rattle.session_core.specs.Acting.{LosesAs, ServesAs}
use Rattle.session_core.proofs.session.Core.answer_now.Goals as goal

pub returns-then-is_closing-clause-ok : goal.returns-then-is_closing-clause-ok
returns-then-is_closing-clause-ok c =
    on_ok_weaker c.close.result
    (λ serves number v at_once fits. subst (λ w. ServesAs c.args.self.now c.close.new.self c.args.id number w) (sym (is_shutdown v c.args.answer fits (sym c.if-is_closing.ensures))) (serves number))
    c.close.ensures.ok

pub returns-then-is_closing-clause-lost : goal.returns-then-is_closing-clause-lost
returns-then-is_closing-clause-lost c =
    on_err_weaker c.close.result
    (λ loses number v at_once fits. subst (λ w. LosesAs c.args.self.now c.close.new.self c.args.id number w) (sym (is_shutdown v c.args.answer fits (sym c.if-is_closing.ensures))) (loses number))
    c.close.ensures.lost

pub returns-else-is_closing-clause-ok : goal.returns-else-is_closing-clause-ok
returns-else-is_closing-clause-ok c =
    on_ok_weaker c.answer_last.result
    (λ both. serves_answered c.args.self.now c.answer_last.new.self c.answer_last.ensures.same both.1 c.requires.up (goes_on c.args.self.now c.requires.settled.sound) c.args.id
    c.args.answer (sym c.if-is_closing.ensures) both.0)
    (on_ok_both _ _ c.answer_last.result c.answer_last.ensures.ok c.answer_last.ensures.notices)

pub returns-else-is_closing-clause-lost : goal.returns-else-is_closing-clause-lost
returns-else-is_closing-clause-lost c =
    on_err_weaker c.answer_last.result (λ same. loses_answered c.args.self.now c.answer_last.new.self c.args.id c.args.answer (sym c.if-is_closing.ensures) same) c.answer_last.ensures.err
