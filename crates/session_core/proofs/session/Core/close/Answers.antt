use Rattle.std.proofs.Common.{ap, subst, sym}
use Rattle.std.specs.Prelude.{Option}
use Rattle.std.proofs.lemmas.Result.{on_err_weaker, on_ok_weaker}
use Rattle.session_core.proofs.Draining.{stays_on}
use Rattle.session_core.proofs.Requests.{answered_whole, lost_behind}
use Rattle.session_core.proofs.Settling.{on_err_any, on_ok_both}
use Rattle.session_core.specs.Standing.{IsUpHead}
use Rattle.session_core.specs.State.{Rest, rest_of}
use Rattle.session_core.specs.declared.head.Head.{Head}
use Rattle.session_core.specs.declared.session.Core.{Core}
use Rattle.session_law.specs.Methods.{closing}
use Rattle.session_core.proofs.Bare.{bare_after}
use Rattle.session_core.proofs.session.Core.close.Goals as goal

pub returns-in_err-cancel_all-clause-lost : goal.returns-in_err-cancel_all-clause-lost
returns-in_err-cancel_all-clause-lost c = on_err_any c.from_residual.result (λ number order whole. c.in_err-cancel_all.ensures.lost _ _ order whole)

pub returns-clause-ok : goal.returns-clause-ok
returns-clause-ok c =
    let mid = c.cancel_all.new.self in
    let did = c.in_ok-cancel_all.ensures in
    on_ok_weaker c.answer_last.result
    (λ both number order whole.
    answered_whole mid c.answer_last.new.self c.answer_last.ensures.same both.1 (subst (λ (h : Option Head). IsUpHead h) (sym (ap (λ (r : Rest). r.head) did.rest.is)) tt) did.goes_on c.args.id number closing
    (λ o last runs once. both.0 o number closing last runs once tt) tt order (did.ok _ _ order whole))
    (on_ok_both _ _ c.answer_last.result c.answer_last.ensures.ok c.answer_last.ensures.notices)

pub returns-clause-lost : goal.returns-clause-lost
returns-clause-lost c =
    on_err_weaker c.answer_last.result
    (λ same number order whole. lost_behind c.cancel_all.new.self c.answer_last.new.self same _ _ order (c.in_ok-cancel_all.ensures.ok _ _ order whole))
    c.answer_last.ensures.err

pub returns-clause-bare : goal.returns-clause-bare
returns-clause-bare c = bare_after c.args.self.now c.cancel_all.new.self c.answer_last.new.self c.answer_last.result c.in_ok-cancel_all.ensures.bare c.answer_last.ensures.bare

pub returns-clause-drains : goal.returns-clause-drains
returns-clause-drains c =
    let same = c.answer_last.ensures.same in
    on_ok_weaker c.answer_last.result
    (λ notices. stays_on (rest_of c.args.self.now) (rest_of c.cancel_all.new.self) (rest_of c.answer_last.new.self) c.in_ok-cancel_all.ensures.rest.stays (ap (λ (core : Core). core.head) same)
    (ap (λ (core : Core). core.drains) same))
    c.answer_last.ensures.notices
