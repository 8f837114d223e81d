use Rattle.std.proofs.lemmas.Result.{on_err_weaker, on_ok_weaker}
use Rattle.session_core.proofs.Resting.{rest_settled, settles_rest}
use Rattle.session_core.proofs.SettledHead.{settles_after}
use Rattle.session_core.proofs.Settling.{loses_behind, loses_none, loses_whole, on_err_any, on_ok_both, settles_whole}
use Rattle.session_core.specs.State.{rest_of}
use Rattle.session_core.proofs.Bare.{bare_on}
use Rattle.session_core.proofs.session.Core.settle.Goals as goal

pub returns-clause-ok : goal.returns-clause-ok
returns-clause-ok c =
    let old = c.args.self.now in
    let mid = c.settle_head.new.self in
    let head = c.in_ok-settle_head.ensures in
    on_ok_weaker c.settle_waiting.result
    (λ both. settles_after old mid c.settle_waiting.new.self head.ok (settles_whole mid c.settle_waiting.new.self head.up head.goes_on both.0 both.1 c.settle_waiting.ensures.beside))
    (on_ok_both _ _ c.settle_waiting.result c.settle_waiting.ensures.ok c.settle_waiting.ensures.notices)

pub returns-clause-lost : goal.returns-clause-lost
returns-clause-lost c =
    let head = c.in_ok-settle_head.ensures in
    on_err_weaker c.settle_waiting.result
    (λ loses. loses_behind c.args.self.now c.settle_head.new.self c.settle_waiting.new.self head.ok (loses_whole c.settle_head.new.self c.settle_waiting.new.self head.up head.goes_on loses))
    c.settle_waiting.ensures.lost

pub returns-in_err-settle_head-clause-lost : goal.returns-in_err-settle_head-clause-lost
returns-in_err-settle_head-clause-lost c =
    on_err_any c.from_residual.result (loses_none c.args.self.now c.settle_head.new.self c.in_err-settle_head.ensures.err)

pub returns-clause-rest : goal.returns-clause-rest
returns-clause-rest c =
    let mid = c.settle_head.new.self in
    on_ok_weaker c.settle_waiting.result
    (λ leaves. settles_rest (rest_of c.args.self.now) (rest_of mid) (rest_of c.settle_waiting.new.self) c.in_ok-settle_head.ensures.rest (rest_settled mid c.settle_waiting.new.self c.settle_waiting.ensures.beside leaves))
    c.settle_waiting.ensures.leaves

pub returns-clause-bare : goal.returns-clause-bare
returns-clause-bare c =
    on_ok_weaker c.settle_waiting.result
    (λ bare. bare_on c.args.self.now c.settle_head.new.self c.settle_waiting.new.self c.in_ok-settle_head.ensures.bare bare) c.settle_waiting.ensures.bare
