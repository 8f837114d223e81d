use Rattle.std.proofs.lemmas.Result.{on_ok_weaker}
use Rattle.session_core.proofs.Calls.{back_noting, stands_still}
use Rattle.session_core.proofs.Giving.{settled_noting}
use Rattle.session_core.specs.State.{rest_of}
use Rattle.session_core.proofs.session.Core.outcome.Goals as goal

pub returns-clause-stands : goal.returns-clause-stands
returns-clause-stands c alive order stands =
    stands_still c.args.self.now c.take_outcome-acted.new.self c.take_outcome-acted.result c.is_err-self.result c.is_err-self.ensures.value c.take_outcome-acted.ensures.ok c.take_outcome-acted.ensures.lost alive order stands

pub returns-clause-settled : goal.returns-clause-settled
returns-clause-settled c = on_ok_weaker c.take_outcome-acted.result (settled_noting (rest_of c.take_outcome-acted.new.self) c.is_err-self.result) c.take_outcome-acted.ensures.settled

pub returns-clause-back : goal.returns-clause-back
returns-clause-back c =
    on_ok_weaker c.take_outcome-acted.result (λ is_back job back other. back_noting (rest_of c.take_outcome-acted.new.self) c.is_err-self.result job (is_back job back other)) c.take_outcome-acted.ensures.back
