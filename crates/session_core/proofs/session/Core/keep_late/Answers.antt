use Rattle.std.proofs.lemmas.Result.{on_ok_weaker}
use Rattle.session_core.proofs.Late.{carries_late}
use Rattle.session_core.proofs.session.Core.keep_late.Goals as goal

pub returns-clause-ok : goal.returns-clause-ok
returns-clause-ok c = on_ok_weaker c.outcome.result (λ kept. carries_late c.args.self.now c.outcome.new.self c.if-is_none.ensures kept.remembers kept.at_work) c.outcome.ensures
