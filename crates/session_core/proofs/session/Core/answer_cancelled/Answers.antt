use Rattle.std.proofs.Common.{◌++◌, ◌∷◌, [], ap, refl, ◌∙◌}
use Rattle.std.proofs.lemmas.Result.{on_ok_weaker}
use Rattle.session_core.proofs.Moving.{call_silent, framed_call, says_cancelled}
use Rattle.session_verdicts.specs.Judging.{queued_call}
use Rattle.session_law.specs.Past.{notice_in}
use Rattle.session_core.specs.State.{asked_of, said_out}
use Rattle.session_core.proofs.session.Core.answer_cancelled.Goals as goal

pub returns-clause-ok : goal.returns-clause-ok
returns-clause-ok c =
    let old = c.args.self.now in
    let waiting = c.args.waiting in
    on_ok_weaker c.say.result
    (λ told. says_cancelled old c.say.new.self (asked_of waiting) (queued_call waiting.call) refl
    (told ∙ ap (λ m. said_out old ++ m ∷ []) c.in_ok-message.ensures) c.say.ensures.same
    (framed_call waiting.id waiting.call c.requires.named c.requires.texts))
    c.say.ensures.said

pub say-requires : goal.say-requires
say-requires c = ap notice_in c.in_ok-message.ensures ∙ call_silent c.args.waiting.id (queued_call c.args.waiting.call)
