use Rattle.std.proofs.Common.{true, ap}
use Rattle.std.proofs.lemmas.Result.{on_ok_weaker}
use Rattle.session_core.proofs.Moving.{says_last}
use Rattle.session_core.specs.State.{plain_of}
use Rattle.session_core.specs.declared.session.Core.{Core}
use Rattle.session_verdicts.specs.declared.verdicts.Answer.TheVariants as answers
use Rattle.session_core.proofs.session.Core.answer_last.Goals as goal

pub returns-in-Result-clause-ok : goal.returns-in-Result-clause-ok
returns-in-Result-clause-ok c =
    let old = c.args.self.now in
    on_ok_weaker c.say.result
    (λ said. says_last old c.say.new.self c.args.id c.args.answer (answers.Result c.in-Result.value) c.in-Result.is _ c.success.ensures said (ap plain_of c.say.ensures.same)
    c.requires.named c.requires.short (ap (λ (core : Core). core.workspace) c.say.ensures.same) (ap (λ (core : Core). core.kept) c.say.ensures.same))
    c.say.ensures.said

pub returns-in_ok-say-in-Closing-clause-ok : goal.returns-in_ok-say-in-Closing-clause-ok
returns-in_ok-say-in-Closing-clause-ok c =
    let old = c.args.self.now in
    let same = c.say-in-Closing.ensures.same in
    says_last old (record c.say-in-Closing.new.self { closed = true }) c.args.id c.args.answer answers.Closing c.in-Closing.is _ c.null_answer.ensures c.in_ok-say-in-Closing.ensures.said
    (ap (λ (core : Core). plain_of (record core { closed = true })) same) c.requires.named c.requires.short
    (ap (λ (core : Core). core.workspace) same) (ap (λ (core : Core). core.kept) same)

pub returns-in_ok-message-in-Refused-clause-ok : goal.returns-in_ok-message-in-Refused-clause-ok
returns-in_ok-message-in-Refused-clause-ok c =
    let old = c.args.self.now in
    on_ok_weaker c.say-in-Refused.result
    (λ said. says_last old c.say-in-Refused.new.self c.args.id c.args.answer (answers.Refused c.in-Refused.reason) c.in-Refused.is _ c.in_ok-message-in-Refused.ensures said (ap plain_of c.say-in-Refused.ensures.same)
    c.requires.named c.requires.short (ap (λ (core : Core). core.workspace) c.say-in-Refused.ensures.same) (ap (λ (core : Core). core.kept) c.say-in-Refused.ensures.same))
    c.say-in-Refused.ensures.said
