use Rattle.std.proofs.Common.{ap, refl}
use Rattle.std.proofs.lemmas.Result.{on_ok_weaker}
use Rattle.session_core.proofs.Moving.{says_first}
use Rattle.session_core.specs.State.{plain_of}
use Rattle.session_core.specs.declared.session.Core.{Core}
use Rattle.session_verdicts.specs.declared.verdicts.Answer.TheVariants as answers
use Rattle.session_core.proofs.session.Core.refuse_first.Goals as goal

pub returns-clause-ok : goal.returns-clause-ok
returns-clause-ok c =
    let old = c.args.self.now in
    let given = answers.Refused c.args.reason in
    on_ok_weaker c.say.result
    (λ said. says_first old c.say.new.self c.args.id given given refl _ c.in_ok-message.ensures said (ap plain_of c.say.ensures.same)
    c.requires.named c.requires.short (ap (λ (core : Core). core.kept) c.say.ensures.same))
    c.say.ensures.said
