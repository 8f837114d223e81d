use Rattle.std.proofs.Common.{refl}
use Rattle.std.proofs.lemmas.Result.{on_ok_weaker}
use Rattle.session_core.proofs.Behind.{texts_behind, whole_behind}
use Rattle.session_core.specs.declared.session.Core.{Core}
use Rattle.session_core.proofs.session.Core.wait.Goals as goal

pub returns-clause-ok : goal.returns-clause-ok
returns-clause-ok c =
    let old = c.args.self.now in
    let new : Core = record old { queue = c.push.new.self } in
    on_ok_weaker c.push.result (λ pushed. whole_behind old c.args.id c.args.number c.args.call new refl pushed) c.push.ensures.pushed

pub returns-clause-texts : goal.returns-clause-texts
returns-clause-texts c =
    on_ok_weaker c.push.result
    (λ pushed. texts_behind c.args.self.now c.args.id c.args.number c.args.call c.push.new.self pushed c.requires.named c.requires.call c.requires.texts)
    c.push.ensures.pushed
