use Rattle.std.proofs.Common.{◌∷◌, [], map, ap, ◌∙◌}
use Rattle.std.proofs.lemmas.List.{map-append}
use Rattle.rpc_peer.specs.Said.{said}
use Rattle.build_messages.specs.Outgoing.{outgoing_said}
use Rattle.build_messages.specs.declared.outgoing.Outgoing.TheVariants as waiting
use Rattle.session_core.proofs.Moving.{notices_said}
use Rattle.session_core.specs.State.{said_out}
use Rattle.session_core.proofs.Bare.{bare_one}
use Rattle.session_core.proofs.session.Core.say.Goals as goal

pub returns-clause-notices : goal.returns-clause-notices
returns-clause-notices c = λ order.
    let old = c.args.self.now in
    notices_said (said_out old) (map outgoing_said c.push_back.new.self.items) (said c.args.message) c.requires
    (ap (map outgoing_said) c.in_ok-push_back.ensures.items ∙ map-append outgoing_said old.out.items (waiting.Message c.args.message ∷ [])) order

pub returns-clause-bare : goal.returns-clause-bare
returns-clause-bare c = bare_one c.args.self.now (record c.args.self.now { out = c.push_back.new.self }) (said c.args.message)
    (ap (map outgoing_said) c.in_ok-push_back.ensures.items ∙ map-append outgoing_said c.args.self.now.out.items (waiting.Message c.args.message ∷ [])) c.requires
