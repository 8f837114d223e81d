use Rattle.std.proofs.Common.{Ok, subst, sym}
use Rattle.rpc_peer.specs.Said.{said}
use Rattle.session_core.proofs.Requests.{heard, ready}
use Rattle.session_core.specs.Acting.{ActsOn}
use Rattle.session_core.specs.declared.session.Core.{Core}
use Rattle.session_core.proofs.session.Core.act_on.Goals as goal

pub returns-clause-ok : goal.returns-clause-ok
returns-clause-ok c =
    let old = c.args.self.now in
    let new : Core = record old { taken = c.args.number } in
    subst (λ m. ActsOn old new (Ok (said m))) (sym c.in-Response.is)
    (heard old (ready old c.requires.settled c.requires.up c.requires.running c.requires.quiet) c.args.number c.requires.number c.in-Response.id c.in-Response.answer)

pub returns-clause-bare : goal.returns-clause-bare
returns-clause-bare c = record { is = λ bare. bare; one = λ one. one }
