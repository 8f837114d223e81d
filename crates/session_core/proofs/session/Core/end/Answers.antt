use Rattle.std.proofs.lemmas.Result.{on_ok_weaker}
use Rattle.session_core.proofs.AtRest.{rests_behind}
use Rattle.session_core.proofs.Bare.{bare_quiet}
use Rattle.session_core.proofs.Calls.{stands_behind}
use Rattle.session_core.proofs.Draining.{drains_cancelled}
use Rattle.session_core.proofs.Giving.{settled_noting}
use Rattle.session_core.proofs.Settling.{on_ok_both}
use Rattle.session_core.specs.State.{rest_of}
use Rattle.session_law.specs.Order.{ends}
use Rattle.session_core.proofs.session.Core.end.Goals as goal

pub returns-clause-stands : goal.returns-clause-stands
returns-clause-stands c alive order stands =
    stands_behind c.args.self.now c.take_end-acted.new.self (ends c.args.how) c.take_end-acted.result c.is_err-self.result c.is_err-self.ensures.value c.take_end-acted.ensures.ok c.take_end-acted.ensures.lost
    (rests_behind c.args.self.now c.requires.quiet c.requires.up c.requires.settled.behind) alive order stands

pub returns-clause-settled : goal.returns-clause-settled
returns-clause-settled c = on_ok_weaker c.take_end-acted.result (settled_noting (rest_of c.take_end-acted.new.self) c.is_err-self.result) c.take_end-acted.ensures.settled

pub returns-clause-bare : goal.returns-clause-bare
returns-clause-bare c = on_ok_weaker c.take_end-acted.result (bare_quiet c.args.self.now c.take_end-acted.new.self c.requires.quiet) c.take_end-acted.ensures.bare

pub returns-clause-drains : goal.returns-clause-drains
returns-clause-drains c =
    let old = c.args.self.now in
    let acted = c.take_end-acted.new.self in
    let did = c.take_end-acted.ensures in
    on_ok_weaker c.take_end-acted.result
    (λ both. drains_cancelled (rest_of old) (record (rest_of acted) { dead = c.is_err-self.result }) c.requires.settled c.requires.needs c.requires.up (settled_noting (rest_of acted) c.is_err-self.result both.0)
    did.jobs.jobs did.jobs.given both.1)
    (on_ok_both _ _ c.take_end-acted.result did.settled did.drains)
