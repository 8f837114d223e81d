use Rattle.std.proofs.Common.{[], subst, sym}
use Rattle.std.proofs.lemmas.Result.{on_err_weaker, on_ok_weaker}
use Rattle.rpc_peer.specs.OpenIds.{same_id}
use Rattle.session_core.proofs.Ready.{texts_marked}
use Rattle.session_core.proofs.Resting.{sound_marked}
use Rattle.session_core.proofs.Draining.{cancel_drains}
use Rattle.session_core.proofs.Settling.{on_err_any}
use Rattle.session_core.specs.Moving.{LosesAll, QueueTexts, SettlesAll}
use Rattle.session_core.specs.declared.session.Core.{Core}
use Rattle.session_core.proofs.Bare.{bare_after, bare_on, bare_same}
use Rattle.std.proofs.Common.{ap}
use Rattle.session_core.proofs.session.Core.cancel.Goals as goal

pub settle-requires-clause-texts : goal.settle-requires-clause-texts
settle-requires-clause-texts c =
    subst (λ (core : Core). QueueTexts core) (sym c.mark.ensures) (texts_marked (same_id c.args.id.now) c.args.self.now.queue c.requires.settled.sound.texts)

pub returns-in_err-settle-clause-lost : goal.returns-in_err-settle-clause-lost
returns-in_err-settle-clause-lost c =
    on_err_any c.from_residual.result (λ order whole. subst (λ (core : Core). LosesAll core c.settle.new.self) c.mark.ensures c.in_err-settle.ensures.lost [] [] order whole)

pub take_up_next-requires-clause-sound : goal.take_up_next-requires-clause-sound
take_up_next-requires-clause-sound c =
    let did = c.in_ok-settle.ensures in
    sound_marked (same_id c.args.id.now) c.args.self.now c.mark.new.self c.settle.new.self c.mark.ensures c.requires.settled.sound c.requires.needs.tree did.rest did.rests did.texts did.goes_on

pub returns-clause-ok : goal.returns-clause-ok
returns-clause-ok c =
    on_ok_weaker c.take_up_next.result
    (λ carries order whole. carries order (subst (λ (core : Core). SettlesAll core c.settle.new.self) c.mark.ensures c.in_ok-settle.ensures.ok [] [] order whole))
    c.take_up_next.ensures.ok

pub returns-clause-lost : goal.returns-clause-lost
returns-clause-lost c =
    on_err_weaker c.take_up_next.result
    (λ loses order whole. loses order (subst (λ (core : Core). SettlesAll core c.settle.new.self) c.mark.ensures c.in_ok-settle.ensures.ok [] [] order whole))
    c.take_up_next.ensures.lost

pub returns-clause-bare : goal.returns-clause-bare
returns-clause-bare c =
    let old = c.args.self.now in
    let settled = c.settle.new.self in
    bare_after old settled c.take_up_next.new.self c.take_up_next.result
    (bare_on old c.mark.new.self settled (bare_same old c.mark.new.self (ap (λ (core : Core). core.out) c.mark.ensures)) c.in_ok-settle.ensures.bare)
    c.take_up_next.ensures.bare

pub returns-clause-drains : goal.returns-clause-drains
returns-clause-drains c =
    let old = c.args.self.now in
    let settled = c.settle.new.self in
    let did = c.in_ok-settle.ensures in
    on_ok_weaker c.take_up_next.result
    (λ stays. cancel_drains (same_id c.args.id.now) old settled c.take_up_next.new.self c.requires.settled.sound.goes_on did.goes_on.head stays c.take_up_next.ensures.drains c.mark.new.self c.mark.ensures did.rest)
    c.take_up_next.ensures.build
