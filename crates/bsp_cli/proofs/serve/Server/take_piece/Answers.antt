use Rattle.std.proofs.Common.{◌≡◌, ◌+◌, ◌∙◌, length, refl, subst, arith}
use Rattle.bsp_cli.proofs.CourseLaws.{damage_within, fed_more, passes_fed}
use Rattle.rpc_frame.specs.Damages.{HasDamage}
use Rattle.bsp_cli.specs.Progress.{fed}
use Rattle.rpc_frame.proofs.DamageLaws.{damage_broken}
use Rattle.rpc_frame.proofs.FrameLaws.{broken_not_sound}
use Rattle.bsp_cli.proofs.ProgressLaws.{progress_fed, stopped_feeding}
use Rattle.bsp_cli.proofs.WritingLaws.{stopped_so}
use Rattle.bsp_cli.specs.declared.stop.Stop.TheVariants.{Sink}
use Rattle.bsp_cli.proofs.serve.Server.take_piece.Goals as goal

pub returns-in-Ok-Some-clause-progress : goal.returns-in-Ok-Some-clause-progress
returns-in-Ok-Some-clause-progress g c = λ from to start so.
    c.in-Ok-Some.ensures.progress from to start
    (progress_fed c.args.self.now.responder.core c.feed.new.self.responder.core c.args.self.now.decoder c.feed.new.self.decoder c.args.piece.now from to start _ c.feed.ensures.core c.in-Ok.ensures.fed so)

pub returns-in-None-clause-progress : goal.returns-in-None-clause-progress
returns-in-None-clause-progress g c = λ from to start so.
    c.in-Ok-None.ensures.progress from to start
    (progress_fed c.args.self.now.responder.core c.feed.new.self.responder.core c.args.self.now.decoder c.feed.new.self.decoder c.args.piece.now from to start _ c.feed.ensures.core c.in-Ok.ensures.fed so)

pub returns-in-Some-clause-progress : goal.returns-in-Some-clause-progress
returns-in-Some-clause-progress g c = λ from to start so.
    c.in-Ok-None.ensures.progress from to start
    (progress_fed c.args.self.now.responder.core c.feed.new.self.responder.core c.args.self.now.decoder c.feed.new.self.decoder c.args.piece.now from to start _ c.feed.ensures.core c.in-Ok.ensures.fed so)

pub returns-in-Err-act_on_frames-clause-stopped : goal.returns-in-Err-act_on_frames-clause-stopped
returns-in-Err-act_on_frames-clause-stopped g c = λ from to start so.
    c.in-Err-act_on_frames.ensures.stopped from to start
    (progress_fed c.args.self.now.responder.core c.feed.new.self.responder.core c.args.self.now.decoder c.feed.new.self.decoder c.args.piece.now from to start _ c.feed.ensures.core c.in-Ok.ensures.fed so)

pub returns-in-Err-clause-stopped : goal.returns-in-Err-clause-stopped
returns-in-Err-clause-stopped g c = λ from to start so.
    stopped_feeding c.args.self.now.responder.core c.args.self.now.decoder c.feed.new.self.decoder c.args.piece.now from to start _ c.in-Err.ensures.lost so

-- damage that is told stays in what waits
pub returns-in-Some-clause-broken : goal.returns-in-Some-clause-broken
returns-in-Some-clause-broken g c = λ ending same sound.
    let has : HasDamage c.feed.new.self.decoder c.in-Some.damage = rw c.in-Some.is at c.in-Ok.ensures.damaged in
    let left = c.in-Ok-None.ensures.damage c.in-Some.damage has in
    broken_not_sound _ (damage_broken _ left.place c.in-Some.damage.kind left.at) sound

pub returns-in-Ok-Some-clause-count : goal.returns-in-Ok-Some-clause-count
returns-in-Ok-Some-clause-count g c = c.act_on_frames.ensures.fed ∙ fed_more _ _ _ c.in-Ok.ensures.fed

pub returns-in-None-clause-count : goal.returns-in-None-clause-count
returns-in-None-clause-count g c = c.act_on_frames.ensures.fed ∙ fed_more _ _ _ c.in-Ok.ensures.fed

pub returns-in-Some-clause-count : goal.returns-in-Some-clause-count
returns-in-Some-clause-count g c = c.act_on_frames.ensures.fed ∙ fed_more _ _ _ c.in-Ok.ensures.fed

pub returns-in-Ok-Some-clause-passes : goal.returns-in-Ok-Some-clause-passes
returns-in-Ok-Some-clause-passes g c = λ status same. passes_fed c.args.self.now.decoder c.feed.new.self.decoder c.act_on_frames.new.self.decoder c.args.piece.now c.in-Ok.ensures.fed c.requires.drained ((rw c.in-Ok-Some.field-0-is at c.in-Ok-Some.ensures.passes) refl)

pub returns-in-None-clause-within : goal.returns-in-None-clause-within
returns-in-None-clause-within g c = λ same.
    let count : fed c.act_on_frames.new.self.decoder ≡ fed c.args.self.now.decoder + length c.args.piece.now = c.act_on_frames.ensures.fed ∙ fed_more _ _ _ c.in-Ok.ensures.fed in
    omega (arith, count, c.requires.limit)

pub returns-in-Some-clause-damaged : goal.returns-in-Some-clause-damaged
returns-in-Some-clause-damaged g c = λ damage same.
    let found : c.in-Some.damage ≡ damage = cc in
    let has : HasDamage c.feed.new.self.decoder c.in-Some.damage = rw c.in-Some.is at c.in-Ok.ensures.damaged in
    damage_within c.args.self.now.decoder c.feed.new.self.decoder c.args.piece.now damage c.in-Ok.ensures.fed c.requires.sound (subst (HasDamage c.feed.new.self.decoder) found has)

pub returns-in-Err-act_on_frames-clause-failed : goal.returns-in-Err-act_on_frames-clause-failed
returns-in-Err-act_on_frames-clause-failed g c = λ sink. (
  passes_fed c.args.self.now.decoder c.feed.new.self.decoder c.act_on_frames.new.self.decoder c.args.piece.now c.in-Ok.ensures.fed c.requires.drained (c.in-Err-act_on_frames.ensures.failed (stopped_so c.in-Err-act_on_frames.stop Sink sink)),
  c.act_on_frames.ensures.fed ∙ fed_more _ _ _ c.in-Ok.ensures.fed,
)
