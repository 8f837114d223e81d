use Rattle.std.proofs.Common.{◌∙◌, ◌++◌, inr}
use Rattle.bsp_cli.proofs.CourseLaws.{passes_on}
use Rattle.bsp_cli.proofs.ProgressLaws.{progress_acts, stopped_at, stopped_here, sound_behind, damage_left}
use Rattle.bsp_cli.proofs.ShareLaws.{keeps_both}
use Rattle.bsp_cli.proofs.serve.Server.act_on_frames.Goals as goal

pub returns-in-Err-clause-stopped : goal.returns-in-Err-clause-stopped
returns-in-Err-clause-stopped g c = λ from to start so.
    let here = stopped_here c.frames.self.responder.core c.frames.self.decoder from to start _ (c.frames.invariant.progress from to start so) in
    rw c.in-Err.ensures.err here

pub returns-in-Ok-Some-act-clause-progress : goal.returns-in-Ok-Some-act-clause-progress
returns-in-Ok-Some-act-clause-progress g c = λ from to start so.
    let begins = rw (c.in-Ok-Some.field-0-is, ← c.as_slice.ensures.value) at c.in-Ok-Some.ensures.some in
    progress_acts c.frames.self.responder.core c.act.new.self.core c.frames.self.decoder c.next_body.new.self c.as_slice.result.now from to start _ _ begins c.in-Ok-Some.ensures.count
    (c.frames.invariant.progress from to start so) c.in-Ok-Some-act.ensures.steps

pub returns-in-Ok-Some-act-clause-stood : goal.returns-in-Ok-Some-act-clause-stood
returns-in-Ok-Some-act-clause-stood g c =
    let steps = c.in-Ok-Some-act.ensures.steps in
    let stood = c.frames.invariant.stood in
    (steps.events ++ stood.0, steps.stands stood.0 stood.1)

pub returns-in-Ok-Some-act-clause-sound : goal.returns-in-Ok-Some-act-clause-sound
returns-in-Ok-Some-act-clause-sound g c = λ sound.
    let begins = rw c.in-Ok-Some.field-0-is at c.in-Ok-Some.ensures.some in
    sound_behind c.frames.self.decoder.bytes c.in-Ok-Some.body.items c.next_body.new.self.bytes begins (c.frames.invariant.sound sound)

pub returns-in-Ok-Some-act-clause-damage : goal.returns-in-Ok-Some-act-clause-damage
returns-in-Ok-Some-act-clause-damage g c = λ damage has.
    let begins = rw c.in-Ok-Some.field-0-is at c.in-Ok-Some.ensures.some in
    damage_left c.frames.self.decoder c.next_body.new.self c.in-Ok-Some.body.items begins c.in-Ok-Some.ensures.count damage (c.frames.invariant.damage damage has)

pub returns-in-Ok-Some-act-clause-passes : goal.returns-in-Ok-Some-act-clause-passes
returns-in-Ok-Some-act-clause-passes g c = λ some.
    let begins = rw c.in-Ok-Some.field-0-is at c.in-Ok-Some.ensures.some in
    passes_on c.args.self.now.decoder c.frames.self.decoder c.next_body.new.self c.in-Ok-Some.body.items c.frames.invariant.passes begins c.in-Ok-Some.ensures.count

pub returns-in-Err-act-clause-stopped : goal.returns-in-Err-act-clause-stopped
returns-in-Err-act-clause-stopped g c = λ from to start so.
    let begins = rw (c.in-Ok-Some.field-0-is, ← c.as_slice.ensures.value) at c.in-Ok-Some.ensures.some in
    stopped_at c.frames.self.responder.core c.act.new.self.core c.frames.self.decoder c.next_body.new.self c.as_slice.result.now from to start _ _ begins c.in-Ok-Some.ensures.count
    (c.frames.invariant.progress from to start so) c.in-Err-act.ensures.stops

pub returns-in-Err-act-clause-failed : goal.returns-in-Err-act-clause-failed
returns-in-Err-act-clause-failed g c = λ sink.
    let begins = rw c.in-Ok-Some.field-0-is at c.in-Ok-Some.ensures.some in
    passes_on c.args.self.now.decoder c.frames.self.decoder c.next_body.new.self c.in-Ok-Some.body.items c.frames.invariant.passes begins c.in-Ok-Some.ensures.count

pub frames-preserved : goal.frames-preserved
frames-preserved g c =
    let before = c.frames.invariant in
    let begins = rw (c.in-Ok-Some.field-0-is, ← c.as_slice.ensures.value) at c.in-Ok-Some.ensures.some in
    let steps = c.in-Ok-None-act.ensures.steps in
    record {
      ready = record {
        met = c.in-Ok-None-act.ensures.met;
        running = rw c.in-Ok-None-act.field-0-is at c.in-Ok-None-act.ensures.status;
      };
      stood = (steps.events ++ before.stood.0, steps.stands before.stood.0 before.stood.1);
      shares = c.in-Ok-None-act.ensures.shares;
      progress = λ from to start so.
          progress_acts c.frames.self.responder.core c.act.new.self.core c.frames.self.decoder c.next_body.new.self c.as_slice.result.now from to start _ _ begins c.in-Ok-Some.ensures.count
          (before.progress from to start so) steps;
      passes = inr (passes_on c.args.self.now.decoder c.frames.self.decoder c.next_body.new.self c.as_slice.result.now before.passes begins c.in-Ok-Some.ensures.count);
      sound = λ sound. sound_behind c.frames.self.decoder.bytes c.as_slice.result.now c.next_body.new.self.bytes begins (before.sound sound);
      damage = λ damage has. damage_left c.frames.self.decoder c.next_body.new.self c.as_slice.result.now begins c.in-Ok-Some.ensures.count damage (before.damage damage has);
      count = c.in-Ok-Some.ensures.count ∙ before.count;
      crew = keeps_both _ _ _ before.crew c.act.ensures.crew;
      same = c.in-Ok-None-act.ensures.same (λ h. cc) ∙ before.same;
    }
