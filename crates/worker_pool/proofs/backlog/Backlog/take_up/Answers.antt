use Rattle.std.proofs.Common.{◌≡◌, ◌<◌, [], ◌∷◌, ap, arith, deque_len, refl}
use Rattle.std.proofs.Math.ListN.{get_or}
use Rattle.worker_pool.specs.declared.job.Job.{Job}
use Rattle.worker_pool.specs.Plain.{plain_job}
use Rattle.worker_pool.proofs.BacklogLaws.{left, on_some, taken}
use Rattle.worker_pool.proofs.backlog.Backlog.take_up.Goals as goal

pub returns : goal.returns
returns c =
    let job = c.unwrap-job.result in
    let within : c.args.index < deque_len c.args.self.now.waiting = omega arith in
    let at : job ≡ get_or c.args.self.now.waiting.items c.args.index job = cc (c.remove.ensures.succeeds job within) in
    let others = on_some c.remove.result job c.unwrap-job.ensures c.remove.ensures.items in
    record {
      finished = refl;
      next = refl;
      given = refl;
      collected = refl;
      drained = refl;
      job = plain_job job;
      there = taken c.args.self.now.hand c.args.self.now.waiting.items c.args.index job c.requires.free c.requires.index at;
      hand = ap (λ (j : Job). plain_job j ∷ []) c.run.ensures;
      out =
          left c.args.self.now.hand c.args.self.now.waiting.items c.remove.new.self.items c.args.index job c.run.result.job c.requires.free others c.run.ensures;
    }
