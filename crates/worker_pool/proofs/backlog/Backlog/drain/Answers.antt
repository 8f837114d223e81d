use Rattle.std.proofs.Common.{◌≡◌, ◌∙◌, arith, length, map, refl, sym}
use Rattle.std.proofs.lemmas.List.{length-map}
use Rattle.worker_pool.specs.Plain.{plain_job}
use Rattle.worker_pool.proofs.BacklogLaws.{dropped}
use Rattle.worker_pool.proofs.backlog.Backlog.drain.Goals as goal

pub returns : goal.returns
returns c =
    let waiting = c.args.self.now.waiting.items in
    let counted : c.len-count.result ≡ length waiting = omega arith in
    let gone = map plain_job waiting in
    record {
      finished = refl;
      next = refl;
      given = refl;
      collected = refl;
      drained = refl;
      hand = refl;
      gone = gone;
      each = length-map waiting plain_job ∙ sym counted;
      out = dropped c.args.self.now.hand gone c.clear.new.self.items c.clear.ensures.items;
      all = counted ∙ sym (length-map waiting plain_job);
    }
