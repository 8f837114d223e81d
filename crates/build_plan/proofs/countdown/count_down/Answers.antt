use Rattle.build_plan.proofs.QueueLaws.{still_waits, counts_more}
use Rattle.build_plan.proofs.countdown.count_down.Goals as goal

pub count_down_one-requires-clause-waits : goal.count_down_one-requires-clause-waits
count_down_one-requires-clause-waits c =
    still_waits c.args.places.now c.args.waiting.now.items c.args.ready.now c.loop-place.place-index c.loop-place.waiting.items c.loop-place.ready
    c.loop-place-test.true c.loop-place.invariant.counts c.requires.waits

pub loop-place-preserved : goal.loop-place-preserved
loop-place-preserved c = record {
  queue = c.count_down_one.ensures.queue;
  counts = counts_more c.args.places.now c.args.waiting.now.items c.args.ready.now c.loop-place.place-index c.loop-place.waiting.items c.loop-place.ready
      c.loop-place-test.true c.loop-place.invariant.counts c.count_down_one.new.waiting.items c.count_down_one.new.ready c.count_down_one.ensures.counts;
}
