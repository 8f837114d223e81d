use Rattle.std.proofs.Common.{◌+◌, ℕ, Global, sym, subst, arith}
use Rattle.std.specs.declared.cmp.Reverse.{Reverse}
use Rattle.std.specs.declared.collections.BinaryHeap.{BinaryHeap}
use Rattle.build_plan.proofs.QueueLaws.{IsQueuedTo, queued_none, queued_yes, queued_no, queued_whole, queue_all}
use Rattle.build_plan.proofs.front.put_free.Goals as goal
use Rattle.build_plan.proofs.front.put_free.Goals.{then-waiting-place-eq0, else-waiting-place-eq0}

pub loop-place-init : goal.loop-place-init
loop-place-init c = queued_none c.args.waiting.now c.args.ready.now c.requires.empty c.requires.ordered c.requires.room

pub unwrap-requires : goal.unwrap-requires
unwrap-requires c =
    let size = c.loop-place.invariant.size in
    let room = c.loop-place.invariant.room in
    let h = c.loop-place-test.true in
    c.push.ensures.succeeds (omega arith)

pub loop-place-preserved : goal.loop-place-preserved
loop-place-preserved c =
    let waiting = c.args.waiting.now in
    let i = c.loop-place.place in
    elim c.if-waiting-place-eq0.branch [
      | then-waiting-place-eq0 w ↦
          subst (λ (heap : BinaryHeap (Reverse ℕ) Global). IsQueuedTo waiting (i + 1) heap) (sym w.ready-is)
          (queued_yes waiting i c.loop-place.ready w.push.new.self c.loop-place-test.true c.loop-place.invariant w.if-waiting-place-eq0.true
          (rw w.unwrap.ensures at w.push.ensures.permutation) (rw w.unwrap.ensures at w.push.ensures.heap_order)
          (rw w.unwrap.ensures at w.push.ensures.len) w.push.ensures.capacity)
      | else-waiting-place-eq0 w ↦
          subst (λ (heap : BinaryHeap (Reverse ℕ) Global). IsQueuedTo waiting (i + 1) heap) (sym w.ready-is)
          (queued_no waiting i c.loop-place.ready c.loop-place-test.true c.loop-place.invariant w.if-waiting-place-eq0.false)
    ]

pub returns : goal.returns
returns c = record {
  queue = queue_all c.args.waiting.now c.loop-place.place c.loop-place.ready c.loop-place-test.false c.loop-place.invariant;
  whole = queued_whole c.args.waiting.now c.loop-place.place c.loop-place.ready c.loop-place-test.false c.loop-place.invariant;
}
