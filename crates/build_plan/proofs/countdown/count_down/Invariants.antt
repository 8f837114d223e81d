use Rattle.std.proofs.Common.{take}
use Rattle.build_plan.specs.Front.{IsQueue, CountsDown}
use Rattle.build_plan.proofs.countdown.count_down.Given as goal

abbrev pub invariant-loop-place : goal.invariant-loop-place
invariant-loop-place l = record {
  queue : IsQueue l.waiting.items l.ready;
  counts : CountsDown (take l.place-index l.places) l.initial.waiting.items l.initial.ready l.waiting.items l.ready;
}
