use Rattle.std.proofs.Common.{◌≡◌, deque_len}
use Rattle.session_queue.proofs.QueueLaws.{marked_upto}
use Rattle.session_queue.proofs.queue.Queue.mark_all.Given as goal

abbrev pub invariant-loop-index : goal.invariant-loop-index
invariant-loop-index g l = record {
  items : l.self-inside.requests.items ≡ marked_upto l.index l.initial.self-inside.requests.items;
  len : deque_len l.self-inside.requests ≡ l.index-end;
  ids : l.self-inside.ids ≡ l.initial.self-inside.ids;
}
