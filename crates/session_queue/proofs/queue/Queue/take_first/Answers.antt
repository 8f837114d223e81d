use Rattle.std.proofs.Common.{[], refl}
use Rattle.session_queue.proofs.QueueLaws.{HasIdsOf-without}
use Rattle.session_queue.proofs.queue.Queue.take_first.Goals as goal

pub invariant_of-self-2 : goal.invariant_of-self-2
invariant_of-self-2 g c =
    let queue = c.self.inside in
    let rest = c.pop_front.new.self.items in
    HasIdsOf-without [] c.in_ok-waiting.waiting rest queue.requests.items rest queue.ids c.swap_remove.new.self c.self.invariant c.in_ok-waiting.ensures.items refl c.swap_remove.ensures.updates.0
