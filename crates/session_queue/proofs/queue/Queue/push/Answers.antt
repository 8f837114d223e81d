use Rattle.std.proofs.Common.{true, ap, ◌∙◌}
use Rattle.std.specs.Prelude.{if◌then◌else◌}
use Rattle.indexmap.specs.IndexSet.{contains}
use Rattle.rpc_peer.specs.declared.message.Id.{Id}
use Rattle.session_queue.specs.IdSet.{equal}
use Rattle.session_queue.specs.Waiting.{is_open}
use Rattle.session_queue.proofs.QueueLaws.{HasIdsOf-push}
use Rattle.session_queue.proofs.queue.Queue.push.Goals as goal

pub invariant_of-self-2 : goal.invariant_of-self-2
invariant_of-self-2 g c =
    let queue = c.self.inside in
    let waiting = c.args.waiting in
    let told = λ (id : Id). c.in_ok-insert.ensures.updates.0 id ∙ ap (λ (key : Id). if equal key id then true else contains equal queue.ids id) c.in_ok-id.ensures in
    HasIdsOf-push queue.requests.items c.reserve.new.self.items c.push_back_reserved.new.self.items waiting queue.ids c.insert.new.self c.self.invariant (ap (is_open waiting.id) c.self.view_is ∙ c.requires)
    c.reserve.ensures.items c.push_back_reserved.ensures.items told
