use Rattle.std.proofs.Common.{ap, sym, ◌∙◌}
use Rattle.session_queue.specs.Waiting.{first_marked, kept_of, marked_of, without}
use Rattle.session_queue.proofs.CallerLaws.{TakesMarked, kept_stays, marked_falls, taken_by_id, taken_is_first}
use Rattle.session_queue.proofs.QueueLaws.{HasIdsOf-without, none_at_all, takes_marked}
use Rattle.session_queue.proofs.queue.Queue.take_marked.Given.{Over}
use Rattle.session_queue.proofs.queue.Queue.take_marked.Goals as goal

pub returns-in_err-index-clause-first : goal.returns-in_err-index-clause-first
returns-in_err-index-clause-first g c =
    c.from_residual.ensures ∙ sym (ap first_marked (sym c.self.view_is) ∙ none_at_all c.self.inside.requests.items (sym c.in_err-index.ensures))

took : (g : Over) (c : goal.After-swap_remove g) → TakesMarked c.self.inside.requests.items c.in_ok-waiting.waiting c.remove.new.self.items
took g c = takes_marked c.self.inside.requests.items c.remove.new.self.items c.in_ok-index.index c.in_ok-waiting.waiting (sym c.in_ok-index.ensures) c.in_ok-waiting.ensures.value c.in_ok-waiting.ensures.items

pub invariant_of-self-2 : goal.invariant_of-self-2
invariant_of-self-2 g c =
    let queue = c.self.inside in
    let takes = took g c in
    HasIdsOf-without takes.before c.in_ok-waiting.waiting takes.after queue.requests.items c.remove.new.self.items queue.ids c.swap_remove.new.self c.self.invariant takes.was takes.is c.swap_remove.ensures.updates.0

pub returns-clause-first : goal.returns-clause-first
returns-clause-first g c = sym (taken_is_first _ _ _ (took g c)) ∙ ap first_marked c.self.view_is

pub returns-clause-others : goal.returns-clause-others
returns-clause-others g c =
    let waiting = c.in_ok-waiting.waiting in
    taken_by_id c.self.inside.requests.items c.remove.new.self.items waiting c.self.invariant.apart (took g c) ∙ ap (without waiting.id) c.self.view_is

pub returns-clause-marked : goal.returns-clause-marked
returns-clause-marked g c = ap marked_of (sym c.self.view_is) ∙ marked_falls _ _ _ (took g c)

pub returns-clause-kept : goal.returns-clause-kept
returns-clause-kept g c = kept_stays _ _ _ (took g c) ∙ ap kept_of c.self.view_is
