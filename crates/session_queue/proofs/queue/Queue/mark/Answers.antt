use Rattle.std.proofs.Common.{slice_set, ap, sym, ◌∙◌}
use Rattle.session_queue.specs.Waiting.{has_this_id, is_open, marked_where}
use Rattle.session_queue.proofs.QueueLaws.{HasIdsOf-marked, cancelled_now, does_not_wait, marks_one, none_has_it, waits}
use Rattle.session_queue.proofs.queue.Queue.mark.Goals as goal

pub invariant_of-self : goal.invariant_of-self
invariant_of-self g c =
    let queue = c.self.inside in
    let items = queue.requests.items in
    let id = c.args.id.now in
    let waiting = c.index_mut.result.now in
    HasIdsOf-marked (has_this_id id) items (slice_set items c.in-Some.index (cancelled_now waiting)) queue.ids c.self.invariant
    (marks_one id items c.in-Some.index waiting c.self.invariant.apart (sym c.in-Some.ensures) c.index_mut.ensures.value)

pub returns-in-Some-clause-open : goal.returns-in-Some-clause-open
returns-in-Some-clause-open g c =
    let id = c.args.id.now in
    sym (waits id c.self.inside.requests.items c.in-Some.index c.index_mut.result.now (sym c.in-Some.ensures)) ∙ ap (is_open id) c.self.view_is

pub returns-in-Some-clause-marked : goal.returns-in-Some-clause-marked
returns-in-Some-clause-marked g c =
    let id = c.args.id.now in
    marks_one id c.self.inside.requests.items c.in-Some.index c.index_mut.result.now c.self.invariant.apart (sym c.in-Some.ensures) c.index_mut.ensures.value
    ∙ ap (marked_where (has_this_id id)) c.self.view_is

pub returns-in-None-clause-open : goal.returns-in-None-clause-open
returns-in-None-clause-open g c =
    let id = c.args.id.now in
    sym (does_not_wait id c.self.inside.requests.items (sym c.in-None.ensures)) ∙ ap (is_open id) c.self.view_is

pub returns-in-None-clause-marked : goal.returns-in-None-clause-marked
returns-in-None-clause-marked g c =
    let id = c.args.id.now in
    sym (none_has_it id c.args.self.now (ap (is_open id) (sym c.self.view_is) ∙ does_not_wait id c.self.inside.requests.items (sym c.in-None.ensures)))
