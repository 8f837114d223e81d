use Rattle.std.proofs.Common.{◌≡◌, ◌-◌, sym, ◌∙◌}
use Rattle.std.proofs.lemmas.List.{get_or-set_same}
use Rattle.build_plan.proofs.QueueLaws.{inside, not_free, has_room, pushed, counts_one, queue_one, joined_push}
use Rattle.build_plan.proofs.countdown.count_down_one.Goals as goal

pub unwrap-requires : goal.unwrap-requires
unwrap-requires c =
    let waiting = c.args.waiting.now.items in
    let free = not_free waiting c.args.ready.now c.args.ready.now c.args.place c.index_mut.result.now c.requires.waits c.index_mut.ensures.value c.requires.queue in
    c.push.ensures.succeeds (has_room waiting c.args.ready.now c.args.place c.requires.queue (inside waiting c.args.place c.requires.waits) free)

pub returns-then-index-eq0-clause-queue : goal.returns-then-index-eq0-clause-queue
returns-then-index-eq0-clause-queue c =
    let waiting = c.args.waiting.now.items in
    let w = c.index_mut.result.now in
    let last : w - 1 ≡ 0 = sym (c.index.ensures ∙ get_or-set_same waiting c.args.place (w - 1) c.index.result.now (inside waiting c.args.place c.requires.waits)) ∙ c.if-index-eq0.true in
    let moved = rw c.unwrap.ensures at c.push.ensures.permutation in
    let kept = rw c.unwrap.ensures at c.push.ensures.heap_order in
    let joined = joined_push waiting c.args.ready.now c.push.new.self c.args.place w c.requires.waits c.index_mut.ensures.value c.requires.queue last
    (pushed c.args.place c.args.ready.now c.push.new.self moved) in
    queue_one waiting c.args.ready.now c.push.new.self c.args.place w c.requires.waits c.index_mut.ensures.value c.requires.queue joined kept c.push.ensures.capacity

pub returns-then-index-eq0-clause-counts : goal.returns-then-index-eq0-clause-counts
returns-then-index-eq0-clause-counts c =
    let waiting = c.args.waiting.now.items in
    let w = c.index_mut.result.now in
    let last : w - 1 ≡ 0 = sym (c.index.ensures ∙ get_or-set_same waiting c.args.place (w - 1) c.index.result.now (inside waiting c.args.place c.requires.waits)) ∙ c.if-index-eq0.true in
    let moved = rw c.unwrap.ensures at c.push.ensures.permutation in
    let kept = rw c.unwrap.ensures at c.push.ensures.heap_order in
    let joined = joined_push waiting c.args.ready.now c.push.new.self c.args.place w c.requires.waits c.index_mut.ensures.value c.requires.queue last
    (pushed c.args.place c.args.ready.now c.push.new.self moved) in
    counts_one waiting c.args.ready.now c.push.new.self c.args.place w c.requires.waits c.index_mut.ensures.value c.requires.queue joined kept c.push.ensures.capacity
