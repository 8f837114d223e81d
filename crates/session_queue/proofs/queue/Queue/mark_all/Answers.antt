use Rattle.std.proofs.Common.{◌≡◌, List, BuildHasherDefault, FoldHasher, slice_set, true, add-one, arith, ap, sym, subst, ◌∙◌}
use Rattle.std.proofs.Math.ListN.{get_or}
use Rattle.indexmap.specs.IndexSet.{IndexSet}
use Rattle.rpc_peer.specs.declared.message.Id.{Id}
use Rattle.session_queue.specs.IdSet.{HasIdsOf}
use Rattle.session_queue.specs.Waiting.{all_marked}
use Rattle.session_queue.specs.declared.waiting.Waiting.{Waiting}
use Rattle.session_queue.proofs.QueueLaws.{HasIdsOf-marked, cancelled_now, marked_upto-all, marked_upto-set}
use Rattle.session_queue.proofs.queue.Queue.mark_all.Given.{Over}
use Rattle.session_queue.proofs.queue.Queue.mark_all.Goals as goal

all : (g : Over) (c : goal.After-loop-index g) → c.loop-index.self-inside.requests.items ≡ all_marked c.self.inside.requests.items
all g c = c.loop-index.invariant.items ∙ marked_upto-all c.loop-index.index c.self.inside.requests.items (omega (arith, c.loop-index-test.false, c.len-index-end.ensures))

pub invariant_of-self : goal.invariant_of-self
invariant_of-self g c =
    let queue = c.self.inside in
    let held = c.loop-index.self-inside in
    subst (λ (ids : IndexSet Id (BuildHasherDefault FoldHasher)). HasIdsOf held.requests.items ids) (sym c.loop-index.invariant.ids)
    (HasIdsOf-marked (λ waiting. true) queue.requests.items held.requests.items queue.ids c.self.invariant (all g c))

pub index_mut-requires : goal.index_mut-requires
index_mut-requires g c = omega (arith, c.loop-index.invariant.len)

pub loop-index-preserved : goal.loop-index-preserved
loop-index-preserved g c =
    let items = c.loop-index.self-inside.requests.items in
    let index = c.loop-index.index in
    let waiting = c.index_mut.result.now in
    record {
      items =
          ap (λ (w : Waiting g.row.T.Denot). slice_set items index (cancelled_now w)) c.index_mut.ensures.value
          ∙ (ap (λ (queue : List (Waiting g.row.T.Denot)). slice_set queue index (cancelled_now (get_or queue index waiting))) c.loop-index.invariant.items
          ∙ rw add-one (marked_upto-set index c.self.inside.requests.items waiting));
      len = c.loop-index.invariant.len;
      ids = c.loop-index.invariant.ids;
    }

pub returns : goal.returns
returns g c = all g c ∙ ap all_marked c.self.view_is
