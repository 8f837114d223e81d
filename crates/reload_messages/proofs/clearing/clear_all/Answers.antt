use Rattle.std.proofs.Common.{◌∷◌, ◌++◌, [], List, map, take, ap, sym, subst, ◌∙◌}
use Rattle.std.proofs.lemmas.List.{take_more}
use Rattle.reload_messages.proofs.ClearLaws.{AreCleared, keys_before, one_more}
use Rattle.reload_messages.proofs.clearing.clear_all.Goals as goal
use Rattle.build_messages.specs.Outgoing.{outgoing_said}
use Rattle.task_stream.specs.Showing.{shows}
use Rattle.task_stream.specs.declared.shown.TableKey.{TableKey}

pub loop-key-preserved : goal.loop-key-preserved
loop-key-preserved c =
    let keys : List TableKey = c.args.keys.now in
    let i = c.loop-key.key-index in
    let key : TableKey = c.key-item.result in
    let old = shows c.args.shown.now in
    let new = shows c.clear_one.new.shown in
    let before = map outgoing_said c.args.told.now.items in
    let after = map outgoing_said c.clear_one.new.told.items in
    let more = take_more keys i key c.loop-key-test.true ∙ ap (λ (k : TableKey). take i keys ++ k ∷ []) (sym c.key-item.is) in
    subst (λ (ks : List TableKey). AreCleared old new ks before after) (sym more)
    (one_more old (shows c.loop-key.shown) new (take i keys) key before (map outgoing_said c.loop-key.told.items) after
    (keys_before keys i key c.loop-key-test.true c.key-item.is c.requires) c.loop-key.invariant c.in_ok-clear_one.ensures)
