use Rattle.std.proofs.Common.{◌≢◌, List, map, not, sym, subst, ◌∙◌}
use Rattle.std.specs.List.{AllPairs}
use Rattle.std.proofs.lemmas.Result.{on_ok_weaker}
use Rattle.reload_messages.proofs.ClearLaws.{IsOther, some_differ}
use Rattle.reload_messages.proofs.ToldLaws.{told_all}
use Rattle.reload_messages.proofs.tell_reload.Goals as goal
use Rattle.reload_messages.specs.Cleared.{HasCleared}
use Rattle.reload_rules.specs.Dropped.{dropped, stays}
use Rattle.build_messages.specs.Outgoing.{outgoing_said}
use Rattle.target_graph.specs.Workspace.{pairs_of}
use Rattle.task_stream.specs.Showing.{shows}
use Rattle.task_stream.specs.declared.shown.TableKey.{TableKey}

pub clear_all-requires : goal.clear_all-requires
clear_all-requires c =
    let old = c.args.old.now in
    let new = c.args.new.now in
    let same = c.as_slice.ensures.value ∙ c.in_ok-keys.ensures.pairs (dropped old.targets new.targets) c.requires.gone in
    subst (AllPairs ◌≢◌) (sym same)
    (some_differ old (λ pair. not (stays old.targets new.targets pair)) (pairs_of old.targets)
    (subst (AllPairs (IsOther old)) c.pairs-pairs.ensures.pairs c.pairs-pairs.ensures.distinct))

pub returns : goal.returns
returns c =
    let old = c.args.old.now in
    let new = c.args.new.now in
    let shown = shows c.args.shown.now in
    let after = shows c.clear_all.new.shown in
    let before = map outgoing_said c.args.told.now.items in
    let middle = map outgoing_said c.clear_all.new.told.items in
    let same = c.as_slice.ensures.value ∙ c.in_ok-keys.ensures.pairs (dropped old.targets new.targets) c.requires.gone in
    on_ok_weaker c.tell_changes.result
    (λ told. told_all old new shown after before middle (map outgoing_said c.tell_changes.new.told.items)
    (subst (λ (keys : List TableKey). HasCleared shown after keys before middle) same c.in_ok-clear_all.ensures) told)
    c.tell_changes.ensures
