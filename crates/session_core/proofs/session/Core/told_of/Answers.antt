use Rattle.std.proofs.Common.{◌≡◌, List, Some, map, ap, subst, sym, ◌∙◌}
use Rattle.reload_messages.proofs.ToldLaws.{reload_bare}
use Rattle.rpc_peer.specs.Said.{Said}
use Rattle.build_messages.specs.Outgoing.{outgoing_said}
use Rattle.session_core.proofs.Bare.{told_bare}
use Rattle.task_stream.specs.Showing.{shows}
use Rattle.session_build.specs.Cleaning.{HasReloaded}
use Rattle.session_core.proofs.Handed.{some_same}
use Rattle.target_graph.specs.Workspace.{Space}
use Rattle.session_core.proofs.session.Core.told_of.Goals as goal

pub returns-clause-kept : goal.returns-clause-kept
returns-clause-kept c =
    let in_force : c.args.self.now.workspace ≡ Some c.get-old.result.now = c.in-Some.is ∙ ap (λ (s : Space). Some s) (sym c.get-old.ensures) in
    λ space there. subst (λ (s : Space). HasReloaded s c.args.workspace.now c.args.self.now.kept c.reload.new.self) (some_same (sym in_force ∙ there)) c.in_ok-reload.ensures.reloaded

pub returns-clause-bare : goal.returns-clause-bare
returns-clause-bare c =
    let own = c.in_ok-tell_reload.ensures in
    let all = map outgoing_said c.tell_reload.new.told.items in
    let none : List Said = map outgoing_said c.new-told.result.items in
    told_bare none all own.own (ap (map outgoing_said) c.new-told.ensures.items) own.behind
    (reload_bare c.get-old.result.now c.args.workspace.now (shows c.args.self.now.shown) (shows c.tell_reload.new.shown) none all own)
