use Rattle.std.proofs.Common.{◌≡◌, ◌++◌, [], Some, map, ap, refl, subst, sym, ◌∙◌}
use Rattle.reload_messages.specs.Told.{HasTold}
use Rattle.rpc_peer.specs.Said.{result}
use Rattle.serde_json.specs.Data.{null}
use Rattle.session_build.specs.Cleaning.{HasReloaded}
use Rattle.build_messages.specs.Outgoing.{outgoing_said}
use Rattle.session_build.specs.declared.kept.Kept.{Kept}
use Rattle.session_core.proofs.Bare.{bare_told}
use Rattle.session_core.proofs.Reloaded.{reloads_to, said_behind}
use Rattle.session_core.specs.State.{said_out}
use Rattle.session_core.specs.declared.session.Core.{Core}
use Rattle.target_graph.specs.Workspace.{Space}
use Rattle.task_stream.specs.Showing.{shows}
use Rattle.task_stream.specs.declared.shown.Shown.{Shown}
use Rattle.session_core.proofs.session.Core.change_to.Goals as goal

pub returns-clause-ok : goal.returns-clause-ok
returns-clause-ok c =
    let old = c.args.self.now in
    let next = c.args.workspace in
    let spoke : Core = c.tell.new.self in
    let new : Core = record spoke { workspace = Some c.in_ok-next.next } in
    let told = c.in_ok-told.told.items in
    let all = map outgoing_said told in
    let said = c.in_ok-tell.ensures.said ∙ ap (λ (core : Core). said_out core ++ map outgoing_said c.push_back.new.self.items) c.in_ok-told.ensures.same in
    reloads_to old new c.args.id c.requires.named next all (ap (λ (s : Space). Some s) c.in_ok-next.ensures)
    (said_behind (said_out old) (said_out new) told _ c.null_answer.result (result (Some c.args.id) null) said c.in_ok-push_back.ensures.items c.null_answer.ensures)
    (ap (λ (core : Core). core.closed) c.in_ok-tell.ensures.same ∙ ap (λ (core : Core). core.closed) c.in_ok-told.ensures.same)
    (ap (λ (core : Core). core.taken) c.in_ok-tell.ensures.same ∙ ap (λ (core : Core). core.taken) c.in_ok-told.ensures.same)
    (ap (λ (core : Core). core.status) c.in_ok-tell.ensures.same ∙ ap (λ (core : Core). core.status) c.in_ok-told.ensures.same)
    (λ space there. subst (λ (shown : Shown). HasTold space next (shows old.shown) (shows shown) [] all) (sym (ap (λ (core : Core). core.shown) c.in_ok-tell.ensures.same)) (c.in_ok-told.ensures.told space there))
    (λ space there. subst (λ (kept : Kept). HasReloaded space next old.kept kept) (sym (ap (λ (core : Core). core.kept) c.in_ok-tell.ensures.same)) (c.in_ok-told.ensures.kept space there))

pub returns-clause-bare : goal.returns-clause-bare
returns-clause-bare c =
    let old = c.args.self.now in
    let new : Core = record c.tell.new.self { workspace = Some c.in_ok-next.next } in
    let told = c.in_ok-told.told.items in
    let said = c.in_ok-tell.ensures.said ∙ ap (λ (core : Core). said_out core ++ map outgoing_said c.push_back.new.self.items) c.in_ok-told.ensures.same in
    bare_told old new (map outgoing_said told) (result (Some c.args.id) null)
    (said_behind (said_out old) (said_out new) told _ c.null_answer.result (result (Some c.args.id) null) said c.in_ok-push_back.ensures.items c.null_answer.ensures)
    c.in_ok-told.ensures.bare refl
