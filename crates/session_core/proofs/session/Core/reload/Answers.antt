use Rattle.session_core.proofs.Reloaded.{reloads_by, reloads_refused, reread_root}
use Rattle.session_core.specs.State.{handed_of}
use Rattle.session_core.proofs.session.Core.reload.Goals as goal
use Rattle.std.proofs.lemmas.Result.{on_ok_weaker}

pub change_to-requires-clause-root : goal.change_to-requires-clause-root
change_to-requires-clause-root c = reread_root c.args.self.now (handed_of c.args.got) _ c.in_ok-workspace.ensures.read c.in-Ok.workspace c.in-Ok.is

pub returns-in-Ok-clause-ok : goal.returns-in-Ok-clause-ok
returns-in-Ok-clause-ok c =
    on_ok_weaker c.change_to.result
    (reloads_by c.args.self.now (handed_of c.args.got) _ c.in_ok-workspace.ensures.read c.change_to.new.self c.args.id c.in-Ok.workspace c.in-Ok.is)
    c.change_to.ensures.ok

pub returns-in-Err-clause-ok : goal.returns-in-Err-clause-ok
returns-in-Err-clause-ok c =
    on_ok_weaker c.refuse_first.result
    (reloads_refused c.args.self.now (handed_of c.args.got) _ c.in_ok-workspace.ensures.read c.refuse_first.new.self c.args.id c.in-Err.reason c.in-Err.is)
    c.refuse_first.ensures.ok
