use Rattle.std.proofs.Common.{◌≡◌, ◌++◌, ◌∷◌, [], Some, ap, subst, sym, ◌∙◌}
use Rattle.std.proofs.lemmas.Result.{on_ok_weaker}
use Rattle.rpc_peer.specs.Said.{Said}
use Rattle.session_build.specs.Cleaning.{HasCleaned}
use Rattle.session_build.specs.Remembering.{Remembers}
use Rattle.session_build.specs.declared.kept.Kept.{Kept}
use Rattle.session_core.proofs.Handed.{some_same}
use Rattle.session_core.proofs.Reloaded.{core_cleans}
use Rattle.session_core.specs.State.{said_out}
use Rattle.session_core.specs.declared.session.Core.{Core}
use Rattle.session_law.specs.History.{all_cleaned}
use Rattle.session_law.specs.Reloading.{keys_of_targets}
use Rattle.target_graph.specs.Workspace.{Space}
use Rattle.session_core.proofs.session.Core.clean.Goals as goal

pub returns-clause-ok : goal.returns-clause-ok
returns-clause-ok c =
    let old = c.args.self.now in
    let new : Core = c.say.new.self in
    let targets = c.args.targets.now in
    let kept : new.kept ≡ c.clean.new.self = ap (λ (core : Core). core.kept) c.say.ensures.same in
    let in_force : old.workspace ≡ Some c.get.result.now = c.in-Some.is ∙ ap (λ (s : Space). Some s) (sym c.get.ensures) in
    on_ok_weaker c.say.result
    (λ said. core_cleans old new c.args.id targets c.requires.named (said ∙ ap (λ (m : Said). said_out old ++ m ∷ []) c.in_ok-message.ensures)
    (c.say.ensures.same ∙ ap (λ (k : Kept). record old { out = new.out; kept = k }) (sym kept))
    (λ space there builds known. subst (λ (k : Kept). Remembers space (all_cleaned (keys_of_targets space targets) builds) k) (sym kept)
    (subst (λ (s : Space). HasCleaned s targets old.kept c.clean.new.self) (some_same (sym in_force ∙ there)) c.in_ok-clean.ensures.cleaned builds known)))
    c.say.ensures.said
