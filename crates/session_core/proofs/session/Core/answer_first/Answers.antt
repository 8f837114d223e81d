use Rattle.std.proofs.Common.{◌≡◌, Some, ap, ◌∙◌, subst}
use Rattle.rpc_peer.specs.Said.{result}
use Rattle.std.proofs.lemmas.Result.{on_ok_weaker}
use Rattle.session_core.proofs.Moving.{says_first}
use Rattle.session_verdicts.specs.Judging.{Fits}
use Rattle.session_core.specs.State.{plain_of}
use Rattle.session_core.specs.declared.session.Core.{Core}
use Rattle.session_verdicts.specs.declared.verdicts.Answer.TheVariants as answers
use Rattle.session_core.proofs.session.Core.answer_first.Goals as goal

pub returns-in_ok-say-in-Opening-clause-ok : goal.returns-in_ok-say-in-Opening-clause-ok
returns-in_ok-say-in-Opening-clause-ok c =
    let old = c.args.self.now in
    let same = c.say.ensures.same in
    let space : c.in_ok-workspace-in-Opening.workspace ≡ c.in-Opening.workspace = c.in_ok-workspace-in-Opening.ensures in
    says_first old (record c.say.new.self { workspace = Some c.in_ok-workspace-in-Opening.workspace }) c.args.id c.args.answer (answers.Opening c.in-Opening.workspace) c.in-Opening.is _ (c.success.ensures ∙ ap (λ d. result (Some c.args.id) d) c.in_ok-value-in-Opening.ensures)
    c.in_ok-say-in-Opening.ensures.said (λ i. record (plain_of (same i)) { force = Some (space i) }) c.requires.named c.requires.short (ap (λ (core : Core). core.kept) same)

pub returns-in-Refused-clause-ok : goal.returns-in-Refused-clause-ok
returns-in-Refused-clause-ok c =
    on_ok_weaker c.refuse_first.result
    (λ ok o number v first runs owed fits. ok o number v first runs owed (subst (Fits v) c.in-Refused.is fits))
    c.refuse_first.ensures.ok
