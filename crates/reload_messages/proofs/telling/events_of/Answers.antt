use Rattle.std.proofs.Common.{◌∷◌, ◌++◌, [], All, List, take, ap, sym, subst, ◌∙◌}
use Rattle.std.proofs.lemmas.List.{take_more}
use Rattle.bsp_records.specs.Notices.{HasEventTexts}
use Rattle.bsp_records.specs.ShortAnswers.{IsShortEvent}
use Rattle.bsp_records.specs.declared.notices.BuildTargetEvent.{BuildTargetEvent}
use Rattle.reload_messages.proofs.ToldLaws.{AreEvents, one_event}
use Rattle.reload_messages.proofs.telling.events_of.Goals as goal
use Rattle.reload_rules.specs.declared.change.ChangedTarget.{ChangedTarget}

pub loop-change-preserved : goal.loop-change-preserved
loop-change-preserved c =
    let root = c.args.workspace.now.root in
    let found : List ChangedTarget = c.args.found.now in
    let i = c.loop-change.change-index in
    let change : ChangedTarget = c.change-item.result in
    let more = take_more found i change c.loop-change-test.true ∙ ap (λ (x : ChangedTarget). take i found ++ x ∷ []) (sym c.change-item.is) in
    subst (λ (cs : List ChangedTarget). AreEvents root cs c.push.new.self.items) (sym more)
    (subst (AreEvents root (take i found ++ change ∷ [])) (sym {A = List BuildTargetEvent} c.in_ok-push.ensures.items)
    (one_event root (take i found) change c.loop-change.events.items c.in_ok-event_of.field-0 c.loop-change.invariant c.in_ok-event_of.ensures.event
    c.in_ok-event_of.ensures.texts c.in_ok-event_of.ensures.short))

pub returns-clause-texts : goal.returns-clause-texts
returns-clause-texts c = subst (All HasEventTexts) (sym c.from_vec.ensures) c.loop-change.invariant.texts

pub returns-clause-short : goal.returns-clause-short
returns-clause-short c = subst (All IsShortEvent) (sym c.from_vec.ensures) c.loop-change.invariant.short
