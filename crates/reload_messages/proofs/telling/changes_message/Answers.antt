use Rattle.std.proofs.Common.{◌≡◌, ◌≤◌, All, List, false, sym, subst}
use Rattle.std.proofs.lemmas.List.{length-map}
use Rattle.bsp_records.specs.Notices.{did_change_params_data}
use Rattle.bsp_records.specs.ShortAnswers.{IsShortEvent, changes_limit}
use Rattle.bsp_records.specs.declared.notices.BuildTargetEvent.{BuildTargetEvent}
use Rattle.reload_messages.proofs.ToldLaws.{framed_changes}
use Rattle.reload_messages.proofs.telling.changes_message.Goals as goal
use Rattle.serde_json.specs.Data.{Data}
use Rattle.serde_json.specs.Written.{has_float}
use Rattle.session_law.specs.Reloading.{event_of}

pub returns-clause-framed : goal.returns-clause-framed
returns-clause-framed c =
    let root = c.args.workspace.now.root in
    let found = c.args.found.now in
    let told = c.in_ok-changes.ensures in
    framed_changes root found
    (subst (λ (events : List BuildTargetEvent). has_float (did_change_params_data (record { changes = events })) ≡ false) told.events
    (subst (λ (d : Data). has_float d ≡ false) c.in_ok-write_did_change_params.ensures.data c.in_ok-write_did_change_params.ensures.exact))
    (record {
      count = subst (λ n. n ≤ changes_limit) (sym (length-map found (event_of root))) c.requires.few;
      changes = subst (All IsShortEvent) told.events told.short;
    })
