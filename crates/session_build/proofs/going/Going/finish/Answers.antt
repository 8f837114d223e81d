use Rattle.std.proofs.Common.{List, map, ap, subst, ◌∙◌}
use Rattle.std.specs.List.{list_any}
use Rattle.std.proofs.lemmas.List.Elements.{All-head}
use Rattle.ob_text.specs.Code.{severity_of}
use Rattle.ob_text.specs.declared.diagnostic.Diagnostic.{Diagnostic}
use Rattle.oberon_module.specs.declared.check.Checked.{Checked}
use Rattle.session_law.specs.Builds.{build_document, build_status, has_error, is_error_severity}
use Rattle.session_law.specs.IsFramed.{IsFramed}
use Rattle.session_law.specs.declared.BuildDocument.{BuildDocument}
use Rattle.session_law.specs.Tasks.{check_finishes}
use Rattle.session_build.specs.Going.{IsJob}
use Rattle.build_messages.specs.Outgoing.{outgoing_said}
use Rattle.session_build.proofs.GoesLaws.{goes_by}
use Rattle.session_build.proofs.SoundLaws.{finish_sound}
use Rattle.session_build.proofs.TellLaws.{said_push}
use Rattle.task_stream.specs.Showing.{shows}
use Rattle.session_build.proofs.going.Going.finish.Goals as goal

pub settle-requires-clause-among : goal.settle-requires-clause-among
settle-requires-clause-among c =
    (c.requires.sound.modules c.args.job.pair).1 (All-head (IsJob c.args.self.now.checks) c.args.job c.args.self.now.jobs.items c.requires.sound.each).among

pub settle-requires-clause-taken : goal.settle-requires-clause-taken
settle-requires-clause-taken c = (All-head (IsJob c.args.self.now.checks) c.args.job c.args.self.now.jobs.items c.requires.sound.each).taken

pub settle-requires-clause-unsettled : goal.settle-requires-clause-unsettled
settle-requires-clause-unsettled c = (All-head (IsJob c.args.self.now.checks) c.args.job c.args.self.now.jobs.items c.requires.sound.each).unsettled

pub returns-clause-sound : goal.returns-clause-sound
returns-clause-sound c =
    finish_sound c.args.at.now c.args.self.now c.settle.new.self c.args.job c.args.fact c.args.keys.now c.settle.new.keys
    (shows c.args.shown.now) (shows c.settle.new.shown) (map outgoing_said c.push_back.new.self.items) (map outgoing_said c.settle.new.out.items) c.requires.sound c.in_ok-settle.ensures

pub returns-clause-goes : goal.returns-clause-goes
returns-clause-goes c =
    let at = c.args.at.now in
    let job = c.args.job in
    let fact = c.args.fact in
    let document : BuildDocument = build_document at.workspace.value job.pair in
    let finish = check_finishes at.number job.number job.target (build_status (has_error (record { document = document; list = fact.checked.list.items }))) in
    let error = λ (ds : List Diagnostic). list_any (λ (d : Diagnostic). is_error_severity (severity_of d.code)) ds in
    let failed = c.has_error.ensures ∙ ap error (c.as_slice.ensures.value ∙ ap (λ (x : Checked). x.list.items) c.checked.ensures.checked) in
    let status = c.status_of-status.ensures ∙ ap build_status failed in
    let said = c.in_ok-finish.ensures.said ∙ ap (check_finishes at.number job.number job.target) status in
    goes_by at c.requires.setting c.args.self.now c.settle.new.self job (map outgoing_said c.args.out.now.items) (map outgoing_said c.push_back.new.self.items)
    (map outgoing_said c.settle.new.out.items) c.push.new.self c.args.keys.now c.settle.new.keys (shows c.args.shown.now) (shows c.settle.new.shown) c.requires.none fact
    c.in_ok-settle.ensures.is_fact
    (said_push c.args.out.now.items c.push_back.new.self.items c.in_ok-finish.finish finish c.in_ok-push_back.ensures.items said)
    (subst IsFramed said c.in_ok-finish.ensures.framed) c.requires.sound.sized c.in_ok-settle.ensures c.in_ok-push.ensures.items

pub returns-clause-keeps : goal.returns-clause-keeps
returns-clause-keeps c = record { world = c.in_ok-settle.ensures.world_same; views = c.in_ok-settle.ensures.stays }
