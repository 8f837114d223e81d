use Rattle.std.proofs.Common.{List, map, ap, ◌∙◌, refl}
use Rattle.std.specs.List.{list_any}
use Rattle.bsp_records.specs.declared.publishing.PublishDiagnosticsParams.{PublishDiagnosticsParams}
use Rattle.ob_text.specs.Code.{severity_of}
use Rattle.ob_text.specs.declared.diagnostic.Diagnostic.{Diagnostic}
use Rattle.build_messages.specs.Outgoing.{outgoing_said}
use Rattle.session_law.specs.Builds.{is_error_severity}
use Rattle.build_messages.proofs.Publications.{all_framed, one_shown, origin_within}
use Rattle.task_stream.specs.Showing.{shows}
use Rattle.build_messages.proofs.publishing.publish_one.Goals as goal

pub returns : goal.returns
returns c =
    let it = c.args.document.now in
    let list : List Diagnostic = c.args.list.items in
    let origin = c.args.origin.now.value in
    let pieces : List PublishDiagnosticsParams = c.in_ok-pieces.pieces.items in
    one_shown (shows c.args.shown.now) (shows c.publish.new.self) it origin list (map outgoing_said c.args.out.now.items) (map outgoing_said c.say_all.new.out.items)
    pieces c.has_error-failed.result
    c.in_ok-pieces.ensures.same c.in_ok-pieces.ensures.other (c.in_ok-pieces.ensures.client (shows c.args.shown.now) refl) c.in_ok-pieces.ensures.table
    c.in_ok-say_all.ensures
    (all_framed pieces (c.in_ok-pieces.ensures.short (origin_within origin 1024 c.requires)))
    (c.has_error-failed.ensures ∙ ap (λ (ds : List Diagnostic). list_any (λ (d : Diagnostic). is_error_severity (severity_of d.code)) ds) c.as_slice.ensures.value)
