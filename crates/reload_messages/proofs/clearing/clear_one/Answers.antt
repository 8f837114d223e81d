use Rattle.std.proofs.Common.{List, map, refl}
use Rattle.std.proofs.lemmas.Result.{on_ok_weaker}
use Rattle.bsp_records.specs.declared.publishing.PublishDiagnosticsParams.{PublishDiagnosticsParams}
use Rattle.reload_messages.proofs.ClearLaws.{one_cleared}
use Rattle.build_messages.proofs.Publications.{all_framed}
use Rattle.build_messages.specs.Outgoing.{outgoing_said}
use Rattle.task_stream.specs.Showing.{shows}
use Rattle.reload_messages.proofs.clearing.clear_one.Goals as goal

pub returns : goal.returns
returns c =
    let pieces : List PublishDiagnosticsParams = c.in_ok-pieces.pieces.items in
    on_ok_weaker c.say_all.result
    (λ said. one_cleared (shows c.args.shown.now) (shows c.clear.new.self) c.args.key.now pieces (map outgoing_said c.args.told.now.items) (map outgoing_said c.say_all.new.told.items)
    c.in_ok-pieces.ensures.same c.in_ok-pieces.ensures.other (c.in_ok-pieces.ensures.client (shows c.args.shown.now) refl) c.in_ok-pieces.ensures.table said (all_framed pieces c.in_ok-pieces.ensures.short))
    c.say_all.ensures
