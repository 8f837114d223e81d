use Rattle.std.proofs.Common.{◌≡◌, ◌++◌, ◌∙◌, List, take, drop, ap}
use Rattle.std.proofs.lemmas.Result.{on_ok_weaker}
use Rattle.serde_json.specs.Written.{compact_text}
use Rattle.ob_text.specs.declared.diagnostic.Diagnostic.{Diagnostic}
use Rattle.bsp_records.specs.Diagnostics.{publish_diagnostics_params_data}
use Rattle.bsp_records.specs.Short.{diagnostics_limit}
use Rattle.bsp_records.specs.declared.publishing.PublishDiagnosticsParams.{PublishDiagnosticsParams}
use Rattle.task_stream.specs.declared.piece.Whole.{Whole}
use Rattle.task_stream.proofs.WaitingLaws.{printed_as}
use Rattle.task_stream.proofs.piece.Piece.print.Goals as goal

pub returns : goal.returns
returns c =
    let p = c.self.inside in
    let whole : c.deref-whole.result.now ≡ p.whole.value = c.deref-whole.ensures in
    let list : c.deref.result.now ≡ p.whole.value.list.value = c.deref.ensures ∙ ap (λ (w : Whole). w.list.value) whole in
    let origin : c.deref-2.result.now ≡ p.whole.value.origin.value = c.deref-2.ensures ∙ ap (λ (w : Whole). w.origin.value) whole in
    on_ok_weaker c.print_publication.result
    (λ printed.
    printed
    ∙ ap (λ (q : PublishDiagnosticsParams). c.args.out.now.items ++ compact_text (publish_diagnostics_params_data q))
    (printed_as p c.args.self.now c.deref-whole.result.now c.part-list.result.now c.deref-2.result.now c.self.view_is whole
    (c.part-list.ensures ∙ ap (λ (l : List Diagnostic). take diagnostics_limit (drop p.first l)) list) origin))
    c.print_publication.ensures
