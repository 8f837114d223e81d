use Rattle.std.proofs.Common.{◌≡◌, ◌++◌, ◌∷◌, ◌∙◌, ◌-◌, [], List, length, true, drop, take, ap, sym, arith}
use Rattle.std.specs.Prelude.{◌==◌}
use Rattle.std.proofs.lemmas.List.{length-map}
use Rattle.ob_text.specs.declared.diagnostic.Diagnostic.{Diagnostic}
use Rattle.bsp_records.specs.Short.{diagnostics_limit}
use Rattle.bsp_records.specs.Shown.{shown}
use Rattle.bsp_records.specs.declared.diagnostics.DiagnosticRecord.{DiagnosticRecord}
use Rattle.bsp_records.specs.declared.publishing.PublishDiagnosticsParams.{PublishDiagnosticsParams}
use Rattle.task_stream.specs.Pieces.{piece}
use Rattle.task_stream.specs.Waiting.{records_of}
use Rattle.task_stream.specs.declared.piece.Whole.{Whole}
use Rattle.task_stream.proofs.CutLaws.{first_piece, next_piece, pieces_left}
use Rattle.task_stream.proofs.shown.cut.Goals as goal

pub pieces-init : goal.pieces-init
pieces-init c =
    let whole : Whole = c.args.whole in
    let records : List DiagnosticRecord = records_of whole in
    let count = length c.as_slice-count.result.now in
    let listed : c.as_slice-count.result.now ≡ whole.list.value = c.as_slice-count.ensures ∙ c.deref.ensures in
    let size : length records ≡ count = length-map whole.list.value shown ∙ sym (ap (λ (l : List Diagnostic). length l) listed) in
    let own : c.in_ok-new.field-0 ≡ piece whole.key whole.origin.value true (take diagnostics_limit (drop 0 records)) =
    c.in_ok-new.ensures ∙ ap (λ (w : Whole). piece w.key w.origin.value true (take diagnostics_limit (drop 0 (records_of w)))) c.in_ok-whole.ensures.ok in
    let items : c.push.new.self.items ≡ piece whole.key whole.origin.value true (take diagnostics_limit (drop 0 records)) ∷ [] =
    c.in_ok-push.ensures.items
    ∙ (ap (λ (l : List PublishDiagnosticsParams). l ++ c.in_ok-new.field-0 ∷ []) c.new-pieces.ensures.items ∙ ap (λ (p : PublishDiagnosticsParams). p ∷ []) own) in
    record {
      some = λ more. omega (arith, more, c.min.ensures);
      goes_on = ap (λ (l : List PublishDiagnosticsParams). l ++ pieces_left whole.key whole.origin.value records count (count - c.min.result)) items
          ∙ first_piece whole.key whole.origin.value records count size c.min.result c.min.ensures;
    }

pub pieces-preserved : goal.pieces-preserved
pieces-preserved c =
    let whole : Whole = c.args.whole in
    let records : List DiagnosticRecord = records_of whole in
    let count = length c.as_slice-count.result.now in
    let left = c.pieces.left in
    let listed : c.as_slice-count.result.now ≡ whole.list.value = c.as_slice-count.ensures ∙ c.deref.ensures in
    let size : length records ≡ count = length-map whole.list.value shown ∙ sym (ap (λ (l : List Diagnostic). length l) listed) in
    let own : c.in_ok-new-2.field-0 ≡ piece whole.key whole.origin.value (count - left == 0) (take diagnostics_limit (drop (count - left) records)) =
    c.in_ok-new-2.ensures ∙ ap (λ (w : Whole). piece w.key w.origin.value (count - left == 0) (take diagnostics_limit (drop (count - left) (records_of w)))) c.in_ok-whole.ensures.ok in
    let items = c.in_ok-push-2.ensures.items ∙ ap (λ (p : PublishDiagnosticsParams). c.pieces.pieces.items ++ p ∷ []) own in
    record {
      some = λ more. omega (arith, more, c.min-in-pieces.ensures, c.pieces-test.true, c.pieces.invariant.some c.pieces-test.true);
      goes_on = ap (λ (l : List PublishDiagnosticsParams). l ++ pieces_left whole.key whole.origin.value records count (left - c.min-in-pieces.result)) items
          ∙ (next_piece whole.key whole.origin.value records count size c.pieces.pieces.items left c.min-in-pieces.result c.min-in-pieces.ensures c.pieces-test.true
          (c.pieces.invariant.some c.pieces-test.true)
          ∙ c.pieces.invariant.goes_on);
    }
