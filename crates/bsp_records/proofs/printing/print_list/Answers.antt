use Rattle.std.proofs.Common.{◌≡◌, ◌++◌, ◌∷◌, ◌∙◌, ℕ, List, map, true, ap, sym, arith}
use Rattle.std.proofs.lemmas.Grind.{common_steps}
use Rattle.ob_text.specs.declared.diagnostic.Diagnostic.{Diagnostic}
use Rattle.serde_json.specs.View.{items_of}
use Rattle.serde_json.specs.Written.{comma_if, compact_text, items_text}
use Rattle.bsp_records.specs.Diagnostics.{diagnostic_data}
use Rattle.bsp_records.specs.Shown.{shown}
use Rattle.bsp_records.specs.declared.diagnostics.DiagnosticRecord.{DiagnosticRecord}
use Rattle.bsp_records.proofs.PrintingLaws.{next_item, printed_on}
use Rattle.bsp_records.proofs.printing.print_list.Goals as goal

pub diagnostics-preserved : goal.diagnostics-preserved
diagnostics-preserved c =
    let d : Diagnostic = c.in-Some.diagnostic.now in
    let others : List Diagnostic = c.in-Some.others.now in
    let out : List ℕ = c.diagnostics.out.items in
    let later = c.diagnostics.later in
    let rest_is : c.diagnostics.rest.now ≡ d ∷ others = grind (arith, common_steps) in
    let rest = map diagnostic_data (map shown others) in
    let text : c.print.new.out.items ≡ (out ++ comma_if later) ++ compact_text (diagnostic_data (shown d)) =
    printed_on _ _ _ _ c.in_ok-print.ensures c.in_ok-print_comma.ensures ∙ ap (λ (r : DiagnosticRecord). (out ++ comma_if later) ++ compact_text (diagnostic_data r)) c.in_ok-show.ensures.shown in
    ap (λ (o : List ℕ). o ++ items_text true (items_of rest)) text
    ∙ (next_item out later (diagnostic_data (shown d)) rest
    ∙ (ap (λ (ds : List Diagnostic). out ++ items_text later (items_of (map diagnostic_data (map shown ds)))) (sym rest_is)
    ∙ c.diagnostics.invariant))
