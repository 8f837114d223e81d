use Rattle.std.proofs.Common.{◌≡◌, List, IfOk, rules}
use Rattle.std.specs.List.{All}
use Rattle.std.proofs.lemmas.Result.{IfOk-weaker}
use Rattle.ob_text.specs.declared.diagnostic.Diagnostic.{Diagnostic}
use Rattle.document_rules.specs.Diagnosed.{Diagnosed, IsNameless, IsAscending}
use Rattle.oberon_check.proofs.Laws.{all_nameless, all_in_order}
use Rattle.document_rules.proofs.OneDiagnosis.{one_list}
use Rattle.oberon_check.proofs.document.diagnose.Goals as goal

pub returns-in-Text-clause-only : goal.returns-in-Text-clause-only
returns-in-Text-clause-only c =
    let held = c.args.held.now in
    let found : IfOk c.diagnose_text.result (λ list. Diagnosed held list.items) = search rules in
    IfOk-weaker c.diagnose_text.result (λ list. Diagnosed held list.items) (λ list. (other : List Diagnostic) → Diagnosed held other → other ≡ list.items)
    (λ list d other e. one_list held other list.items e d) found

pub returns-in-Text-clause-nameless : goal.returns-in-Text-clause-nameless
returns-in-Text-clause-nameless c =
    let held = c.args.held.now in
    let found : IfOk c.diagnose_text.result (λ list. Diagnosed held list.items) = search rules in
    IfOk-weaker c.diagnose_text.result (λ list. Diagnosed held list.items) (λ list. All IsNameless list.items)
    (λ list d. all_nameless held list.items d) found

pub returns-in-Text-clause-in_order : goal.returns-in-Text-clause-in_order
returns-in-Text-clause-in_order c =
    let held = c.args.held.now in
    let found : IfOk c.diagnose_text.result (λ list. Diagnosed held list.items) = search rules in
    IfOk-weaker c.diagnose_text.result (λ list. Diagnosed held list.items) (λ list. IsAscending list.items)
    (λ list d. all_in_order held list.items d) found
