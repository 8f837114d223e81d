use Rattle.std.proofs.Common.{◌≡◌, ◌∷◌, [], inl, inr}
use Rattle.std.proofs.lemmas.Result.{IfOk-weaker}
use Rattle.oberon_tree.specs.Memory.{tree_of}
use Rattle.document_rules.specs.Diagnosed.{TokensDiagnosed, bad_token, bad_span}
use Rattle.oberon_check.proofs.document.diagnose_tokens.Goals.{in-Ok, in-Err-FirstBad, in-Err-NoMemory}
use Rattle.oberon_check.proofs.document.diagnose_tokens.Goals as goal

pub returns : goal.returns
returns c =
    let text = c.args.text.now in
    let tokens = c.args.tokens.now in
    elim c.match-parse.branch [
      | in-Ok w ↦
          let said = w.in-Ok.ensures {u = tt} in
          rw w.result-is (inl ((tree_of w.in-Ok.field-0, said.tree, said.levels), w.new.ensures.items))
      | in-Err-FirstBad w ↦
          let bad = w.in-Err-FirstBad.ensures {u = tt} in
          rw w.result-is (IfOk-weaker w.list_of_bad_token.result (λ list. list.items ≡ bad_token text (bad_span tokens w.in-Err-FirstBad.index) ∷ []) (λ list. TokensDiagnosed text tokens list.items)
          (λ list e. inr (record {
            index = w.in-Err-FirstBad.index;
            first = bad.first_bad _ w.in-Err-FirstBad.field-0-is;
            only = e;
          })) w.list_of_bad_token.ensures)
      | in-Err-NoMemory w ↦ rw w.result-is tt
    ]
