use Rattle.std.proofs.Common.{rules, ◌≡◌, ◌++◌, ◌∙◌, List, ℕ, ap}
use Rattle.std.specs.Prelude.{codes}
use Rattle.serde_json.specs.Written.{compact_text}
use Rattle.bsp_records.specs.Diagnostics.{publish_diagnostics_params_data}
use Rattle.build_messages.proofs.OutgoingLaws.{body_is}
use Rattle.build_messages.proofs.outgoing.publication_body.Goals as goal

pub returns : goal.returns
returns c =
    let params = publish_diagnostics_params_data c.args.piece.now in
    let front = codes "{\"jsonrpc\":\"2.0\",\"method\":\"build/publishDiagnostics\",\"params\":" in
    let begun : c.in_ok-body.body.items ≡ front = c.in_ok-body.ensures.items in
    let printed : c.print.new.out.items ≡ front ++ compact_text params = c.in_ok-print.ensures ∙ ap (λ (o : List ℕ). o ++ compact_text params) begun in
    let closed : c.extend_from_slice.new.self.items ≡ c.print.new.out.items ++ codes "}" = search rules in
    closed ∙ (ap (λ (o : List ℕ). o ++ codes "}") printed ∙ body_is params)
