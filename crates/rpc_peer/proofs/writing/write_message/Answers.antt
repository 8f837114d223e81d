use Rattle.std.proofs.Common.{◌≡◌, ◌≤◌, Some, string_bytes, sym, ap, subst, ◌∙◌}
use Rattle.std.proofs.lemmas.Str.{IsUtf8-string_bytes}
use Rattle.serde_json.specs.Data.{depth}
use Rattle.serde_json.specs.Read.{read, max_depth}
use Rattle.serde_json.specs.View.{view}
use Rattle.rpc_peer.specs.Meaning.{meaning}
use Rattle.rpc_peer.specs.Said.{said}
use Rattle.rpc_peer.proofs.ReadAgain.{means_again}
use Rattle.rpc_peer.proofs.writing.write_message.Goals as goal

pub returns-clause-again : goal.returns-clause-again
returns-clause-again c returns =
    let value_is = c.in_ok-value.ensures.value in
    let nests : depth (view c.in_ok-value.value) ≤ max_depth = subst (λ d. depth d ≤ max_depth) (sym value_is) returns.nests in
    let reads : read (string_bytes c.in_ok-text.text) ≡ Some (view c.in_ok-value.value) = c.in_ok-text.ensures.reads_back nests in
    let means = means_again (said c.args.message.now) (string_bytes c.in_ok-text.text) returns c.in_ok-value.ensures.code (IsUtf8-string_bytes c.in_ok-text.text) (reads ∙ ap Some value_is) in
    ap (λ v. meaning v.items) c.into_bytes.ensures.value ∙ means
