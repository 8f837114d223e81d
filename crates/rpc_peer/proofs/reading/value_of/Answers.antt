use Rattle.std.proofs.Common.{sym, ap, ◌∙◌}
use Rattle.serde_json.specs.Read.{read}
use Rattle.rpc_peer.proofs.Bodies.{body_value-of_text, body_value-of_bytes}
use Rattle.rpc_peer.proofs.reading.value_of.Goals as goal

pub returns-in_default : goal.returns-in_default
returns-in_default c = sym (body_value-of_bytes c.args.body.now c.in_default.ensures.cases.0)

pub returns-in-Ok-from_str : goal.returns-in-Ok-from_str
returns-in-Ok-from_str c =
    sym (body_value-of_text c.args.body.now c.in-Ok.ensures.cases.1 ∙ (ap read (sym c.in-Ok.ensures.cases.0) ∙ c.in-Ok-from_str.ensures.ok))
