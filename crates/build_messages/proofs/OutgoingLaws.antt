-- The body of a publication, by the text of its params.
use Rattle.std.proofs.Common.{◌≡◌, ◌++◌, Some, refl}
use Rattle.std.specs.Prelude.{codes}
use Rattle.serde_json.specs.Data.{Data}
use Rattle.serde_json.specs.Written.{compact_text}
use Rattle.serde_json.proofs.OnLiterals.{serde_json_on_literals}
use Rattle.rpc_peer.specs.Said.{notification, body_of}

pub body_is : (params : Data)
    → (codes "{\"jsonrpc\":\"2.0\",\"method\":\"build/publishDiagnostics\",\"params\":" ++ compact_text params) ++ codes "}"
    ≡ body_of (notification (codes "build/publishDiagnostics") (Some params))
unfolding body_of serde_json_on_literals
body_is params = refl
