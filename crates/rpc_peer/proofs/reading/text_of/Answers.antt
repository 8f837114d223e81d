use Rattle.std.proofs.lemmas.Str.{IsUtf8-string_bytes}
use Rattle.rpc_peer.proofs.reading.text_of.Goals as goal

pub returns-clause-utf8 : goal.returns-clause-utf8
returns-clause-utf8 g c = rw c.from_vec.ensures (rw c.into_bytes.ensures.value (IsUtf8-string_bytes c.args.text))
