use Rattle.std.specs.Prelude.{ℕ, List, ◌≡◌, ◌++◌, drop}
use Rattle.iface_key.specs.Keys.{text_then}
use Rattle.iface_key.proofs.printing.put_text.Given as goal

abbrev pub invariant-loop-byte : goal.invariant-loop-byte
invariant-loop-byte l = (rest : List ℕ) → l.key.items ++ text_then (drop l.byte-index l.text) rest ≡ l.initial.key.items ++ text_then l.text rest
