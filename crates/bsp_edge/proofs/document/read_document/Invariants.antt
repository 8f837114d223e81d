use Rattle.std.proofs.Common.{◌-◌, ◌+◌, vec_len}
use Rattle.std.specs.Io.KnownBytes.{Consumes}
use Rattle.ob_text.specs.Held.{text_limit}
use Rattle.bsp_edge.proofs.document.read_document.Given as goal

abbrev pub invariant-loop-bytes : goal.invariant-loop-bytes
invariant-loop-bytes g l = Consumes (g.I.Read.remaining l.initial.input) (g.I.Read.remaining l.input) l.bytes.items

abbrev pub decreases-loop-bytes : goal.decreases-loop-bytes
decreases-loop-bytes g l = text_limit + 1 - vec_len l.bytes
