use Rattle.std.proofs.Common.{◌≡◌, length}
use Rattle.bsp_cli.proofs.writing.write_all.Given as goal
use Rattle.bsp_cli.proofs.WritingLaws.{GivesSoFar}

abbrev pub invariant-pieces : goal.invariant-pieces
invariant-pieces g l =
    record {
      gives : GivesSoFar (g.K.Sink.given l.initial.output) (g.K.Sink.given l.output) l.bytes l.rest;
      same : g.K.Sink.faults l.output ≡ g.K.Sink.faults l.initial.output;
    }

abbrev pub decreases-pieces : goal.decreases-pieces
decreases-pieces g l = length l.rest
