use Rattle.std.proofs.Common.{◌+◌, ◌≤◌, length}
use Rattle.rpc_frame.specs.Limits.{stream_limit}
use Rattle.rpc_frame.specs.Partial.{GoesOn, IsFitReading}
use Rattle.rpc_frame.proofs.ScanLaws.{ReadsOn}
use Rattle.rpc_frame.proofs.scan.scan.Given as goal

abbrev pub invariant-pieces : goal.invariant-pieces
invariant-pieces l = record {
  within : IsFitReading l.reading;
  bound : l.offset + length l.rest ≤ stream_limit;
  reads_on : ReadsOn l.fn.reading l.reading l.fn.marks.items l.marks.items l.fn.piece l.rest l.fn.begun l.offset;
  goes_on : GoesOn l.fn.marks.items l.marks.items;
}

abbrev pub decreases-pieces : goal.decreases-pieces
decreases-pieces l = length l.rest
