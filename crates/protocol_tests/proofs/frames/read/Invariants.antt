use Rattle.std.proofs.Common.{◌+◌, ◌≤◌, length}
use Rattle.rpc_frame.specs.Limits.{stream_limit}
use Rattle.protocol_tests.proofs.frames.read.Given as goal

abbrev pub invariant-pieces : goal.invariant-pieces
invariant-pieces l =
    l.decoder.given_end + length l.decoder.bytes + length l.rest ≤ stream_limit

abbrev pub decreases-pieces : goal.decreases-pieces
decreases-pieces l = length l.rest
